use Rattle.bit_answers.proofs.Asked.{search_faults}
use Rattle.bit_answers.proofs.searches.root_card.Goals as goal

pub returns-clause-refused : goal.returns-clause-refused
returns-clause-refused c = search_faults c.args.asked.now c.card.result c.card.ensures.spent
