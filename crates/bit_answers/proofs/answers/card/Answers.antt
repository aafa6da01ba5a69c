use Rattle.std.proofs.Common.{◌∙◌}
use Rattle.bit_answers.proofs.Asked.{choice_of}
use Rattle.bit_answers.proofs.answers.card.Goals as goal

pub returns-clause-choice : goal.returns-clause-choice
returns-clause-choice c =
    choice_of c.args.question.now c.args.lefts.now c.args.weights.now c.in_ok-asked.asked c.in_ok-asked.ensures.asked
    c.in_ok-found.found.card c.from.result c.in_ok-found.found.weight (c.from.ensures ∙ c.number.ensures.value) c.in_ok-found.ensures.card c.in_ok-found.ensures.weight
