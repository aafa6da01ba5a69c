use Rattle.job_cards.proofs.Endings.{text_of}
use Rattle.job_cards.proofs.job.tell_cards.Goals as goal

pub returns-clause-text : goal.returns-clause-text
returns-clause-text c =
    text_of _ c.args.root.now c.root.view_is c.args.moves c.args.form c.in_ok-found.found c.in_ok-cards_in.field-0 c.in_ok-found.ensures.table c.in_ok-cards_in.ensures
