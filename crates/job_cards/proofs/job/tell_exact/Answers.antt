use Rattle.job_cards.proofs.Endings.{exact_of}
use Rattle.job_cards.proofs.job.tell_exact.Goals as goal

pub returns-clause-text : goal.returns-clause-text
returns-clause-text c =
    exact_of _ c.args.root.now c.root.view_is c.args.nodes c.args.form c.in_ok-found.found c.in_ok-exact_in.field-0 c.in_ok-found.ensures.table c.in_ok-found.ensures.spent c.in_ok-exact_in.ensures
