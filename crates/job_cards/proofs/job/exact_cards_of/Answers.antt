use Rattle.job_cards.proofs.Endings.{planned_of}
use Rattle.job_cards.proofs.job.exact_cards_of.Goals as goal

pub returns-clause-table : goal.returns-clause-table
returns-clause-table c =
    planned_of _ c.args.root.now c.root.view_is c.args.nodes c.args.moves c.in_ok-found.found c.in_ok-found.ensures.table c.in_ok-found.ensures.spent
