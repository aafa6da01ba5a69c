use Rattle.std.proofs.Common.{Err, ap}
use Rattle.am_answer.specs.Refusals.{root_status}
use Rattle.am_answer.proofs.Passed.{refused_by}
use Rattle.job_cards.specs.Cards.{IsCardsRefusal}
use Rattle.job_cards.proofs.Endings.{table_of, refusal_of}
use Rattle.job_cards.proofs.job.cards_of.Goals as goal

pub returns-in_err-found-clause-refused : goal.returns-in_err-found-clause-refused
returns-in_err-found-clause-refused c =
    refused_by (IsCardsRefusal c.args.root.now c.args.moves c.args.search.now) c.from_residual-in_err-found.result (root_status c.in_err-found.field-0.0) c.from_residual-in_err-found.ensures.1
    (refusal_of _ c.args.root.now c.root.view_is c.args.moves c.options_of-options.result c.args.search.now c.options_of-options.ensures c.in_err-found.field-0.0 (λ card is. c.in_err-found.ensures.spent card (ap Err is)))

pub returns-clause-table : goal.returns-clause-table
returns-clause-table c = table_of _ c.args.root.now c.root.view_is c.args.moves c.in_ok-found.found c.in_ok-found.ensures.table
