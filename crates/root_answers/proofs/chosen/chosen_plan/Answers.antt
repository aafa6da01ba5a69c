use Rattle.std.proofs.Common.{Err, ap, subst}
use Rattle.strategy_tree.specs.declared.root_fault.RootFault.TheVariants.{Spent}
use Rattle.plan_finder.specs.declared.wanted.Wanted.{Wanted}
use Rattle.plan_finder.specs.SpentPlans.{IsPlanSpentAt}
use Rattle.root_workers.proofs.Stops.{passed_on}
use Rattle.root_answers.proofs.chosen.chosen_plan.Goals as goal

pub returns-in_err-found-clause-spent : goal.returns-in_err-found-clause-spent
returns-in_err-found-clause-spent c = λ card e.
    let spent = subst (λ (w : Wanted). IsPlanSpentAt w.node.now w.moves w.target.now w.nodes card) c.plan_wanted-wanted.ensures (c.in_err-found.ensures.spent card (ap Err (passed_on c.from_residual.result c.in_err-found.field-0.0 (Spent card) c.from_residual.ensures.1 e))) in
    (spent.choice, spent.larger)

pub returns-in_err-found-2-clause-spent : goal.returns-in_err-found-2-clause-spent
returns-in_err-found-2-clause-spent c = λ card e.
    let spent = subst (λ (w : Wanted). IsPlanSpentAt w.node.now w.moves w.target.now w.nodes card) c.plan_wanted-wanted.ensures (c.in_err-found-2.ensures.spent card (ap Err (passed_on c.from_residual-in_err-found-2.result c.in_err-found-2.field-0.0 (Spent card) c.from_residual-in_err-found-2.ensures.1 e))) in
    (spent.choice, spent.larger)
