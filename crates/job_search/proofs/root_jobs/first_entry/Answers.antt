use Rattle.std.proofs.Common.{Err, ap, arith}
use Rattle.strategy_tree.specs.declared.root_fault.RootFault.TheVariants.{Spent}
use Rattle.root_answers.proofs.ReportedFronts.{reported_filled}
use Rattle.am_answer.proofs.Passed.{passed_on}
use Rattle.job_search.proofs.Firsts.{first_target, first_chosen}
use Rattle.job_search.proofs.root_jobs.first_entry.Goals as goal

pub index-requires : goal.index-requires
index-requires c =
    let filled = reported_filled c.args.question.now.node.now c.args.question.now.weights.now c.args.question.now.moves c.in_ok-vectors.vectors.items c.width.ensures.a_node c.in_ok-vectors.ensures in
    omega (arith, filled, c.in_ok-vectors.vectors.ok)

pub chosen_plan-requires-clause-target : goal.chosen_plan-requires-clause-target
chosen_plan-requires-clause-target c =
    first_target c.args.question.now.node.now c.args.question.now.weights.now c.args.question.now.moves c.in_ok-vectors.vectors.items c.index.result.now c.width.ensures.a_node c.in_ok-vectors.ensures c.index.ensures

pub returns-in_err-chosen_plan-clause-spent : goal.returns-in_err-chosen_plan-clause-spent
returns-in_err-chosen_plan-clause-spent c = λ card e.
    c.in_err-chosen_plan.ensures.spent card (ap Err (passed_on c.from_residual-in_err-chosen_plan.result c.in_err-chosen_plan.field-0.0 (Spent card) c.from_residual-in_err-chosen_plan.ensures.1 e))

pub returns-clause-first : goal.returns-clause-first
returns-clause-first c =
    let filled = reported_filled c.args.question.now.node.now c.args.question.now.weights.now c.args.question.now.moves c.in_ok-vectors.vectors.items c.width.ensures.a_node c.in_ok-vectors.ensures in
    first_chosen c.args.question.now.node.now c.args.question.now.weights.now c.args.question.now.moves c.in_ok-vectors.vectors.items c.index.result.now _ c.in_ok-vectors.ensures filled c.index.ensures c.in_ok-chosen_plan.ensures.plan
