use Rattle.std.proofs.Common.{◌≡◌, ◌∙◌, ◌++◌, ℕ, List, [], Err, take, sym, ap, subst, arith}
use Rattle.std.proofs.lemmas.List.{take_all}
use Rattle.win_vectors.specs.Fronts.{Vector}
use Rattle.strategy_tree.specs.declared.root_fault.RootFault.TheVariants.{Spent}
use Rattle.plan_finder.specs.declared.wanted.Wanted.{Wanted}
use Rattle.plan_finder.specs.SpentPlans.{IsPlanSpentAt}
use Rattle.plan_finder.specs.Targets.{IsOfFront}
use Rattle.plan_finder.specs.Written.{IsPlanWritten}
use Rattle.plan_finder.proofs.Picks.{length-of_front}
use Rattle.root_workers.proofs.Stops.{passed_on}
use Rattle.root_answers.specs.EntryTexts.{AreEntriesWritten}
use Rattle.root_answers.proofs.ReportedFronts.{target_here}
use Rattle.root_answers.proofs.WrittenEntries.{none_written, one_more_written}
use Rattle.root_answers.proofs.written.written.Goals as goal

pub loop-vector-init : goal.loop-vector-init
loop-vector-init g c =
    subst (λ (text : List ℕ). AreEntriesWritten c.args.question.now.node.now c.args.question.now.weights.now c.args.question.now.moves (take 0 c.args.vectors.now) [] text) (sym c.for_front-out.ensures)
    (none_written c.args.question.now.node.now c.args.question.now.weights.now c.args.question.now.moves c.args.vectors.now [])

pub vector_text-requires : goal.vector_text-requires
vector_text-requires g c =
    let target = target_here c.args.question.now.node.now c.args.question.now.moves c.args.vectors.now c.loop-vector.vector-index c.vector-item.result c.requires.targets c.loop-vector-test.true c.vector-item.is in
    c.requires.question.weights ∙ sym (length-of_front c.args.question.now.node.now c.args.question.now.moves c.vector-item.result target)

pub push_plan-requires-clause-target : goal.push_plan-requires-clause-target
push_plan-requires-clause-target g c =
    subst (λ (w : Wanted). IsOfFront w.node.now w.moves w.target.now) (sym c.plan_wanted.ensures)
    (target_here c.args.question.now.node.now c.args.question.now.moves c.args.vectors.now c.loop-vector.vector-index c.vector-item.result c.requires.targets c.loop-vector-test.true c.vector-item.is)

pub returns-in_err-push_plan-clause-spent : goal.returns-in_err-push_plan-clause-spent
returns-in_err-push_plan-clause-spent g c = λ card e.
    let spent = subst (λ (w : Wanted). IsPlanSpentAt w.node.now w.moves w.target.now w.nodes card) c.plan_wanted.ensures (c.in_err-push_plan.ensures.spent card (ap Err (passed_on c.from_residual-in_err-push_plan.result c.in_err-push_plan.field-0.0 (Spent card) c.from_residual-in_err-push_plan.ensures.1 e))) in
    (spent.choice, spent.larger)

pub loop-vector-preserved : goal.loop-vector-preserved
loop-vector-preserved g c =
    one_more_written c.args.question.now.node.now c.args.question.now.weights.now c.args.question.now.moves c.args.vectors.now c.loop-vector.vector-index c.vector-item.result [] c.loop-vector.out c.push.new.self c.push_plan.new.self
    c.loop-vector.invariant c.loop-vector-test.true c.vector-item.is (c.in_ok-push.ensures ∙ ap (λ (text : List ℕ). c.loop-vector.out ++ text) (c.bytes.ensures ∙ c.in_ok-line.ensures))
    (subst (λ (w : Wanted). IsPlanWritten w.node.now w.moves w.target.now c.push.new.self c.push_plan.new.self) c.plan_wanted.ensures c.in_ok-push_plan.ensures.plan)

pub returns-clause-lines : goal.returns-clause-lines
returns-clause-lines g c =
    let n = c.args.question.now.node.now in
    let whole : take c.loop-vector.vector-index c.args.vectors.now ≡ c.args.vectors.now = take_all c.loop-vector.vector-index c.args.vectors.now (omega (arith, c.loop-vector-test.false)) in
    subst (λ (lines : List ℕ). AreEntriesWritten n c.args.question.now.weights.now c.args.question.now.moves c.args.vectors.now [] lines) (sym (c.in_ok-lines.ensures ∙ c.bytes-2.ensures))
    (subst (λ (vs : List Vector). AreEntriesWritten n c.args.question.now.weights.now c.args.question.now.moves vs [] c.loop-vector.out) whole c.loop-vector.invariant)
