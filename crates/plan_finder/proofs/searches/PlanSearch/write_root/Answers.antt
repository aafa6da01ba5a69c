use Rattle.std.proofs.Common.{◌≡◌, ◌∙◌, sym, ap, subst, Err, arith}
use Rattle.strategy_tree.specs.declared.root_fault.RootFault.TheVariants.{Spent as RootSpent}
use Rattle.plan_finder.specs.SpentPlans.{IsPlanSpentAt}
use Rattle.plan_finder.proofs.SameSearch.{same_more, still_larger}
use Rattle.plan_finder.proofs.Picks.{open_at, length-of_front, too_large_first, too_large_below, node_after, vector_after, passed_on}
use Rattle.plan_finder.proofs.WrittenPlans.{stop_written, play_written}
use Rattle.plan_finder.proofs.searches.PlanSearch.write_root.Goals as goal

pub returns-then-stops-clause-plan : goal.returns-then-stops-clause-plan
returns-then-stops-clause-plan g c = stop_written c.args.node.now c.args.moves c.args.target.now _ _ (sym c.stops.ensures ∙ c.if-stops.true) c.in_ok-push_stop.ensures

pub prove-unreachable-requires : goal.prove-unreachable-requires
prove-unreachable-requires g c =
    let same = length-of_front c.args.node.now c.args.moves c.args.target.now c.requires.target in
    c.if-prove.true (c.width.ensures.value ∙ same ∙ sym c.width-2.ensures.value)

pub first_choice-requires-clause-goes_on : goal.first_choice-requires-clause-goes_on
first_choice-requires-clause-goes_on g c = open_at c.args.node.now c.args.moves c.stops.result c.stops.ensures c.if-stops.false

pub returns-in_err-first-clause-spent : goal.returns-in_err-first-clause-spent
returns-in_err-first-clause-spent g c = λ card e.
    let goes_on = open_at c.args.node.now c.args.moves c.stops.result c.stops.ensures c.if-stops.false in
    let fault = passed_on c.from_residual-in_err-first.result c.in_err-first.field-0.0 (RootSpent card) c.from_residual-in_err-first.ensures.1 e in
    too_large_first c.args.node.now c.args.moves c.args.target.now c.args.self.now.nodes card goes_on c.requires.target (c.in_err-first.ensures.spent card (ap Err fault))

pub write_below-requires-clause-few_moves : goal.write_below-requires-clause-few_moves
write_below-requires-clause-few_moves g c = omega (arith, c.requires.few_moves)

pub write_below-requires-clause-a_node : goal.write_below-requires-clause-a_node
write_below-requires-clause-a_node g c = node_after c.args.node.now c.args.moves c.args.target.now c.in_ok-first.first c.in_ok-first.ensures.first c.width-2.ensures.a_node

pub write_below-requires-clause-vector : goal.write_below-requires-clause-vector
write_below-requires-clause-vector g c = vector_after c.args.node.now c.args.moves c.args.target.now c.in_ok-first.first c.in_ok-first.ensures.first

pub returns-in-Ok-clause-plan : goal.returns-in-Ok-clause-plan
returns-in-Ok-clause-plan g c =
    let goes_on = open_at c.args.node.now c.args.moves c.stops.result c.stops.ensures c.if-stops.false in
    play_written c.args.node.now c.args.moves c.args.target.now c.in_ok-first.first _ _ _ goes_on c.requires.ours c.requires.target c.in_ok-first.ensures.first c.in_ok-push_play.ensures c.in-Ok.ensures.plan

pub returns-clause-spent : goal.returns-clause-spent
returns-clause-spent g c = λ card e.
    let goes_on = open_at c.args.node.now c.args.moves c.stops.result c.stops.ensures c.if-stops.false in
    let named : c.at_card.result ≡ RootSpent card = cc in
    let fault = c.at_card.ensures.only card named in
    subst (λ card. IsPlanSpentAt c.args.node.now c.args.moves c.args.target.now c.args.self.now.nodes card) (sym fault.0)
    (too_large_below c.args.node.now c.args.moves c.args.target.now c.args.self.now.nodes c.in_ok-first.first goes_on c.requires.target c.in_ok-first.ensures.first (still_larger c.in_ok-first.ensures.same _ (c.in-Err.ensures.spent (ap Err fault.1))))

pub returns-clause-same : goal.returns-clause-same
returns-clause-same g c = same_more g.met.S.FrontStore.grown_more c.in_ok-first.ensures.same c.in-Err.ensures.same

pub returns-in-Ok-clause-same : goal.returns-in-Ok-clause-same
returns-in-Ok-clause-same g c = same_more g.met.S.FrontStore.grown_more c.in_ok-first.ensures.same c.in-Ok.ensures.same
