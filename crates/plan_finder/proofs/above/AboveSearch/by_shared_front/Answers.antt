use Rattle.std.proofs.Common.{◌≡◌, ◌∙◌, ℕ, false, length, replicate, sym, ap, subst}
use Rattle.win_vectors.specs.Fronts.{Vector}
use Rattle.strategy_games.specs.Plans.{tree_size}
use Rattle.strategy_tree.specs.Bridge.{bridge}
use Rattle.strategy_tree.proofs.BridgeNodes.{tree_size-positive}
use Rattle.alphamu_core.proofs.Paid.{costs_one}
use Rattle.plan_finder.specs.Above.{AreAbove}
use Rattle.plan_finder.proofs.AboveSoFar.{whole_above, above_part}
use Rattle.plan_finder.proofs.above.AboveSearch.by_shared_front.Goals as goal

pub returns-in-Some-clause-above : goal.returns-in-Some-clause-above
returns-in-Some-clause-above g c =
    let none : c.none-none.result ≡ replicate (length c.args.node.now.lefts) false = c.none-none.ensures ∙ ap (λ (width : ℕ). replicate width false) c.width.ensures.value in
    above_part c.args.node.now c.args.moves c.args.target.now c.in-Some.whole c.in_ok-part_above.field-0 c.requires.width
    (subst (λ (v : Vector). AreAbove c.args.node.now c.args.moves v c.in-Some.whole) none c.in-Some.ensures) c.in_ok-part_above.ensures.part c.in_ok-part_above.ensures.width

pub returns-in-Some-clause-costs : goal.returns-in-Some-clause-costs
returns-in-Some-clause-costs g c =
    costs_one ⊥ (tree_size bridge c.args.node.now c.args.moves) c.args.self.now.budget.now.left c.enter.new.self.left c.in_ok-part_above.field-0 (λ each. absurd each) (tree_size-positive c.args.node.now c.args.moves) c.in_ok-enter.ensures.paid

pub offer-requires : goal.offer-requires
offer-requires g c =
    let none : c.none-none.result ≡ replicate (length c.args.node.now.lefts) false = c.none-none.ensures ∙ ap (λ (width : ℕ). replicate width false) c.width.ensures.value in
    subst (λ (v : Vector). AreAbove c.args.node.now c.args.moves v c.in_ok-whole.whole) (sym none) (whole_above c.args.node.now c.args.moves c.in_ok-whole.whole c.in_ok-whole.ensures.front)
