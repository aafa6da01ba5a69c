use Rattle.std.proofs.Common.{◌∙◌, ◌-◌, length, refl, sym, ap, subst, arith, rules}
use Rattle.win_vectors.specs.Fronts.{Vector}
use Rattle.trick_rules.specs.Nodes.{NodeValue}
use Rattle.alphamu_core.proofs.Taken.{taken_first}
use Rattle.alphamu_core.proofs.OpenNodes.{fewer_cards, size_ours, size_theirs}
use Rattle.alphamu_core.proofs.Paid.{costs_one, costs_none, paid_none, paid_more, paid_memory, paid_all, paid_below}
use Rattle.alphamu_core.proofs.OursSoFar.{ours_next, ours_width}
use Rattle.alphamu_core.proofs.TheirsSoFar.{theirs_next}
use Rattle.strategy_games.specs.Plans.{tree_size}
use Rattle.strategy_tree.specs.Bridge.{bridge}
use Rattle.strategy_tree.proofs.CardLists.{has_card-from_Contains}
use Rattle.plan_finder.proofs.SameAbove.{above_none, above_more}
use Rattle.plan_finder.proofs.AboveSoFar.{ours_above_none, ours_above_more, ours_above_enough, ours_above_all, theirs_above_none, theirs_above_more, theirs_above_all, theirs_above_covered, theirs_above_cut, some_bits, part_wide, won_wide}
use Rattle.strategy_tree.proofs.BridgeNodes.{tree_size-positive}
use Rattle.plan_finder.proofs.DoubleDummy.{lost_keeps_none}
use Rattle.plan_finder.proofs.PartsAbove.{nothing_above}
use Rattle.plan_finder.specs.Above.{AreAbove}
use Rattle.pareto_fronts.specs.FrontValue.{FrontValue}
use Rattle.plan_finder.proofs.above.AboveSearch.+above.Goals as goal

-- ---- declarer's side

pub at_declarer-cards-init : goal.at_declarer-cards-init
at_declarer-cards-init g t c =
    let n : NodeValue = c.args.node.now in
    let enough = c.cards_to_try-cards.ensures.enough in
    record {
      so = ours_above_none n (c.args.moves - 1) c.args.target.now c.cards_to_try-cards.result c.new-front.result enough c.new-front.ensures.empty (c.new-front.ensures.width ∙ c.width.ensures.value);
      paid = paid_none ⊥ n (c.args.moves - 1) c.cards_to_try-cards.result c.args.self.now.budget.now.left enough (λ each. absurd each);
      same = above_none g.met.S.FrontStore.grown_none c.args.self.now;
    }

pub at_declarer-child-requires : goal.at_declarer-child-requires
at_declarer-child-requires g t c = has_card-from_Contains _ _ (ours_next c.args.node.now (c.args.moves - 1) c.cards.invariant.so.so c.in-Some.ensures.taken)

pub at_declarer-returns-in_err-child-clause-costs : goal.at_declarer-returns-in_err-child-clause-costs
at_declarer-returns-in_err-child-clause-costs g t c =
    let size = size_ours c.args.node.now c.args.moves c.width.ensures.a_node c.requires.goes_on c.requires.ours in
    paid_memory ⊥ c.args.node.now (c.args.moves - 1) c.cards.invariant.paid c.args.moves size c.from_residual.result c.from_residual.ensures.1

pub at_declarer-visit-requires : goal.at_declarer-visit-requires
at_declarer-visit-requires g t c κs within =
    let so = c.cards.invariant.so.so in
    let taken = c.in-Some.ensures.taken in
    let less = fewer_cards _ _ _ c.width.ensures.a_node (ours_next c.args.node.now (c.args.moves - 1) so taken) c.in_ok-child.ensures.node in
    (omega arith, (within, (omega (arith, c.requires.few_moves), c.requires.width ∙ sym so.width ∙ ours_width c.args.node.now (c.args.moves - 1) so taken c.in_ok-child.ensures.node c.requires.ours)))

pub at_declarer-returns-in_err-won-clause-costs : goal.at_declarer-returns-in_err-won-clause-costs
at_declarer-returns-in_err-won-clause-costs g t c =
    let size = size_ours c.args.node.now c.args.moves c.width.ensures.a_node c.requires.goes_on c.requires.ours in
    paid_below ⊥ c.args.node.now (c.args.moves - 1) c.cards.invariant.paid c.args.moves size c.in-Some.ensures.taken c.in_ok-child.ensures.node
    c.from_residual-in_err-won.result c.in_err-won.field-0.0 c.in_err-won.ensures.costs c.from_residual-in_err-won.ensures.1

pub at_declarer-union-requires : goal.at_declarer-union-requires
at_declarer-union-requires g t c =
    let so = c.cards.invariant.so in
    c.in_ok-won.ensures.above.width ∙ sym (ours_width c.args.node.now (c.args.moves - 1) so.so c.in-Some.ensures.taken c.in_ok-child.ensures.node c.requires.ours) ∙ so.so.width ∙ sym so.width

pub at_declarer-returns-in_err-union-clause-costs : goal.at_declarer-returns-in_err-union-clause-costs
at_declarer-returns-in_err-union-clause-costs g t c =
    let size = size_ours c.args.node.now c.args.moves c.width.ensures.a_node c.requires.goes_on c.requires.ours in
    let paid = paid_more ⊥ c.args.node.now (c.args.moves - 1) c.cards.invariant.paid c.in-Some.ensures.taken c.in_ok-child.ensures.node c.in_ok-won.won c.in_ok-won.ensures.costs in
    paid_memory ⊥ c.args.node.now (c.args.moves - 1) paid c.args.moves size c.from_residual-in_err-union.result c.from_residual-in_err-union.ensures.1

pub at_declarer-cards-preserved : goal.at_declarer-cards-preserved
at_declarer-cards-preserved g t c = record {
  so = ours_above_more c.args.node.now (c.args.moves - 1) c.args.target.now c.cards.invariant.so c.in-Some.ensures.taken c.in_ok-child.ensures.node c.in_ok-won.won c.union.new.self c.in_ok-won.ensures.above c.in_ok-union.ensures.ok c.in_ok-union.ensures.width;
  paid = paid_more ⊥ c.args.node.now (c.args.moves - 1) c.cards.invariant.paid c.in-Some.ensures.taken c.in_ok-child.ensures.node c.in_ok-won.won c.in_ok-won.ensures.costs;
  same = (let same = above_more g.met.S.FrontStore.grown_more c.cards.invariant.same c.in_ok-won.ensures.same in record { store = same.store; budget = same.budget; nodes = same.nodes; grown = same.grown });
}

pub at_declarer-cards-preserved-else-is_complete : goal.at_declarer-cards-preserved-else-is_complete
at_declarer-cards-preserved-else-is_complete g t c = record {
  so = ours_above_more c.args.node.now (c.args.moves - 1) c.args.target.now c.cards.invariant.so c.in-Some.ensures.taken c.in_ok-child.ensures.node c.in_ok-won.won c.union.new.self c.in_ok-won.ensures.above c.in_ok-union.ensures.ok c.in_ok-union.ensures.width;
  paid = paid_more ⊥ c.args.node.now (c.args.moves - 1) c.cards.invariant.paid c.in-Some.ensures.taken c.in_ok-child.ensures.node c.in_ok-won.won c.in_ok-won.ensures.costs;
  same = (let same = above_more g.met.S.FrontStore.grown_more c.cards.invariant.same c.in_ok-won.ensures.same in record { store = same.store; budget = same.budget; nodes = same.nodes; grown = same.grown });
}

pub at_declarer-returns-in_err-union-clause-same : goal.at_declarer-returns-in_err-union-clause-same
at_declarer-returns-in_err-union-clause-same g t c = above_more g.met.S.FrontStore.grown_more c.cards.invariant.same c.in_ok-won.ensures.same

pub at_declarer-returns-clause-above : goal.at_declarer-returns-clause-above
at_declarer-returns-clause-above g t c =
    ours_above_all c.args.node.now (c.args.moves - 1) c.args.target.now c.cards.invariant.so c.args.moves c.width.ensures.a_node c.requires.goes_on c.requires.ours refl c.in_default.ensures.taken.0

pub at_declarer-returns-clause-costs : goal.at_declarer-returns-clause-costs
at_declarer-returns-clause-costs g t c =
    let size = size_ours c.args.node.now c.args.moves c.width.ensures.a_node c.requires.goes_on c.requires.ours in
    paid_all ⊥ c.args.node.now (c.args.moves - 1) c.cards.invariant.paid c.args.moves size _ (λ each. absurd each)

pub at_declarer-is_complete-requires : goal.at_declarer-is_complete-requires
at_declarer-is_complete-requires g t c = c.in_ok-union.ensures.width ∙ c.cards.invariant.so.width

pub at_declarer-returns-then-is_complete-clause-above : goal.at_declarer-returns-then-is_complete-clause-above
at_declarer-returns-then-is_complete-clause-above g t c =
    let so = ours_above_more c.args.node.now (c.args.moves - 1) c.args.target.now c.cards.invariant.so c.in-Some.ensures.taken c.in_ok-child.ensures.node c.in_ok-won.won c.union.new.self c.in_ok-won.ensures.above c.in_ok-union.ensures.ok c.in_ok-union.ensures.width in
    ours_above_enough c.args.node.now (c.args.moves - 1) c.args.target.now so c.args.moves c.width.ensures.a_node c.requires.goes_on c.requires.ours refl (c.is_complete.ensures c.if-is_complete.true)

pub at_declarer-returns-then-is_complete-clause-costs : goal.at_declarer-returns-then-is_complete-clause-costs
at_declarer-returns-then-is_complete-clause-costs g t c =
    let size = size_ours c.args.node.now c.args.moves c.width.ensures.a_node c.requires.goes_on c.requires.ours in
    let paid = paid_more ⊥ c.args.node.now (c.args.moves - 1) c.cards.invariant.paid c.in-Some.ensures.taken c.in_ok-child.ensures.node c.in_ok-won.won c.in_ok-won.ensures.costs in
    paid_all ⊥ c.args.node.now (c.args.moves - 1) paid c.args.moves size _ (λ each. absurd each)

pub at_declarer-returns-then-is_complete-clause-same : goal.at_declarer-returns-then-is_complete-clause-same
at_declarer-returns-then-is_complete-clause-same g t c =
    let same = above_more g.met.S.FrontStore.grown_more c.cards.invariant.same c.in_ok-won.ensures.same in
    record { store = same.store; budget = same.budget; nodes = same.nodes; grown = same.grown }

-- ---- a defender

pub at_defender-cards-init : goal.at_defender-cards-init
at_defender-cards-init g t c =
    let n : NodeValue = c.args.node.now in
    let enough = c.cards_to_try-cards.ensures.enough in
    record {
      so = theirs_above_none n c.args.moves c.args.target.now c.cards_to_try-cards.result c.new-joiner.result c.width.result enough c.requires.width c.width.ensures.value c.new-joiner.ensures.width c.new-joiner.ensures.front c.new-joiner.ensures.covered;
      paid = paid_none ⊥ n c.args.moves c.cards_to_try-cards.result c.args.self.now.budget.now.left enough (λ each. absurd each);
      same = above_none g.met.S.FrontStore.grown_none c.args.self.now;
    }

pub at_defender-child-requires : goal.at_defender-child-requires
at_defender-child-requires g t c = has_card-from_Contains _ _ (theirs_next c.args.node.now c.args.moves c.cards.invariant.so.so (taken_first _ _ _ c.in-Some.ensures.value))

pub at_defender-returns-in_err-child-clause-costs : goal.at_defender-returns-in_err-child-clause-costs
at_defender-returns-in_err-child-clause-costs g t c =
    let size = size_theirs c.args.node.now c.args.moves c.width.ensures.a_node c.requires.goes_on c.requires.theirs in
    paid_memory ⊥ c.args.node.now c.args.moves c.cards.invariant.paid c.args.moves size c.from_residual.result c.from_residual.ensures.1

pub at_defender-returns-in_err-won-clause-costs : goal.at_defender-returns-in_err-won-clause-costs
at_defender-returns-in_err-won-clause-costs g t c =
    let size = size_theirs c.args.node.now c.args.moves c.width.ensures.a_node c.requires.goes_on c.requires.theirs in
    paid_below ⊥ c.args.node.now c.args.moves c.cards.invariant.paid c.args.moves size (taken_first _ _ _ c.in-Some.ensures.value) c.in_ok-child.ensures.node
    c.from_residual-in_err-won.result c.in_err-won.field-0.0 c.in_err-won.ensures.costs c.from_residual-in_err-won.ensures.1

pub at_defender-restrict-part-requires-clause-not_empty : goal.at_defender-restrict-part-requires-clause-not_empty
at_defender-restrict-part-requires-clause-not_empty g t c =
    some_bits c.args.node.now c.args.moves c.args.target.now c.cards.invariant.so (taken_first _ _ _ c.in-Some.ensures.value) c.in_ok-child.ensures.node c.in_ok-child.mask c.in_ok-child.ensures.mask c.requires.width c.width.ensures.a_node

pub at_defender-visit-requires : goal.at_defender-visit-requires
at_defender-visit-requires g t c κs within =
    let taken = taken_first _ _ _ c.in-Some.ensures.value in
    let less = fewer_cards _ _ _ c.width.ensures.a_node (theirs_next c.args.node.now c.args.moves c.cards.invariant.so.so taken) c.in_ok-child.ensures.node in (
      omega arith,
      (
        within,
        (
          c.requires.few_moves,
          ap (λ (v : Vector). length v) c.restrict-part.ensures
              ∙ part_wide c.args.node.now c.args.moves c.args.target.now c.cards.invariant.so taken c.in_ok-child.ensures.node c.in_ok-child.mask c.in_ok-child.ensures.mask c.requires.width,
        ),
      ),
    )

pub at_defender-add-requires-clause-child_width : goal.at_defender-add-requires-clause-child_width
at_defender-add-requires-clause-child_width g t c =
    won_wide c.args.node.now c.args.moves c.args.target.now c.cards.invariant.so (taken_first _ _ _ c.in-Some.ensures.value) c.in_ok-child.ensures.node c.in_ok-child.mask c.in_ok-child.ensures.mask c.requires.width c.in_ok-won.won
    (subst (λ (t : Vector). AreAbove c.in_ok-child.child c.args.moves t c.in_ok-won.won) c.restrict-part.ensures c.in_ok-won.ensures.above)

pub at_defender-returns-then-is_empty-clause-above : goal.at_defender-returns-then-is_empty-clause-above
at_defender-returns-then-is_empty-clause-above g t c =
    let found = subst (λ (t : Vector). AreAbove c.in_ok-child.child c.args.moves t c.in_ok-won.won) c.restrict-part.ensures c.in_ok-won.ensures.above in
    let none = theirs_above_cut c.args.node.now c.args.moves c.args.target.now c.cards.invariant.so (taken_first _ _ _ c.in-Some.ensures.value) c.in_ok-child.ensures.node c.in_ok-child.mask c.in_ok-child.ensures.mask c.requires.width c.in_ok-won.won c.width.ensures.a_node c.requires.goes_on c.requires.theirs found (c.is_empty.ensures.0 c.if-is_empty.true) in
    nothing_above c.args.target.now c.args.node.now c.args.moves c.no_vectors.result c.width.ensures.a_node none c.no_vectors.ensures.empty c.no_vectors.ensures.width

pub at_defender-returns-then-is_empty-clause-costs : goal.at_defender-returns-then-is_empty-clause-costs
at_defender-returns-then-is_empty-clause-costs g t c =
    let size = size_theirs c.args.node.now c.args.moves c.width.ensures.a_node c.requires.goes_on c.requires.theirs in
    let paid = paid_more ⊥ c.args.node.now c.args.moves c.cards.invariant.paid (taken_first _ _ _ c.in-Some.ensures.value) c.in_ok-child.ensures.node c.in_ok-won.won c.in_ok-won.ensures.costs in
    paid_all ⊥ c.args.node.now c.args.moves paid c.args.moves size _ (λ each. absurd each)

pub at_defender-returns-then-is_empty-clause-same : goal.at_defender-returns-then-is_empty-clause-same
at_defender-returns-then-is_empty-clause-same g t c = above_more g.met.S.FrontStore.grown_more c.cards.invariant.same c.in_ok-won.ensures.same

pub at_defender-returns-in_err-add-clause-costs : goal.at_defender-returns-in_err-add-clause-costs
at_defender-returns-in_err-add-clause-costs g t c =
    let size = size_theirs c.args.node.now c.args.moves c.width.ensures.a_node c.requires.goes_on c.requires.theirs in
    let paid = paid_more ⊥ c.args.node.now c.args.moves c.cards.invariant.paid (taken_first _ _ _ c.in-Some.ensures.value) c.in_ok-child.ensures.node c.in_ok-won.won c.in_ok-won.ensures.costs in
    paid_memory ⊥ c.args.node.now c.args.moves paid c.args.moves size c.from_residual-in_err-add.result c.from_residual-in_err-add.ensures.1

pub at_defender-cards-preserved : goal.at_defender-cards-preserved
at_defender-cards-preserved g t c = record {
  so = theirs_above_more c.args.node.now c.args.moves c.args.target.now c.cards.invariant.so (taken_first _ _ _ c.in-Some.ensures.value) c.in_ok-child.ensures.node c.in_ok-child.mask c.in_ok-child.ensures.mask c.requires.width c.add.new.self c.in_ok-won.won c.width.ensures.a_node (subst (λ (t : Vector). AreAbove c.in_ok-child.child c.args.moves t c.in_ok-won.won) c.restrict-part.ensures c.in_ok-won.ensures.above) c.in_ok-add.ensures.front c.in_ok-add.ensures.width c.in_ok-add.ensures.covered;
  paid = paid_more ⊥ c.args.node.now c.args.moves c.cards.invariant.paid (taken_first _ _ _ c.in-Some.ensures.value) c.in_ok-child.ensures.node c.in_ok-won.won c.in_ok-won.ensures.costs;
  same = above_more g.met.S.FrontStore.grown_more c.cards.invariant.same c.in_ok-won.ensures.same;
}

pub at_defender-cards-preserved-in_ok-add : goal.at_defender-cards-preserved-in_ok-add
at_defender-cards-preserved-in_ok-add g t c = record {
  so = theirs_above_more c.args.node.now c.args.moves c.args.target.now c.cards.invariant.so (taken_first _ _ _ c.in-Some.ensures.value) c.in_ok-child.ensures.node c.in_ok-child.mask c.in_ok-child.ensures.mask c.requires.width c.add.new.self c.in_ok-won.won c.width.ensures.a_node (subst (λ (t : Vector). AreAbove c.in_ok-child.child c.args.moves t c.in_ok-won.won) c.restrict-part.ensures c.in_ok-won.ensures.above) c.in_ok-add.ensures.front c.in_ok-add.ensures.width c.in_ok-add.ensures.covered;
  paid = paid_more ⊥ c.args.node.now c.args.moves c.cards.invariant.paid (taken_first _ _ _ c.in-Some.ensures.value) c.in_ok-child.ensures.node c.in_ok-won.won c.in_ok-won.ensures.costs;
  same = above_more g.met.S.FrontStore.grown_more c.cards.invariant.same c.in_ok-won.ensures.same;
}

pub at_defender-returns-in_err-add-clause-same : goal.at_defender-returns-in_err-add-clause-same
at_defender-returns-in_err-add-clause-same g t c = above_more g.met.S.FrontStore.grown_more c.cards.invariant.same c.in_ok-won.ensures.same

pub at_defender-returns-clause-above : goal.at_defender-returns-clause-above
at_defender-returns-clause-above g t c =
    subst (λ (front : FrontValue). AreAbove c.args.node.now c.args.moves c.args.target.now front) (sym c.finish.ensures.value)
    (theirs_above_all c.args.node.now c.args.moves c.args.target.now c.cards.invariant.so c.in_default.ensures.value.0 c.width.ensures.a_node c.requires.goes_on c.requires.theirs)

pub at_defender-finish-requires : goal.at_defender-finish-requires
at_defender-finish-requires g t c =
    theirs_above_covered c.args.node.now c.args.moves c.args.target.now c.cards.invariant.so c.in_default.ensures.value.0 c.width.ensures.a_node c.requires.goes_on

pub at_defender-returns-clause-costs : goal.at_defender-returns-clause-costs
at_defender-returns-clause-costs g t c =
    let size = size_theirs c.args.node.now c.args.moves c.width.ensures.a_node c.requires.goes_on c.requires.theirs in
    paid_all ⊥ c.args.node.now c.args.moves c.cards.invariant.paid c.args.moves size _ (λ each. absurd each)

-- ---- a node

pub visit-returns-in_err-enter-clause-costs : goal.visit-returns-in_err-enter-clause-costs
visit-returns-in_err-enter-clause-costs g t c =
    costs_none ⊥ (tree_size bridge c.args.node c.args.moves) c.args.self.now.budget.now.left c.enter.new.self.left c.from_residual.result c.in_err-enter.field-0.0 c.from_residual.ensures.1 (tree_size-positive c.args.node c.args.moves) c.in_err-enter.ensures.spent.0 c.in_err-enter.ensures.spent.1

pub visit-returns-in-Some-clause-costs : goal.visit-returns-in-Some-clause-costs
visit-returns-in-Some-clause-costs g t c =
    costs_one ⊥ (tree_size bridge c.args.node c.args.moves) c.args.self.now.budget.now.left c.enter.new.self.left c.in-Some.found (λ each. absurd each) (tree_size-positive c.args.node c.args.moves) c.in_ok-enter.ensures.paid

pub find-returns-in_err-enter-clause-costs : goal.find-returns-in_err-enter-clause-costs
find-returns-in_err-enter-clause-costs g t c =
    costs_none ⊥ (tree_size bridge c.args.node.now c.args.moves) c.args.self.now.budget.now.left c.enter.new.self.left c.from_residual.result c.in_err-enter.field-0.0 c.from_residual.ensures.1 (tree_size-positive c.args.node.now c.args.moves) c.in_err-enter.ensures.spent.0 c.in_err-enter.ensures.spent.1

pub find-returns-in_err-enter-2-clause-costs : goal.find-returns-in_err-enter-2-clause-costs
find-returns-in_err-enter-2-clause-costs g t c =
    costs_none ⊥ (tree_size bridge c.args.node.now c.args.moves) c.args.self.now.budget.now.left c.enter-2.new.self.left c.from_residual-in_err-enter-2.result c.in_err-enter-2.field-0.0 c.from_residual-in_err-enter-2.ensures.1 (tree_size-positive c.args.node.now c.args.moves) (search (c.in_err-enter-2.ensures, rules)) c.in_err-enter-2.ensures.spent.1

pub find-returns-then-not-makes_each-clause-above : goal.find-returns-then-not-makes_each-clause-above
find-returns-then-not-makes_each-clause-above g t c =
    let lost = lost_keeps_none c.args.node.now c.args.moves c.args.target.now c.makes_each.ensures.a_node (c.makes_each.ensures.lost c.if-not-makes_each.true) in
    nothing_above c.args.target.now c.args.node.now c.args.moves c.no_vectors.result c.makes_each.ensures.a_node lost c.no_vectors.ensures.empty c.no_vectors.ensures.width

pub find-returns-then-not-makes_each-clause-costs : goal.find-returns-then-not-makes_each-clause-costs
find-returns-then-not-makes_each-clause-costs g t c =
    costs_one ⊥ (tree_size bridge c.args.node.now c.args.moves) c.args.self.now.budget.now.left c.enter.new.self.left c.no_vectors.result (λ each. absurd each) (tree_size-positive c.args.node.now c.args.moves) c.in_ok-enter.ensures.paid
