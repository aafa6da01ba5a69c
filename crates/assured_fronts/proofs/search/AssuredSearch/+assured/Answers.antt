use Rattle.std.proofs.Common.{◌≡◌, ◌+◌, [], length, refl, sym, ap, subst, ◌∙◌, arith, rules, inr}
use Rattle.win_vectors.specs.Vectors.{ones_of}
use Rattle.trick_rules.specs.Play.{cards_left}
use Rattle.trick_rules.specs.Nodes.{NodeValue, choices}
use Rattle.strategy_games.specs.Plans.{tree_size}
use Rattle.strategy_tree.specs.Bridge.{bridge}
use Rattle.strategy_tree.proofs.BridgeNodes.{tree_size-positive}
use Rattle.strategy_tree.proofs.CardLists.{has_card-from_Contains}
use Rattle.alphamu_core.proofs.Paid.{costs_memory, paid_none, costs_one, costs_none, costs_by_part, costs_of_part, paid_more, paid_memory, paid_all, paid_below}
use Rattle.strategy_games.proofs.Lists.{Contains-nil}
use Rattle.plain_fronts.proofs.CardByCard.{falls, child_fits}
use Rattle.assured_fronts.proofs.CardByCard.{stops_off, size_below, next_choice, parted, over_no_card, left_one_more, left_same, left_all, paid_less, memory_once}
use Rattle.alphamu_core.proofs.Inherited.{known_whole}
use Rattle.assured_fronts.specs.AssuredAt.{AllMade}
use Rattle.assured_fronts.proofs.Leaves.{made_wide}
use Rattle.assured_fronts.proofs.MadeLayouts.{part_made, part_width, part_size, part_goes_on, filled_front}
use Rattle.assured_fronts.proofs.SameSearch.{same_none, same_more}
use Rattle.assured_fronts.proofs.search.AssuredSearch.+assured.Goals as goal

-- ---- the cards of a node

pub by_cards-moves_after-left-requires : goal.by_cards-moves_after-left-requires
by_cards-moves_after-left-requires t c = stops_off c.args.node.now c.args.moves c.requires.goes_on c.requires.some

pub by_cards-cards-init : goal.by_cards-cards-init
by_cards-cards-init t c = record {
  left = record {
    tried = c.cards_of-cards.result;
    are_tried = record { enough = c.cards_of-cards.ensures.enough; ours = c.cards_of-cards.ensures.ours; theirs = c.cards_of-cards.ensures.theirs };
    earlier = [];
    each = λ card k. inr k;
    were = λ card k. absurd (Contains-nil card k);
    among = λ card k. k;
    width = c.in_ok-front.ensures.width;
    so_far = over_no_card c.args.node.now c.moves_after-left.result c.in_ok-front.front.vectors c.in_ok-front.ensures.ours c.in_ok-front.ensures.theirs;
  };
  heirs = c.is_made_after_each-all_made.ensures;
  paid = paid_none ⊥ c.args.node.now c.moves_after-left.result c.cards_of-cards.result c.args.self.now.budget.now.left c.cards_of-cards.ensures.enough (λ each. absurd each);
  same = same_none c.args.self.now;
}

pub by_cards-child-requires : goal.by_cards-child-requires
by_cards-child-requires t c = has_card-from_Contains (choices c.args.node.now) c.in-Some.card (next_choice c.cards.invariant.left c.in-Some.ensures.taken)

pub by_cards-visit-requires : goal.by_cards-visit-requires
by_cards-visit-requires t c =
    let left = c.cards.invariant.left in
    let at = parted (choices c.args.node.now) c.in-Some.card (next_choice left c.in-Some.ensures.taken) in
    let fewer = falls c.args.node.now c.in_ok-child.child at.0 at.1 c.in-Some.card c.front_of_no_card.ensures.a_node at.2 c.in_ok-child.ensures.node in (
      omega (arith, fewer),
      λ known. subst (λ m. AllMade m) (sym c.in_ok-child.ensures.node) (c.cards.invariant.heirs known c.in-Some.card c.in-Some.ensures.taken.among),
    )

pub by_cards-with_child-requires : goal.by_cards-with_child-requires
by_cards-with_child-requires t c =
    let left = c.cards.invariant.left in
    let at = parted (choices c.args.node.now) c.in-Some.card (next_choice left c.in-Some.ensures.taken) in
    let fits = child_fits c.args.node.now c.in_ok-child.child at.0 at.1 c.in-Some.card c.in_ok-child.mask c.cards.front.width c.in_ok-won.won.width
    at.2 c.in_ok-child.ensures.node c.in_ok-child.ensures.mask left.width c.in_ok-won.ensures.front.width in
    record { mask_width = fits.mask_width; child_width = fits.child_width; ours = fits.ours }

pub by_cards-cards-preserved : goal.by_cards-cards-preserved
by_cards-cards-preserved t c = record {
  left = left_one_more c.cards.invariant.left c.in-Some.ensures.taken c.in_ok-child.child c.in_ok-child.mask c.in_ok-won.won c.in_ok-front-2.front
      c.front_of_no_card.ensures.a_node c.in_ok-child.ensures.node c.in_ok-child.ensures.mask c.in_ok-won.ensures.front.front c.in_ok-front-2.ensures.width c.in_ok-front-2.ensures.ours c.in_ok-front-2.ensures.theirs;
  heirs = λ known card k. c.cards.invariant.heirs known card (c.in-Some.ensures.taken.part card k);
  paid = paid_more ⊥ c.args.node.now c.moves_after-left.result c.cards.invariant.paid c.in-Some.ensures.taken c.in_ok-child.ensures.node c.in_ok-won.won c.in_ok-won.ensures.costs;
  same = same_more c.cards.invariant.same c.in_ok-won.ensures.same;
}

pub by_cards-cards-preserved-then-changes_nothing : goal.by_cards-cards-preserved-then-changes_nothing
by_cards-cards-preserved-then-changes_nothing t c = record {
  left = left_same c.cards.invariant.left c.in-Some.ensures.taken c.front_of_no_card.ensures.a_node c.requires.goes_on c.requires.made c.in_ok-child.mask c.in_ok-child.ensures.mask
      (c.changes_nothing.ensures.ours c.if-changes_nothing.true) (c.changes_nothing.ensures.theirs c.if-changes_nothing.true);
  heirs = λ known card k. c.cards.invariant.heirs known card (c.in-Some.ensures.taken.part card k);
  paid = paid_less c.cards.invariant.paid c.in-Some.ensures.taken;
  same = c.cards.invariant.same;
}

pub by_cards-returns-clause-front : goal.by_cards-returns-clause-front
by_cards-returns-clause-front t c =
    left_all c.cards.invariant.left c.args.moves c.front_of_no_card.ensures.a_node c.requires.goes_on c.requires.some c.moves_after-left.ensures.ours c.moves_after-left.ensures.theirs c.in_default.ensures.none

-- ---- what they cost

pub by_cards-returns-in_err-front-clause-costs : goal.by_cards-returns-in_err-front-clause-costs
by_cards-returns-in_err-front-clause-costs t c =
    let some = tree_size-positive c.args.node.now c.args.moves in
    costs_memory ⊥ (tree_size bridge c.args.node.now c.args.moves) (c.args.self.now.budget.now.left + 1) c.args.self.now.budget.now.left c.from_residual.result c.from_residual.ensures.1 (omega arith) (omega arith)

pub by_cards-returns-in_err-child-clause-costs : goal.by_cards-returns-in_err-child-clause-costs
by_cards-returns-in_err-child-clause-costs t c =
    let size = size_below c.args.node.now c.args.moves c.moves_after-left.result c.front_of_no_card.ensures.a_node c.requires.goes_on c.requires.some c.moves_after-left.ensures.ours c.moves_after-left.ensures.theirs in
    paid_memory ⊥ c.args.node.now c.moves_after-left.result c.cards.invariant.paid c.args.moves size c.from_residual-in_err-child.result c.from_residual-in_err-child.ensures.1

pub by_cards-returns-in_err-won-clause-costs : goal.by_cards-returns-in_err-won-clause-costs
by_cards-returns-in_err-won-clause-costs t c =
    let size = size_below c.args.node.now c.args.moves c.moves_after-left.result c.front_of_no_card.ensures.a_node c.requires.goes_on c.requires.some c.moves_after-left.ensures.ours c.moves_after-left.ensures.theirs in
    paid_below ⊥ c.args.node.now c.moves_after-left.result c.cards.invariant.paid c.args.moves size c.in-Some.ensures.taken c.in_ok-child.ensures.node
    c.from_residual-in_err-won.result c.in_err-won.field-0.0 c.in_err-won.ensures.costs c.from_residual-in_err-won.ensures.1

pub by_cards-returns-in_err-front-2-clause-costs : goal.by_cards-returns-in_err-front-2-clause-costs
by_cards-returns-in_err-front-2-clause-costs t c =
    let size = size_below c.args.node.now c.args.moves c.moves_after-left.result c.front_of_no_card.ensures.a_node c.requires.goes_on c.requires.some c.moves_after-left.ensures.ours c.moves_after-left.ensures.theirs in
    let paid = paid_more ⊥ c.args.node.now c.moves_after-left.result c.cards.invariant.paid c.in-Some.ensures.taken c.in_ok-child.ensures.node c.in_ok-won.won c.in_ok-won.ensures.costs in
    paid_memory ⊥ c.args.node.now c.moves_after-left.result paid c.args.moves size c.from_residual-in_err-front-2.result c.from_residual-in_err-front-2.ensures.1

pub by_cards-returns-in_err-front-2-clause-same : goal.by_cards-returns-in_err-front-2-clause-same
by_cards-returns-in_err-front-2-clause-same t c = same_more c.cards.invariant.same c.in_ok-won.ensures.same

pub by_cards-returns-clause-costs : goal.by_cards-returns-clause-costs
by_cards-returns-clause-costs t c =
    let size = size_below c.args.node.now c.args.moves c.moves_after-left.result c.front_of_no_card.ensures.a_node c.requires.goes_on c.requires.some c.moves_after-left.ensures.ours c.moves_after-left.ensures.theirs in
    paid_all ⊥ c.args.node.now c.moves_after-left.result c.cards.invariant.paid c.args.moves size _ (λ each. absurd each)

-- ---- a node

pub recall-last_move-requires : goal.recall-last_move-requires
recall-last_move-requires t c = record { goes_on = c.requires.goes_on; ours = search rules; made = c.requires.made }

pub recall-returns-in_err-last_move-clause-costs : goal.recall-returns-in_err-last_move-clause-costs
recall-returns-in_err-last_move-clause-costs t c =
    memory_once c.args.node.now c.args.moves (c.args.self.now.budget.now.left + 1) c.args.self.now.budget.now.left c.from_residual.result c.from_residual.ensures.1 refl

pub recall-returns-then-is_ours-clause-costs : goal.recall-returns-then-is_ours-clause-costs
recall-returns-then-is_ours-clause-costs t c =
    costs_one ⊥ (tree_size bridge c.args.node.now c.args.moves) (c.args.self.now.budget.now.left + 1) c.args.self.now.budget.now.left c.in_ok-last_move.field-0
    (λ each. absurd each) (tree_size-positive c.args.node.now c.args.moves) refl

pub recall-returns-in-Some-clause-costs : goal.recall-returns-in-Some-clause-costs
recall-returns-in-Some-clause-costs t c =
    costs_one ⊥ (tree_size bridge c.args.node.now c.args.moves) (c.args.self.now.budget.now.left + 1) c.args.self.now.budget.now.left c.in-Some.front
    (λ each. absurd each) (tree_size-positive c.args.node.now c.args.moves) refl

pub in_made-part_of-requires : goal.in_made-part_of-requires
in_made-part_of-requires t c = record { width = made_wide c.args.node.now c.args.made c.requires.results; some = c.requires.some }

pub in_made-returns-in_err-part-clause-costs : goal.in_made-returns-in_err-part-clause-costs
in_made-returns-in_err-part-clause-costs t c =
    let some = tree_size-positive c.args.node.now c.args.moves in
    costs_memory ⊥ (tree_size bridge c.args.node.now c.args.moves) (c.args.self.now.budget.now.left + 1) c.args.self.now.budget.now.left c.from_residual.result c.from_residual.ensures.1 (omega arith) (omega arith)

pub in_made-recall-requires : goal.in_made-recall-requires
in_made-recall-requires t c =
    let same : cards_left c.in_ok-part.part.position ≡ cards_left c.args.node.now.position = ap (λ (n : NodeValue). cards_left n.position) c.in_ok-part.ensures.part in (
      omega arith,
      record {
        goes_on = part_goes_on c.args.node.now c.args.made c.in_ok-part.part c.in_ok-part.ensures.part c.requires.goes_on;
        some = c.requires.moves;
        made = part_made c.args.node.now c.args.made c.in_ok-part.part c.in_ok-part.ensures.part c.requires.results;
      },
    )

pub visit-recall-requires : goal.visit-recall-requires
visit-recall-requires t c =
    let all : ones_of c.results-made.result ≡ length c.args.node.now.lefts = search rules in
    (omega arith, record { goes_on = search rules; some = search rules; made = known_whole c.args.node.now c.results-made.result c.results-made.ensures all })

pub in_made-returns-in_err-front-clause-costs : goal.in_made-returns-in_err-front-clause-costs
in_made-returns-in_err-front-clause-costs t c =
    let n : NodeValue = c.args.node.now in
    let size = part_size n c.part_of.ensures.a_node c.args.made c.requires.results c.requires.some c.in_ok-part.ensures.part c.args.moves in
    costs_of_part ⊥ (λ each. each) (tree_size bridge c.in_ok-part.part c.args.moves) (tree_size bridge n c.args.moves) size (c.args.self.now.budget.now.left + 1) c.recall.new.self.budget.now.left
    c.from_residual-in_err-front.result c.in_err-front.field-0.0 c.in_err-front.ensures.costs c.from_residual-in_err-front.ensures.1

pub in_made-filled-requires : goal.in_made-filled-requires
in_made-filled-requires t c = c.in_ok-front.ensures.front.width ∙ part_width c.args.node.now c.part_of.ensures.a_node c.args.made c.requires.results c.requires.some c.in_ok-part.ensures.part

pub in_made-returns-in_err-filled-clause-costs : goal.in_made-returns-in_err-filled-clause-costs
in_made-returns-in_err-filled-clause-costs t c =
    let n : NodeValue = c.args.node.now in
    let costs = c.in_ok-front.ensures.costs in
    let size = part_size n c.part_of.ensures.a_node c.args.made c.requires.results c.requires.some c.in_ok-part.ensures.part c.args.moves in
    costs_memory ⊥ (tree_size bridge n c.args.moves) (c.args.self.now.budget.now.left + 1) c.recall.new.self.budget.now.left c.from_residual-in_err-filled.result c.from_residual-in_err-filled.ensures.1 costs.never_rises (omega (arith, costs.falls, size))

pub in_made-returns-clause-front : goal.in_made-returns-clause-front
in_made-returns-clause-front t c =
    filled_front c.args.node.now c.part_of.ensures.a_node c.args.made c.requires.results c.requires.some c.in_ok-part.ensures.part c.args.moves c.in_ok-front.front c.in_ok-filled.field-0 c.in_ok-front.ensures.front c.in_ok-filled.ensures.width c.in_ok-filled.ensures.filled

pub in_made-returns-clause-costs : goal.in_made-returns-clause-costs
in_made-returns-clause-costs t c =
    let n : NodeValue = c.args.node.now in
    let size = part_size n c.part_of.ensures.a_node c.args.made c.requires.results c.requires.some c.in_ok-part.ensures.part c.args.moves in
    costs_by_part ⊥ (λ each. each) (tree_size bridge c.in_ok-part.part c.args.moves) (tree_size bridge n c.args.moves) size (c.args.self.now.budget.now.left + 1) c.recall.new.self.budget.now.left c.in_ok-front.front c.in_ok-filled.field-0 c.in_ok-front.ensures.costs

pub visit-returns-in_err-enter-clause-costs : goal.visit-returns-in_err-enter-clause-costs
visit-returns-in_err-enter-clause-costs t c =
    costs_none ⊥ (tree_size bridge c.args.node.now c.args.moves) c.args.self.now.budget.now.left c.enter.new.self.left c.from_residual.result c.in_err-enter.field-0.0 c.from_residual.ensures.1 (tree_size-positive c.args.node.now c.args.moves) c.in_err-enter.ensures.spent.0 c.in_err-enter.ensures.spent.1

pub visit-returns-in_err-settled-clause-costs : goal.visit-returns-in_err-settled-clause-costs
visit-returns-in_err-settled-clause-costs t c = memory_once c.args.node.now c.args.moves c.args.self.now.budget.now.left c.enter.new.self.left c.from_residual-in_err-settled.result c.from_residual-in_err-settled.ensures.1 c.in_ok-enter.ensures.paid

pub visit-returns-in_ok-settled-clause-costs : goal.visit-returns-in_ok-settled-clause-costs
visit-returns-in_ok-settled-clause-costs t c = costs_one ⊥ (tree_size bridge c.args.node.now c.args.moves) c.args.self.now.budget.now.left c.enter.new.self.left c.in_ok-settled.field-0 (λ each. absurd each) (tree_size-positive c.args.node.now c.args.moves) c.in_ok-enter.ensures.paid

pub visit-returns-in_err-open_stop-clause-costs : goal.visit-returns-in_err-open_stop-clause-costs
visit-returns-in_err-open_stop-clause-costs t c = memory_once c.args.node.now c.args.moves c.args.self.now.budget.now.left c.enter.new.self.left c.from_residual-in_err-open_stop.result c.from_residual-in_err-open_stop.ensures.1 c.in_ok-enter.ensures.paid

pub visit-returns-in_ok-open_stop-clause-costs : goal.visit-returns-in_ok-open_stop-clause-costs
visit-returns-in_ok-open_stop-clause-costs t c = costs_one ⊥ (tree_size bridge c.args.node.now c.args.moves) c.args.self.now.budget.now.left c.enter.new.self.left c.in_ok-open_stop.field-0 (λ each. absurd each) (tree_size-positive c.args.node.now c.args.moves) c.in_ok-enter.ensures.paid
