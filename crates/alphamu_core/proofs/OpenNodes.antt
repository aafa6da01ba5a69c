-- Nodes where play goes on.
use Rattle.std.proofs.Common.{◌≡◌, ◌∙◌, ◌+◌, length, ◌-◌, ◌<◌, ◌*◌, ℕ, zero, suc, true, false, Contains, sum_by, ap, true≢false, arith}
use Rattle.card_sets.specs.SetWords.{has_card}
use Rattle.win_vectors.specs.Vectors.{ones_of}
use Rattle.trick_rules.specs.Play.{cards_left}
use Rattle.trick_rules.specs.Nodes.{NodeValue, IsNode, choices, child}
use Rattle.strategy_games.specs.Plans.{stops, tree_size}
use Rattle.strategy_games.proofs.Masks.{ones-all, replicate-map}
use Rattle.strategy_tree.specs.Bridge.{bridge}
use Rattle.strategy_tree.proofs.CardLists.{has_card-from_Contains}
use Rattle.strategy_tree.proofs.BridgeLaws.{sizes}
use Rattle.strategy_tree.proofs.BridgeNodes.{cards_left-child, length-child_lefts, our_mask}
use Rattle.alphamu_core.proofs.Paid.{size_after}

-- a move is left
pub some_moves : (n : NodeValue) (moves : ℕ) → stops bridge n moves ≡ false → moves ≡ suc (moves - 1)
some_moves n zero h = absurd (true≢false h)
some_moves n (suc m) h = omega arith

-- and the result is open
pub is_open : (n : NodeValue) (moves : ℕ) → stops bridge n moves ≡ false → bridge.is_decided n ≡ false
is_open n zero h = absurd (true≢false h)
is_open n (suc m) h = h

pub size_ours : (n : NodeValue) (moves : ℕ) → IsNode n → stops bridge n moves ≡ false → bridge.is_ours n ≡ true → tree_size bridge n moves ≡ 1 + sum_by (size_after n (moves - 1)) (choices n)
size_ours n zero sound h ours = absurd (true≢false h)
size_ours n (suc m) sound h ours = let less : suc m - 1 ≡ m = omega arith in rw less (sizes.at_declarer n m sound h ours)

pub size_theirs : (n : NodeValue) (moves : ℕ) → IsNode n → stops bridge n moves ≡ false → bridge.is_ours n ≡ false → tree_size bridge n moves ≡ 1 + sum_by (size_after n moves) (choices n)
size_theirs n zero sound h theirs = absurd (true≢false h)
size_theirs n (suc m) sound h theirs = sizes.at_defender n m sound h theirs

-- below a card a search has less to play
pub fewer_cards : (n m : NodeValue) (card : ℕ) → IsNode n → Contains (choices n) card → m ≡ child n card → 2 * cards_left m.position + 1 < 2 * cards_left n.position
fewer_cards n m card sound among e =
    let same : cards_left m.position ≡ cards_left (child n card).position = ap (λ (m : NodeValue). cards_left m.position) e in
    omega (arith, cards_left-child n card sound (has_card-from_Contains (choices n) card among))

pub fewer_by_five : (n m : NodeValue) (card : ℕ) → IsNode n → Contains (choices n) card → m ≡ child n card → 5 * cards_left m.position + 4 < 5 * cards_left n.position
fewer_by_five n m card sound among e = let less = fewer_cards n m card sound among e in omega arith

-- a card of declarer's side leaves each layout
pub length-our_child : (n : NodeValue) (card : ℕ) → bridge.is_ours n ≡ true → has_card (choices n) card ≡ true → length (child n card).lefts ≡ length n.lefts
length-our_child n card ours choice =
    length-child_lefts n card ∙ ap ones_of (our_mask n card ours choice ∙ replicate-map true n.lefts) ∙ ones-all n.lefts
