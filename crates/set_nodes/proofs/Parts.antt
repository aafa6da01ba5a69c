-- Nodes of bridge with some of the layouts of another.
use Rattle.std.proofs.Common.{◌≡◌, ◌∙◌, ◌≤◌, ℕ, true, false, List, [], ◌∷◌, Contains, filter, length, map, refl, sym, ap, subst, ⊎_elim, arith}
use Rattle.std.specs.List.{items_where_true}
use Rattle.win_vectors.specs.Vectors.{ones_of}
use Rattle.win_vectors.specs.Fronts.{Vector}
use Rattle.trick_rules.specs.Positions.{PositionValue, State}
use Rattle.trick_rules.specs.Play.{take_out, after_card}
use Rattle.trick_rules.specs.Nodes.{NodeValue, IsNode, states, choices, child, is_legal}
use Rattle.trick_rules.proofs.PlayLaws as play
use Rattle.strategy_games.proofs.Lists.{Contains-here, Contains-there, Contains-nil, Contains-cons, Contains-map, Contains-of_map, Contains-filter, Contains-of_filter}
use Rattle.strategy_tree.specs.Bridge.{bridge}
use Rattle.strategy_tree.proofs.CardLists.{Contains-from_has_card}
use Rattle.winnable_sets.specs.Parts.{AreParts}

-- the first node is the second with some layouts left out
pub record IsPart (k n : NodeValue) : Type 0 where
  pub position : k.position ≡ n.position
  pub layouts : (left : List ℕ) → Contains k.lefts left → Contains n.lefts left

pub layout_of : (n : NodeValue) (s : State) → Contains (states n) s → (left : List ℕ) × Contains n.lefts left × (record { position = n.position; left = left } ≡ s)
layout_of n s among = Contains-of_map (λ left. record { position = n.position; left = left }) n.lefts s among

pub state_among : (n : NodeValue) (left : List ℕ) → Contains n.lefts left → Contains (states n) (record { position = n.position; left = left })
state_among n left among = Contains-map (λ left. record { position = n.position; left = left }) n.lefts left among

part_child : (k n : NodeValue) (card : ℕ) → IsPart k n → IsPart (child k card) (child n card)
part_child k n card part = record {
  position = ap (λ (t : PositionValue). after_card t card) part.position;
  layouts = λ left among.
      let before = Contains-of_map (take_out card) (filter (is_legal k.position card) k.lefts) left among in
      let there = Contains-of_filter (is_legal k.position card) k.lefts before.0 before.1 in
      subst (λ left. Contains (child n card).lefts left) before.2
      (Contains-map (take_out card) (filter (is_legal n.position card) n.lefts) before.0
      (Contains-filter (is_legal n.position card) n.lefts before.0 (part.layouts before.0 there.0) (subst (λ (t : PositionValue). is_legal t card before.0 ≡ true) part.position there.1)));
}

pub first_layout : (n : NodeValue) → IsNode n → (s : State) × Contains (states n) s
first_layout n sound = go n.lefts sound.some
  where
    go : (lefts : List (List ℕ)) → 1 ≤ length lefts → (s : State) × Contains (map (λ left. record { position = n.position; left = left }) lefts) s
    go [] some = absurd (omega (arith, some))
    go (left ∷ lefts) some = (record { position = n.position; left = left }, Contains-here _ _)

pub node_parts : AreParts bridge IsNode IsPart
node_parts = record {
  layouts = λ k n s part among.
      let layout = layout_of k s among in
      subst (λ s. Contains (states n) s) (ap (λ (t : PositionValue). record { position = t; left = layout.0 }) (sym part.position) ∙ layout.2) (state_among n layout.0 (part.layouts layout.0 layout.1));
  some_layout = first_layout;
  choice = λ n card s sound among legal. Contains-from_has_card (choices n) card (play.what_is_legal_is_a_choice n card s sound among legal);
  turn = λ k n part. ap (λ (t : PositionValue). bridge.is_ours (record { position = t; lefts = [] })) part.position;
  decided = λ k n part. ap (λ (t : PositionValue). bridge.is_decided (record { position = t; lefts = [] })) part.position;
  is_sure = λ k n part. refl;
  child = part_child;
}

-- ---- the layouts at the ones of a vector

module _ {X : Type 0} where
  pub Contains-of_picked : (kept : Vector) (xs : List X) (x : X) → Contains (items_where_true kept xs) x → Contains xs x
  Contains-of_picked [] xs x h = absurd (Contains-nil x h)
  Contains-of_picked (b ∷ kept) [] x h = absurd (Contains-nil x h)
  Contains-of_picked (true ∷ kept) (y ∷ xs) x h = ⊎_elim
      (λ (e : y ≡ x). subst (λ x. Contains (y ∷ xs) x) e (Contains-here y xs))
      (λ (later : Contains (items_where_true kept xs) x). Contains-there y xs x (Contains-of_picked kept xs x later))
      (Contains-cons y (items_where_true kept xs) x h)
  Contains-of_picked (false ∷ kept) (y ∷ xs) x h = Contains-there y xs x (Contains-of_picked kept xs x h)

  pub length-picked : (kept : Vector) (xs : List X) → length kept ≡ length xs → length (items_where_true kept xs) ≡ ones_of kept
  length-picked [] xs e = refl
  length-picked (b ∷ kept) [] e = absurd (omega arith)
  length-picked (true ∷ kept) (x ∷ xs) e = let rest = length-picked kept xs (omega arith) in omega arith
  length-picked (false ∷ kept) (x ∷ xs) e = let rest = length-picked kept xs (omega arith) in omega arith

-- as states
pub states-picked : (t : PositionValue) (kept : Vector) (lefts : List (List ℕ))
    → map {B = State} (λ left. record { position = t; left = left }) (items_where_true kept lefts) ≡ items_where_true kept (map {B = State} (λ left. record { position = t; left = left }) lefts)
states-picked t [] lefts = refl
states-picked t (b ∷ kept) [] = refl
states-picked t (true ∷ kept) (left ∷ lefts) = ap (λ (ss : List State). record { position = t; left = left } ∷ ss) (states-picked t kept lefts)
states-picked t (false ∷ kept) (left ∷ lefts) = states-picked t kept lefts
