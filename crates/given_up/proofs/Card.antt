-- The card of the place that gives a layout up.
use Rattle.std.proofs.Common.{◌≡◌, ◌∙◌, ℕ, ◌+◌, ◌<◌, Bool, true, false, not, Option, Some, None, List, length, get_or, slice_get, if◌then◌else◌, refl, ap, sym, subst, arith}
use Rattle.std.specs.Option.{option_map}
use Rattle.std.proofs.lemmas.List.{length-map}
use Rattle.std.proofs.lemmas.Option.{slice_get-map, get_or_from_slice_get}
use Rattle.trick_rules.specs.Positions.{PositionValue, State, IsState}
use Rattle.trick_rules.specs.Nodes.{NodeValue, IsNode, states}
use Rattle.trick_rules.proofs.NodeLemmas.{states-IsState}
use Rattle.trick_rules.specs.Play.{makes}
use Rattle.given_up.specs.GivenUp.{makes_after, giving_place, giving_card}
use Rattle.given_up.proofs.FirstPlace.{found_first}

-- the place that is found is that of a card
pub place_within : (s : State) (cards : List ℕ) (place : ℕ) → giving_place s cards ≡ Some place → place < length cards
unfolding giving_place
place_within s cards place is =
    let first = found_first (λ m. not (makes_after s cards (m + 1))) 0 (length cards) place is in
    omega (arith, first.within)

-- a layout that is lost at first isn't given up
pub lost_at_first : (s : State) (cards : List ℕ) → makes s ≡ false → None ≡ giving_card s cards
unfolding giving_card
lost_at_first s cards lost =
    subst (λ (b : Bool). None ≡ (if b then option_map (λ place. get_or cards place 0) (giving_place s cards) else None)) (sym lost) refl

-- if it is made at first, the card is that of the place
pub card_of_place : (s : State) (cards : List ℕ) → makes s ≡ true → option_map (λ place. get_or cards place 0) (giving_place s cards) ≡ giving_card s cards
unfolding giving_card
card_of_place s cards made =
    subst (λ (b : Bool). option_map (λ place. get_or cards place 0) (giving_place s cards) ≡ (if b then option_map (λ place. get_or cards place 0) (giving_place s cards) else None)) (sym made) refl

-- ---- the layout of a place

-- its state
pub state_there : (n : NodeValue) (place : ℕ) (position : PositionValue) (left : List ℕ) → position ≡ n.position → slice_get n.lefts place ≡ Some left
    → slice_get (states n) place ≡ Some (record { position = position; left = left })
state_there n place position left is_position is_left =
    slice_get-map (λ l. record { position = n.position; left = l }) n.lefts place ∙ ap (option_map (λ l. record { position = n.position; left = l })) is_left
    ∙ ap (λ (t : PositionValue). Some (record { position = t; left = left })) (sym is_position)

-- what holds of that state holds of the state that stands there
pub holds_there : (P : State → Type 0) (n : NodeValue) (place : ℕ) (position : PositionValue) (left : List ℕ) → position ≡ n.position → slice_get n.lefts place ≡ Some left
    → P (record { position = position; left = left }) → (s : State) → slice_get (states n) place ≡ Some s → P s
holds_there P n place position left is_position is_left holds s at_layout =
    let here : State = record { position = position; left = left } in
    let both : Some here ≡ Some s = sym (state_there n place position left is_position is_left) ∙ at_layout in
    let same : here ≡ s = cc in
    subst P same holds

-- it is a state of a node
pub is_state_there : (n : NodeValue) (place : ℕ) (s : State) → IsNode n → place < length n.lefts → slice_get (states n) place ≡ Some s → IsState s
is_state_there n place s sound low at_layout =
    let wide : length (states n) ≡ length n.lefts = length-map n.lefts (λ left. record { position = n.position; left = left }) in
    subst IsState (get_or_from_slice_get (states n) place s s at_layout) (states-IsState n sound place s (omega (arith, low, wide)))
