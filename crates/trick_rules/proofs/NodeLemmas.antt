-- Nodes: the choices of a node, and its children.
use Rattle.std.proofs.Common.{◌≡◌, ℕ, zero, suc, ◌<◌, ◌≤◌, Bool, true, false, List, [], ◌∷◌, length, map, filter, get_or, All, Contains, refl, sym, ap, ◌∙◌, inl, inr, arith}
use Rattle.std.specs.List.{list_any}
use Rattle.std.proofs.lemmas.Bool.{false≢true, cases_Bool, cases_lt}
use Rattle.std.proofs.lemmas.List.Elements.{All-map, All-filter, All-weaker, All-contains, filter_passes}
use Rattle.std.proofs.lemmas.List.Folds.{Any-from_list_any, list_any-from_Any}
use Rattle.card_sets.specs.declared.seat.Seat.{Seat}
use Rattle.card_sets.specs.declared.seat.Seat.TheVariants.{Declarer, Left, Dummy, Right}
use Rattle.card_sets.specs.SetWords.{has_card}
use Rattle.card_sets.proofs.Sets.{has_card-cards_where, has_card-cards_where_past}
use Rattle.trick_rules.specs.Positions.{PositionValue, State, to_play, FitsLeft, IsState}
use Rattle.trick_rules.specs.Play.{take_out, after_card, after, held_by, hand_of, CanPlay, is_declarers, is_over, legal_in, legal_cards}
use Rattle.trick_rules.specs.Nodes.{NodeValue, IsNode, states, is_legal, choices, child}
use Rattle.trick_rules.proofs.States.{legal_can_play, after-IsState, some_legal}
use Rattle.trick_rules.proofs.Soundness.{after_card_sound, held_low}

abbrev pub state_of : PositionValue → List ℕ → State
state_of t left = record { position = t; left = left }

-- ---- layouts and states

pub states-IsState : (n : NodeValue) → IsNode n → All IsState (states n)
states-IsState n ok = All-map IsState (state_of n.position) n.lefts (All-weaker (FitsLeft n.position) (λ left. IsState (state_of n.position left)) (λ left fits. record { sound = ok.sound; fits = fits }) n.lefts ok.fits)

-- a state of a node is that of one of its layouts
record IsLayoutOf (t : PositionValue) (lefts : List (List ℕ)) (s : State) : Type 0 where
  pub member : Contains lefts s.left
  pub same : state_of t s.left ≡ s

layout_at : (t : PositionValue) (lefts : List (List ℕ)) (s : State) (k : ℕ) → k < length (map (state_of t) lefts) → get_or (map (state_of t) lefts) k s ≡ s → IsLayoutOf t lefts s
layout_at t [] s k low e = absurd (omega arith)
layout_at t (left ∷ lefts) s zero low e = record { member = (0, omega arith, ap (λ u. u.left) e); same = ap (λ u. state_of t u.left) (sym e) ∙ e }
layout_at t (left ∷ lefts) s (suc k) low e =
    let more : IsLayoutOf t lefts s = layout_at t lefts s k (omega arith) e in
    record { member = (suc more.member.0, omega (arith, more.member.1), more.member.2); same = more.same }

layout_of : (n : NodeValue) (s : State) → Contains (states n) s → IsLayoutOf n.position n.lefts s
layout_of n s h = layout_at n.position n.lefts s h.0 h.1 h.2

-- ---- choices

choices-low : (n : NodeValue) (card : ℕ) → has_card (choices n) card ≡ true → card < 52
choices-low n card h =
    elim (cases_lt card 52) as (λ _. card < 52) [
      | inl low ↦ low
      | inr past ↦ absurd (false≢true (sym (has_card-cards_where_past (λ c. list_any (is_legal n.position c) n.lefts) card past) ∙ h))
    ]

pub legal_from_choices : (n : NodeValue) (card : ℕ) → has_card (choices n) card ≡ true → list_any (is_legal n.position card) n.lefts ≡ true
legal_from_choices n card h = sym (has_card-cards_where (λ c. list_any (is_legal n.position c) n.lefts) card (choices-low n card h)) ∙ h

-- a layout in which a choice is legal
pub layout_of_choice : (n : NodeValue) (card : ℕ) → IsNode n → has_card (choices n) card ≡ true → (left : List ℕ) × IsState (state_of n.position left) × (is_legal n.position card left ≡ true)
layout_of_choice n card ok h =
    let some = Any-from_list_any (is_legal n.position card) n.lefts (legal_from_choices n card h) in
    (some.1, record { sound = ok.sound; fits = All-contains (FitsLeft n.position) n.lefts some.1 ok.fits (some.0, some.2, some.3) }, some.4)

pub choice_can_play : (n : NodeValue) (card : ℕ) → IsNode n → has_card (choices n) card ≡ true → CanPlay n.position card
choice_can_play n card ok h =
    let some = layout_of_choice n card ok h in
    legal_can_play (state_of n.position some.0) some.1 card some.2

pub choice_from_legal : (n : NodeValue) (card : ℕ) (s : State) → IsNode n → Contains (states n) s → has_card (legal_in s) card ≡ true → has_card (choices n) card ≡ true
choice_from_legal n card s ok h legal =
    let layout = layout_of n s h in
    let state : IsState s = All-contains IsState (states n) s (states-IsState n ok) h in
    let low = held_low s.position state.sound card (to_play s.position) (legal_can_play s state card legal) in
    let here : is_legal n.position card s.left ≡ true = ap (λ u. has_card (legal_in u) card) layout.same ∙ legal in
    has_card-cards_where (λ c. list_any (is_legal n.position c) n.lefts) card low ∙
    list_any-from_Any (is_legal n.position card) n.lefts (layout.member.0, s.left, layout.member.1, layout.member.2, here)

-- ---- a child

length_some : (p : List ℕ → Bool) (xs : List (List ℕ)) → list_any p xs ≡ true → 1 ≤ length (filter p xs)
length_some p [] h = absurd (false≢true h)
length_some p (x ∷ xs) h =
    elim (cases_Bool (p x)) as (λ _. 1 ≤ length (filter p (x ∷ xs))) [
      | inl e ↦ rw e (omega arith)
      | inr e ↦ rw e (length_some p xs (rw e at h))
    ]

length-filter_le : (p : List ℕ → Bool) (xs : List (List ℕ)) → length (filter p xs) ≤ length xs
length-filter_le p [] = omega arith
length-filter_le p (x ∷ xs) =
    elim (cases_Bool (p x)) as (λ _. length (filter p (x ∷ xs)) ≤ length (x ∷ xs)) [
      | inl e ↦ rw e (omega (arith, length-filter_le p xs))
      | inr e ↦ rw e (omega (arith, length-filter_le p xs))
    ]

length-taken : (card : ℕ) (xs : List (List ℕ)) → length (map (take_out card) xs) ≡ length xs
length-taken card [] = refl
length-taken card (x ∷ xs) = ap suc (length-taken card xs)

pub child-IsNode : (n : NodeValue) (card : ℕ) → IsNode n → has_card (choices n) card ≡ true → IsNode (child n card)
child-IsNode n card ok h =
    let kept = filter (is_legal n.position card) n.lefts in
    let fits : All (FitsLeft n.position) kept = All-filter (is_legal n.position card) (FitsLeft n.position) n.lefts ok.fits in
    let legal : All (λ left. is_legal n.position card left ≡ true) kept = filter_passes (is_legal n.position card) n.lefts in
    record {
      sound = after_card_sound n.position card ok.sound (choice_can_play n card ok h);
      fits = All-map (FitsLeft (after_card n.position card)) (take_out card) kept
          (λ k d low. (after-IsState (state_of n.position (get_or kept k d)) (record { sound = ok.sound; fits = fits k d low }) card (legal k d low)).fits);
      some = omega (arith, length-taken card kept, length_some (is_legal n.position card) n.lefts (legal_from_choices n card h));
      few = omega (arith, length-taken card kept, length-filter_le (is_legal n.position card) n.lefts, ok.few);
    }

-- the states of a child, by the layouts
states-kept : (t : PositionValue) (card : ℕ) (lefts : List (List ℕ))
    → map (state_of (after_card t card)) (map (take_out card) (filter (is_legal t card) lefts)) ≡ map (λ s. after s card) (filter (λ s. has_card (legal_in s) card) (map (state_of t) lefts))
states-kept t card [] = refl
states-kept t card (left ∷ lefts) =
    elim (cases_Bool (is_legal t card left)) as (λ _. map (state_of (after_card t card)) (map (take_out card) (filter (is_legal t card) (left ∷ lefts))) ≡ map (λ s. after s card) (filter (λ s. has_card (legal_in s) card) (map (state_of t) (left ∷ lefts)))) [
      | inl e ↦ rw e (ap (λ rest. after (state_of t left) card ∷ rest) (states-kept t card lefts))
      | inr e ↦ rw e (states-kept t card lefts)
    ]

pub states-child : (n : NodeValue) (card : ℕ) → states (child n card) ≡ map (λ s. after s card) (filter (λ s. has_card (legal_in s) card) (states n))
states-child n card = states-kept n.position card n.lefts

-- ---- our own cards

hand_of-ours : (t : PositionValue) (seat : Seat) (left : List ℕ) → is_declarers seat ≡ true → hand_of (state_of t left) seat ≡ held_by t seat
hand_of-ours t Declarer left ours = refl
hand_of-ours t Dummy left ours = refl
hand_of-ours t Left left ours = absurd (false≢true ours)
hand_of-ours t Right left ours = absurd (false≢true ours)

-- declarer's side has the same legal cards whatever Left holds
pub legal_in-ours : (t : PositionValue) (left : List ℕ) → is_declarers (to_play t) ≡ true → legal_in (state_of t left) ≡ legal_cards t.trick.cards (held_by t (to_play t))
legal_in-ours t left ours = ap (legal_cards t.trick.cards) (hand_of-ours t (to_play t) left ours)

pub ours_everywhere : (n : NodeValue) (card : ℕ) → is_declarers (to_play n.position) ≡ true → has_card (choices n) card ≡ true → All (λ s. has_card (legal_in s) card ≡ true) (states n)
ours_everywhere n card ours h =
    let some = Any-from_list_any (is_legal n.position card) n.lefts (legal_from_choices n card h) in
    let shown : has_card (legal_cards n.position.trick.cards (held_by n.position (to_play n.position))) card ≡ true =
    ap (λ cards. has_card cards card) (sym (legal_in-ours n.position some.1 ours)) ∙ some.4 in
    All-map (λ s. has_card (legal_in s) card ≡ true) (state_of n.position) n.lefts
    (λ k d low. ap (λ cards. has_card cards card) (legal_in-ours n.position (get_or n.lefts k d) ours) ∙ shown)

-- ---- there is a card to play

pub choice_everywhere : (n : NodeValue) (s : State) → IsNode n → is_over n.position ≡ false → Contains (states n) s → (card : ℕ) × (has_card (choices n) card ≡ true) × (has_card (legal_in s) card ≡ true)
choice_everywhere n s ok left h =
    let state : IsState s = All-contains IsState (states n) s (states-IsState n ok) h in
    let same = ap (λ u. is_over u.position) (layout_of n s h).same in
    let some = some_legal s state (sym same ∙ left) in
    (some.0, choice_from_legal n some.0 s ok h some.1, some.1)

first_state : (n : NodeValue) → IsNode n → (s : State) × Contains (states n) s
first_state n ok = first_of_lefts n.position n.lefts ok.some
  where
    first_of_lefts : (t : PositionValue) (lefts : List (List ℕ)) → 1 ≤ length lefts → (s : State) × Contains (map (state_of t) lefts) s
    first_of_lefts t [] h = absurd (omega arith)
    first_of_lefts t (left ∷ lefts) h = (state_of t left, (0, omega arith, refl))

pub choice_somewhere : (n : NodeValue) → IsNode n → is_over n.position ≡ false → (card : ℕ) × (has_card (choices n) card ≡ true)
choice_somewhere n ok left =
    let some = first_state n ok in
    let card = choice_everywhere n some.0 ok left some.1 in
    (card.0, card.1)
