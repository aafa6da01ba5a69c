-- A hand's suits, one after another.
use Rattle.std.proofs.Common.{◌≡◌, ℕ, ◌+◌, ◌<◌, ◌≤◌, Bool, false, ◌||◌, get_or, List, [], ◌∷◌, ◌++◌, length, drop, refl, sym, ap, ap₂, ◌∙◌, arith, inl, inr}
use Rattle.std.specs.Prelude.{◌==◌, count_by}
use Rattle.std.specs.List.{slice_split, onto_first, position_or_len, before_first, after_first}
use Rattle.std.proofs.lemmas.Bool.{cases_lt, cases_Bool}
use Rattle.std.proofs.lemmas.List.Splits.{length-slice_split, slice_split-cons_no, slice_split_first}
use Rattle.std.proofs.lemmas.List.{take_all, drop_all, drop_more}
use Rattle.card_sets.specs.declared.card.Suit.{Suit}
use Rattle.pbn_deal.specs.Hands.{is_hidden, is_full_stop, suits_of, suit_order, has_four_suits, suit_cards, cards_in}

-- ---- the tests of a hand

eqb_more : (n : ℕ) → (n == 3) ≡ (n + 1 == 4)
eqb_more n = grind (arith)

pub has_four_suits-shown : (hand : List ℕ) → is_hidden hand ≡ false → (count_by is_full_stop hand == 3) ≡ has_four_suits hand
has_four_suits-shown hand shown =
    eqb_more (count_by is_full_stop hand) ∙ ap (λ n. n == 4) (sym (length-slice_split is_full_stop hand)) ∙ sym (ap (λ b. b || (length (suits_of hand) == 4)) shown)

-- ---- a hand's suits, read on from its first full stop

no_full_stop : (p : ℕ → Bool) (xs : List ℕ) → length xs ≤ position_or_len p xs → slice_split p xs ≡ xs ∷ []
no_full_stop p [] past = refl
no_full_stop p (x ∷ xs) past =
    elim (cases_Bool (p x)) [
      | inl stop ↦
          let here : position_or_len p (x ∷ xs) ≡ 0 = rw (stop) refl in
          absurd (omega (arith, here))
      | inr other ↦
          let more : position_or_len p (x ∷ xs) ≡ 1 + position_or_len p xs = rw (other) refl in
          slice_split-cons_no p x xs other ∙ ap (onto_first x) (no_full_stop p xs (omega (arith, more)))
    ]

cards_in-none : (suits : List Suit) → cards_in suits ([] ∷ []) ≡ []
cards_in-none [] = refl
cards_in-none (suit ∷ []) = refl
cards_in-none (suit ∷ second ∷ suits) = refl

cards_in-first : (suit : Suit) (suits : List Suit) (hand : List ℕ) (parts : List (List ℕ)) (letters : List ℕ) → suits_of hand ≡ letters ∷ parts → cards_in (suit ∷ suits) (suits_of hand) ≡ suit_cards suit letters ++ cards_in suits parts
cards_in-first suit suits hand parts letters is = ap (cards_in (suit ∷ suits)) is

cards_in-last : (suit : Suit) (suits : List Suit) → cards_in suits [] ≡ []
cards_in-last suit [] = refl
cards_in-last suit (second ∷ suits) = refl

pub cards_in-cons : (suit : Suit) (suits : List Suit) (hand : List ℕ) → cards_in (suit ∷ suits) (suits_of hand) ≡ suit_cards suit (before_first is_full_stop hand) ++ cards_in suits (suits_of (after_first is_full_stop hand))
cards_in-cons suit suits hand =
    elim (cases_lt (position_or_len is_full_stop hand) (length hand)) [
      | inl inside ↦ cards_in-first suit suits hand (suits_of (after_first is_full_stop hand)) (before_first is_full_stop hand) (slice_split_first is_full_stop hand 0 inside)
      | inr past ↦
          let one = cards_in-first suit suits hand [] hand (no_full_stop is_full_stop hand past) in
          let none : after_first is_full_stop hand ≡ [] = drop_all _ hand (omega (arith, past)) in
          one ∙ ap₂ (λ letters more. suit_cards suit letters ++ more) (sym (take_all _ hand past)) (cards_in-last suit suits ∙ sym (ap (λ h. cards_in suits (suits_of h)) none ∙ cards_in-none suits))
    ]

-- the suit at a place, and the suits after it
pub cards_in-next : (i : ℕ) (d : Suit) (hand letters others : List ℕ) → i < 4 → letters ≡ before_first is_full_stop hand → others ≡ after_first is_full_stop hand
    → cards_in (drop i suit_order) (suits_of hand) ≡ suit_cards (get_or suit_order i d) letters ++ cards_in (drop (i + 1) suit_order) (suits_of others)
cards_in-next i d hand letters others inside letters-is others-is =
    ap (λ suits. cards_in suits (suits_of hand)) (drop_more suit_order i d inside)
    ∙ cards_in-cons (get_or suit_order i d) (drop (i + 1) suit_order) hand
    ∙ ap₂ (λ first rest. suit_cards (get_or suit_order i d) first ++ cards_in (drop (i + 1) suit_order) (suits_of rest)) (sym letters-is) (sym others-is)
