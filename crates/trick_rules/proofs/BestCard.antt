-- The best card of a trick so far, and what one card more changes.
use Rattle.std.proofs.Common.{◌≡◌, ◌≢◌, ℕ, suc, ◌+◌, ◌<◌, ◌≤◌, Bool, true, false, not, ◌&&◌, ◌||◌, cond, ltb, List, [], ◌∷◌, ◌++◌, length, map, get_or, refl, sym, ap, subst, ◌∙◌, inl, inr, arith}
use Rattle.std.specs.Prelude.{◌⊎◌}
use Rattle.std.proofs.lemmas.Bool.{false≢true, false_from_ne_true, cases_Bool, cases_lt, lt-ltb, le-ltb, ltb-true, ltb-false}
use Rattle.std.proofs.lemmas.Grind.{get_or_default_zero}
use Rattle.std.proofs.lemmas.List.{length-map, length_push, get_or_at}
use Rattle.std.proofs.Math.ListN.{get_or-append}
use Rattle.card_sets.specs.declared.card.Suit.{Suit}
use Rattle.card_sets.specs.Cards.{suit_of, rank_of, same_suit, suit_place}
use Rattle.card_sets.proofs.Suits.{same_suit-true, same_suit-refl}
use Rattle.trick_rules.specs.declared.trump.Trump.{Trump}
use Rattle.trick_rules.specs.declared.trump.Trump.TheVariants.{NoTrump, Suit as Suited}
use Rattle.trick_rules.specs.Play.{is_trump, strength, winning_place, beats}
use Rattle.trick_rules.proofs.TrickLemmas.{IsHighest, IsHighest-takes, IsHighest-keeps, highest_among, beats-strength, suit_place-of, strong_card, led_strong, strengths, strength_at, winning_place-highest}

-- ---- whether a card beats the best one so far

trump_by_suit : (trump : Trump) (c d : ℕ) → suit_of c ≡ suit_of d → is_trump trump c ≡ is_trump trump d
trump_by_suit NoTrump c d e = refl
trump_by_suit (Suited suit) c d e = ap (λ s. same_suit s suit) e

one_trump_suit : (trump : Trump) (c d : ℕ) → is_trump trump d ≡ true → is_trump trump c ≡ true → suit_of c ≡ suit_of d
one_trump_suit NoTrump c d h k = absurd (false≢true h)
one_trump_suit (Suited suit) c d h k = same_suit-true (suit_of c) suit k ∙ sym (same_suit-true (suit_of d) suit h)

-- in one suit the higher card beats the best one
pub takes_in_suit : (trump : Trump) (led : Suit) (best card : ℕ) → best < 52 → card < 52 → suit_of card ≡ suit_of best → (is_trump trump best ≡ true) ⊎ (suit_of best ≡ led)
    → ltb best card ≡ beats trump led card best
takes_in_suit trump led best card low high e strong =
    rw (trump_by_suit trump card best e, e) (by_rank ∙ numbers (is_trump trump best) (same_suit (suit_of best) led) (ltb (rank_of best) (rank_of card)) follows)
  where
    place : suit_place (suit_of card) ≡ suit_place (suit_of best)
    place = ap suit_place e

    by_rank : ltb best card ≡ ltb (rank_of best) (rank_of card)
    by_rank = elim (cases_lt best card) as (λ _. ltb best card ≡ ltb (rank_of best) (rank_of card)) [
      | inl less ↦ lt-ltb best card less ∙ sym (lt-ltb (rank_of best) (rank_of card) (omega (arith, place, suit_place-of card high, suit_place-of best low)))
      | inr more ↦ le-ltb best card more ∙ sym (le-ltb (rank_of best) (rank_of card) (omega (arith, place, suit_place-of card high, suit_place-of best low)))
    ]

    follows : (is_trump trump best ≡ true) ⊎ (same_suit (suit_of best) led ≡ true)
    follows = elim strong as (λ _. (is_trump trump best ≡ true) ⊎ (same_suit (suit_of best) led ≡ true)) [
      | inl h ↦ inl h
      | inr h ↦ inr (ap (λ s. same_suit s led) h ∙ same_suit-refl led)
    ]

    numbers : (t f lt : Bool) → (t ≡ true) ⊎ (f ≡ true) → lt ≡ cond t (t && lt) (t || (f && (not f || lt)))
    numbers true f lt h = refl
    numbers false true lt h = refl
    numbers false false lt (inl h) = absurd (false≢true h)
    numbers false false lt (inr h) = absurd (false≢true h)

-- of another suit a trump beats it, and no other card
pub takes_as_trump : (trump : Trump) (led : Suit) (best card : ℕ) → suit_of card ≢ suit_of best → (is_trump trump best ≡ true) ⊎ (suit_of best ≡ led)
    → is_trump trump card ≡ beats trump led card best
takes_as_trump trump led best card differs strong =
    elim (cases_Bool (is_trump trump best)) as (λ _. is_trump trump card ≡ beats trump led card best) [
      | inl ruffed ↦ (let not_higher : is_trump trump card ≡ false = false_from_ne_true (is_trump trump card) (λ h. differs (one_trump_suit trump card best ruffed h)) in
          rw (ruffed, not_higher) refl)
      | inr plain ↦ elim strong as (λ _. is_trump trump card ≡ beats trump led card best) [
        | inl h ↦ absurd (false≢true (sym plain ∙ h))
        | inr h ↦ (let other : same_suit (suit_of card) led ≡ false = false_from_ne_true (same_suit (suit_of card) led) (λ k. differs (same_suit-true (suit_of card) led k ∙ sym h)) in
            rw (plain, other) (or_no (is_trump trump card)))
      ]
    ]
  where
    or_no : (b : Bool) → b ≡ (b || false)
    or_no true = refl
    or_no false = refl

-- ---- after a loop over the cards

pub place_from_highest : (trump : Trump) (cards : List ℕ) (b : ℕ) → 1 ≤ length cards
    → IsHighest (map (strength trump (suit_of (get_or cards 0 0))) cards) (length cards) b → b ≡ winning_place trump cards
place_from_highest trump [] b some h = absurd (omega arith)
place_from_highest trump (led ∷ rest) b some h = sym (winning_place-highest trump led rest b h)

-- ---- one card more

map-push : (f : ℕ → ℕ) (xs : List ℕ) (y : ℕ) → map f (xs ++ y ∷ []) ≡ map f xs ++ f y ∷ []
map-push f [] y = refl
map-push f (x ∷ xs) y = ap (λ ys. f x ∷ ys) (map-push f xs y)

IsHighest-longer : (xs : List ℕ) (y i b : ℕ) → i ≤ length xs → IsHighest xs i b → IsHighest (xs ++ y ∷ []) i b
IsHighest-longer xs y i b fits h = record {
  within = h.within;
  most = λ k low. omega (arith, h.most k low, get_or-append xs (y ∷ []) 0 k (omega arith), get_or-append xs (y ∷ []) 0 b (omega (arith, h.within)));
  first = λ k low. omega (arith, h.first k low, get_or-append xs (y ∷ []) 0 k (omega (arith, h.within)), get_or-append xs (y ∷ []) 0 b (omega (arith, h.within)));
}

module _ (trump : Trump) (led : ℕ) (rest : List ℕ) (card : ℕ) where
  found : (b : ℕ) × IsHighest (strengths trump led rest) (suc (length rest)) b
  found = highest_among (strengths trump led rest) (length rest)

  found-place : winning_place trump (led ∷ rest) ≡ found.0
  found-place = winning_place-highest trump led rest found.0 found.1

  found-strength : get_or (strengths trump led rest) found.0 0 ≡ strength trump (suit_of led) (get_or (led ∷ rest) found.0 0)
  found-strength = strength_at trump led rest found.0 found.1.within

  count : length (strengths trump led rest) ≡ suc (length rest)
  count = length-map (led ∷ rest) (strength trump (suit_of led))

  -- the strengths with that of one card more
  abbrev longer : List ℕ
  longer = strengths trump led rest ++ strength trump (suit_of led) card ∷ []

  longer-highest : IsHighest longer (suc (length rest)) found.0
  longer-highest = IsHighest-longer (strengths trump led rest) (strength trump (suit_of led) card) (suc (length rest)) found.0 (omega (arith, count)) found.1

  longer-found : get_or longer found.0 0 ≡ strength trump (suit_of led) (get_or (led ∷ rest) found.0 0)
  longer-found = get_or-append (strengths trump led rest) (strength trump (suit_of led) card ∷ []) 0 found.0 (omega (arith, count, found.1.within)) ∙ found-strength

  longer-last : get_or longer (suc (length rest)) 0 ≡ strength trump (suit_of led) card
  longer-last = omega (arith, get_or_at (strengths trump led rest) (strength trump (suit_of led) card) [] 0 (suc (length rest)) count)

  at_end : (place : ℕ) → IsHighest longer (suc (length rest) + 1) place → place ≡ winning_place trump (led ∷ rest ++ card ∷ [])
  at_end place h =
      let size : length (led ∷ rest ++ card ∷ []) ≡ suc (length rest) + 1 = omega (arith, length_push rest card) in
      sym (winning_place-highest trump led (rest ++ card ∷ []) place (rw (map-push (strength trump (suit_of led)) rest card, size) h))

  takes_at_end : strength trump (suit_of led) (get_or (led ∷ rest) found.0 0) < strength trump (suit_of led) card → suc (length rest) ≡ winning_place trump (led ∷ rest ++ card ∷ [])
  takes_at_end less = at_end (suc (length rest)) (IsHighest-takes longer (suc (length rest)) found.0 longer-highest (omega (arith, less, longer-found, longer-last)))

  keeps_at_end : strength trump (suit_of led) card ≤ strength trump (suit_of led) (get_or (led ∷ rest) found.0 0) → found.0 ≡ winning_place trump (led ∷ rest ++ card ∷ [])
  keeps_at_end low = at_end found.0 (IsHighest-keeps longer (suc (length rest)) found.0 longer-highest (omega (arith, low, longer-found, longer-last)))

-- the best card so far is a trump or of the suit led
pub best_strong : (trump : Trump) (cards : List ℕ) (best : ℕ) → 1 ≤ length cards → best ≡ winning_place trump cards
    → (is_trump trump (get_or cards best 0) ≡ true) ⊎ (suit_of (get_or cards best 0) ≡ suit_of (get_or cards 0 0))
best_strong trump [] best some e = absurd (omega arith)
best_strong trump (led ∷ rest) best some e =
    let place : best ≡ (found trump led rest 0).0 = e ∙ found-place trump led rest 0 in
    let least = (found trump led rest 0).1.most 0 (omega arith) in
    let first = strength_at trump led rest 0 (omega arith) in
    rw place (strong_card trump (suit_of led) (get_or (led ∷ rest) (found trump led rest 0).0 0)
    (omega (arith, led_strong trump led, least, first, found-strength trump led rest 0)))

-- the next card wins if it beats the best one so far
pub last_takes : (trump : Trump) (cards : List ℕ) (card best : ℕ) → 1 ≤ length cards → best ≡ winning_place trump cards
    → beats trump (suit_of (get_or cards 0 0)) card (get_or cards best 0) ≡ true → length cards ≡ winning_place trump (cards ++ card ∷ [])
last_takes trump [] card best some e h = absurd (omega arith)
last_takes trump (led ∷ rest) card best some e h =
    let place : best ≡ (found trump led rest card).0 = e ∙ found-place trump led rest card in
    takes_at_end trump led rest card (ltb-true _ _ (sym (beats-strength trump (suit_of led) card (get_or (led ∷ rest) (found trump led rest card).0 0)) ∙ (rw place at h)))

-- and otherwise the best one so far does
pub last_fails : (trump : Trump) (cards : List ℕ) (card best : ℕ) → 1 ≤ length cards → best ≡ winning_place trump cards
    → beats trump (suit_of (get_or cards 0 0)) card (get_or cards best 0) ≡ false → best ≡ winning_place trump (cards ++ card ∷ [])
last_fails trump [] card best some e h = absurd (omega arith)
last_fails trump (led ∷ rest) card best some e h =
    let place : best ≡ (found trump led rest card).0 = e ∙ found-place trump led rest card in
    place ∙ keeps_at_end trump led rest card (ltb-false _ _ (sym (beats-strength trump (suit_of led) card (get_or (led ∷ rest) (found trump led rest card).0 0)) ∙ (rw place at h)))

-- the same for the cards as they lie in a slice, by the test of the next card against the best one
module _ (trump : Trump) (cards slice : List ℕ) (best card last : ℕ) (test : Bool) (some : 1 ≤ length cards) (same : slice ≡ cards)
    (place : best ≡ winning_place trump slice) (within : best < length slice) (is : card ≡ get_or slice best card)
    (tests : (led : Suit) → (is_trump trump card ≡ true) ⊎ (suit_of card ≡ led) → test ≡ beats trump led last card) where
  at_best : best ≡ winning_place trump cards
  at_best = rw same at place

  tested : test ≡ beats trump (suit_of (get_or cards 0 0)) last (get_or cards best 0)
  tested =
      let low : best < length cards = rw same at within in
      let here : card ≡ get_or cards best 0 = (rw same at is) ∙ get_or_default_zero cards best card low in
      tests (suit_of (get_or cards 0 0)) (subst (λ c. (is_trump trump c ≡ true) ⊎ (suit_of c ≡ suit_of (get_or cards 0 0))) (sym here) (best_strong trump cards best some at_best))
      ∙ ap (λ c. beats trump (suit_of (get_or cards 0 0)) last c) here

  pub tested_takes : test ≡ true → length cards ≡ winning_place trump (cards ++ last ∷ [])
  tested_takes takes = last_takes trump cards last best some at_best (sym tested ∙ takes)

  pub tested_fails : test ≡ false → best ≡ winning_place trump (cards ++ last ∷ [])
  tested_fails fails = last_fails trump cards last best some at_best (sym tested ∙ fails)
