-- The lengths of suits in one number, and what a card takes from a shape.
use Rattle.std.proofs.Common.{◌≡◌, ℕ, ◌+◌, ◌*◌, ◌<◌, ◌≤◌, Bool, true, false, not, eqb, cond, ◌-◌, List, [], ◌∷◌, length, refl, sym, ap, ◌∙◌, inl, inr, arith}
use Rattle.std.proofs.lemmas.Bool.{or_right, both_ways, cases_Bool, and_parts, not-true}
use Rattle.card_sets.specs.declared.card.Suit.{Suit}
use Rattle.card_sets.specs.declared.card.Suit.TheVariants.{Spades, Hearts, Diamonds, Clubs}
use Rattle.card_sets.specs.declared.seat.Seat.{Seat}
use Rattle.card_sets.specs.declared.seat.Seat.TheVariants.{Declarer, Left, Dummy, Right}
use Rattle.card_sets.specs.Cards.{suit_of, suit_place, same_suit, card_of, rank_of}
use Rattle.card_sets.specs.SetWords.{has_card, IsCardSet}
use Rattle.card_sets.proofs.Sets.{has_card-below, has_card-filter, IsCardSet-filter, IsCardSet-tail, tail-after}
use Rattle.card_sets.proofs.Suits.{same_suit-true, card_of-suit_of}
use Rattle.card_sets.proofs.SetCounts.{take_out-absent}
use Rattle.trick_rules.specs.Positions.{State, to_play, IsState}
use Rattle.trick_rules.specs.Play.{of_suit, take_out, hand_of, legal_in, after}
use Rattle.trick_rules.proofs.CardLists.{first_has}
use Rattle.trick_rules.proofs.States.{after_card-unseen, after_card-declarer, after_card-dummy}
use Rattle.sure_tricks.proofs.Counting.{count_in, count_out}
use Rattle.equivalent_positions.proofs.Cards.{legal_held}
use Rattle.dd_solver.specs.Shapes.{lengths_of, place_of, shape_of}

-- ---- at most thirteen cards of a suit

-- a set has no more cards than there are places between its first and its last
run : (xs : List ℕ) (low high : ℕ) → IsCardSet xs → low ≤ high → ((c : ℕ) → has_card xs c ≡ true → (low ≤ c) × (c < high)) → length xs + low ≤ high
run [] low high set le within = omega arith
run (x ∷ xs) low high set le within =
    let here = within x (first_has x xs) in
    let rest = run xs (x + 1) high (IsCardSet-tail x xs set) (omega (arith, here)) (λ c h. (omega (arith, tail-after x xs set c h), (within c (or_right (eqb x c) (has_card xs c) h)).1)) in
    omega (arith, here, rest)

in_suit : (suit : Suit) (c : ℕ) → c < 52 → suit_of c ≡ suit → (13 * suit_place suit ≤ c) × (c < 13 * suit_place suit + 13)
in_suit suit c low e =
    let is : 13 * suit_place suit + (rank_of c - 2) ≡ c = ap (λ u. card_of u (rank_of c)) (sym e) ∙ card_of-suit_of c low in
    (omega (arith, is), omega (arith, is))

pub at_most_13 : (suit : Suit) (xs : List ℕ) → IsCardSet (of_suit suit xs) → length (of_suit suit xs) ≤ 13
at_most_13 suit xs set =
    let p = λ (c : ℕ). same_suit (suit_of c) suit in
    let is = λ (c : ℕ) (h : has_card (of_suit suit xs) c ≡ true). same_suit-true (suit_of c) suit (and_parts (has_card xs c) (p c) (sym (has_card-filter p xs c) ∙ h)).1 in
    omega (arith, run (of_suit suit xs) (13 * suit_place suit) (13 * suit_place suit + 13) set (omega arith) (λ c h. in_suit suit c (has_card-below (of_suit suit xs) c set h) (is c h)))

pub lengths_small : (xs : List ℕ) → IsCardSet xs → lengths_of xs < 65536
lengths_small xs set = omega (arith, of Spades, of Hearts, of Diamonds, of Clubs)
  where
    of : (suit : Suit) → length (of_suit suit xs) ≤ 13
    of suit = at_most_13 suit xs (IsCardSet-filter (λ c. same_suit (suit_of c) suit) xs set)

-- ---- a card leaves a hand

one_at : (b : Bool) (card m n : ℕ) → (b ≡ true → m + 1 ≡ n) → (b ≡ false → m ≡ n) → m + length (cond b (card ∷ []) []) ≡ n
one_at true card m n of out = omega (arith, of refl)
one_at false card m n of out = omega (arith, out refl)

taken : (xs : List ℕ) (card : ℕ) → IsCardSet xs → has_card xs card ≡ true → lengths_of (take_out card xs) + lengths_of (card ∷ []) ≡ lengths_of xs
taken xs card set held = omega (arith, one Spades, one Hearts, one Diamonds, one Clubs)
  where
    one : (suit : Suit) → length (of_suit suit (take_out card xs)) + length (of_suit suit (card ∷ [])) ≡ length (of_suit suit xs)
    one suit =
        let p = λ (c : ℕ). same_suit (suit_of c) suit in
        one_at (p card) card (length (of_suit suit (take_out card xs))) (length (of_suit suit xs)) (count_in p xs card set held) (λ e. ap (length {A = ℕ}) (count_out p xs card e))

kept : (xs : List ℕ) (card : ℕ) → has_card xs card ≡ false → lengths_of (take_out card xs) ≡ lengths_of xs
kept xs card none = ap lengths_of (take_out-absent xs card none)

-- ---- and its shape

from_declarer : (a b c d a' b' c' d' w : ℕ) → a' + w ≡ a → b' ≡ b → c' ≡ c → d' ≡ d
    → a' * 281474976710656 + b' * 4294967296 + c' * 65536 + d' + w * 281474976710656 ≡ a * 281474976710656 + b * 4294967296 + c * 65536 + d
from_declarer a b c d a' b' c' d' w p q r t = omega arith

from_dummy : (a b c d a' b' c' d' w : ℕ) → a' ≡ a → b' + w ≡ b → c' ≡ c → d' ≡ d
    → a' * 281474976710656 + b' * 4294967296 + c' * 65536 + d' + w * 4294967296 ≡ a * 281474976710656 + b * 4294967296 + c * 65536 + d
from_dummy a b c d a' b' c' d' w p q r t = omega arith

from_left : (a b c d a' b' c' d' w : ℕ) → a' ≡ a → b' ≡ b → c' + w ≡ c → d' + w ≡ d
    → a' * 281474976710656 + b' * 4294967296 + c' * 65536 + d' + w * 65537 ≡ a * 281474976710656 + b * 4294967296 + c * 65536 + d
from_left a b c d a' b' c' d' w p q r t = omega arith

from_right : (a b c d a' b' c' d' w : ℕ) → a' ≡ a → b' ≡ b → c' + w ≡ c → d' ≡ d
    → a' * 281474976710656 + b' * 4294967296 + c' * 65536 + d' + w * 65536 ≡ a * 281474976710656 + b * 4294967296 + c * 65536 + d
from_right a b c d a' b' c' d' w p q r t = omega arith

module _ (s : State) (card : ℕ) (ok : IsState s) where
  gone : (xs ys : List ℕ) → ((c : ℕ) → has_card xs c ≡ true → has_card ys c ≡ false) → has_card ys card ≡ true → has_card xs card ≡ false
  gone xs ys apart held = elim (cases_Bool (has_card xs card)) as (λ _. has_card xs card ≡ false) [
    | inl h ↦ absurd (both_ways (has_card ys card) (apart card h) held)
    | inr h ↦ h
  ]

  not_left : has_card s.position.unseen card ≡ false → has_card s.left card ≡ false
  not_left none = elim (cases_Bool (has_card s.left card)) as (λ _. has_card s.left card ≡ false) [
    | inl h ↦ absurd (both_ways (has_card s.position.unseen card) none (ok.fits.part card h))
    | inr h ↦ h
  ]

  declarer_after : lengths_of (after s card).position.declarer ≡ lengths_of (take_out card s.position.declarer)
  declarer_after = ap lengths_of (after_card-declarer s.position card)

  dummy_after : lengths_of (after s card).position.dummy ≡ lengths_of (take_out card s.position.dummy)
  dummy_after = ap lengths_of (after_card-dummy s.position card)

  unseen_after : lengths_of (after s card).position.unseen ≡ lengths_of (take_out card s.position.unseen)
  unseen_after = ap lengths_of (after_card-unseen s.position card)

  by_seat : (seat : Seat) → has_card (hand_of s seat) card ≡ true → shape_of (after s card) + lengths_of (card ∷ []) * place_of seat ≡ shape_of s
  by_seat Declarer held =
      let unseen = ok.sound.declarer_unseen card held in
      from_declarer _ _ _ _ _ _ _ _ (lengths_of (card ∷ [])) (ap (λ n. n + lengths_of (card ∷ [])) declarer_after ∙ taken s.position.declarer card ok.sound.declarer_set held)
      (dummy_after ∙ kept s.position.dummy card (ok.sound.declarer_dummy card held)) (unseen_after ∙ kept s.position.unseen card unseen) (kept s.left card (not_left unseen))
  by_seat Dummy held =
      let unseen = ok.sound.dummy_unseen card held in
      from_dummy _ _ _ _ _ _ _ _ (lengths_of (card ∷ [])) (declarer_after ∙ kept s.position.declarer card (gone s.position.declarer s.position.dummy ok.sound.declarer_dummy held))
      (ap (λ n. n + lengths_of (card ∷ [])) dummy_after ∙ taken s.position.dummy card ok.sound.dummy_set held) (unseen_after ∙ kept s.position.unseen card unseen) (kept s.left card (not_left unseen))
  by_seat Left held =
      let unseen = ok.fits.part card held in
      from_left _ _ _ _ _ _ _ _ (lengths_of (card ∷ [])) (declarer_after ∙ kept s.position.declarer card (gone s.position.declarer s.position.unseen ok.sound.declarer_unseen unseen))
      (dummy_after ∙ kept s.position.dummy card (gone s.position.dummy s.position.unseen ok.sound.dummy_unseen unseen))
      (ap (λ n. n + lengths_of (card ∷ [])) unseen_after ∙ taken s.position.unseen card ok.sound.unseen_set unseen) (taken s.left card ok.fits.set held)
  by_seat Right held =
      let both = and_parts (has_card s.position.unseen card) (not (has_card s.left card)) (sym (has_card-filter (λ c. not (has_card s.left c)) s.position.unseen card) ∙ held) in
      from_right _ _ _ _ _ _ _ _ (lengths_of (card ∷ [])) (declarer_after ∙ kept s.position.declarer card (gone s.position.declarer s.position.unseen ok.sound.declarer_unseen both.0))
      (dummy_after ∙ kept s.position.dummy card (gone s.position.dummy s.position.unseen ok.sound.dummy_unseen both.0))
      (ap (λ n. n + lengths_of (card ∷ [])) unseen_after ∙ taken s.position.unseen card ok.sound.unseen_set both.0) (kept s.left card (not-true (has_card s.left card) both.1))

  pub shape-after : has_card (legal_in s) card ≡ true → shape_of (after s card) + lengths_of (card ∷ []) * place_of (to_play s.position) ≡ shape_of s
  shape-after legal = by_seat (to_play s.position) (legal_held s card legal)
