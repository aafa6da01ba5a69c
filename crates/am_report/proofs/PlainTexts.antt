-- No line ends inside a letter, a card, a hand or a list of them.
use Rattle.std.proofs.Common.{◌≡◌, ℕ, zero, suc, ◌-◌, true, not, List, [], ◌∷◌, ◌++◌, map, filter, flat_map, get_or, refl, codes}
use Rattle.std.specs.List.{join_with_byte}
use Rattle.std.proofs.lemmas.Bool.{and_parts}
use Rattle.card_sets.specs.declared.card.Suit.{Suit}
use Rattle.card_sets.specs.declared.card.Suit.TheVariants.{Spades, Hearts, Diamonds, Clubs}
use Rattle.card_sets.specs.declared.seat.Compass.{Compass}
use Rattle.card_sets.specs.declared.seat.Compass.TheVariants.{N, E, S, W}
use Rattle.card_sets.specs.Cards.{suit_of, rank_of, card_of}
use Rattle.card_sets.specs.SetWords.{has_card}
use Rattle.pbn_deal.specs.Hands.{suit_order}
use Rattle.card_letters.specs.Letters.{letters_of, suit_letter, rank_letter, compass_letter}
use Rattle.pbn_deal.specs.Writing.{ranks_down, suit_text, hand_text}
use Rattle.am_report.specs.Lines.{spaced}
use Rattle.byte_text.specs.Lines.{is_line_end}
use Rattle.byte_text.proofs.PlainLines.{is_plain, plain_both, plain_cons}

-- ---- letters

get_or_plain : (text : List ℕ) (i : ℕ) → is_plain text ≡ true → not (is_line_end (get_or text i 0)) ≡ true
get_or_plain [] i plain = refl
get_or_plain (byte ∷ text) zero plain = (and_parts (not (is_line_end byte)) (is_plain text) plain).0
get_or_plain (byte ∷ text) (suc i) plain = get_or_plain text i (and_parts (not (is_line_end byte)) (is_plain text) plain).1

rank_plain : (rank : ℕ) → not (is_line_end (rank_letter rank)) ≡ true
rank_plain rank = get_or_plain (codes "23456789TJQKA") (rank - 2) refl

suit_plain : (suit : Suit) → not (is_line_end (suit_letter suit)) ≡ true
suit_plain Spades = refl
suit_plain Hearts = refl
suit_plain Diamonds = refl
suit_plain Clubs = refl

compass_plain : (place : Compass) → not (is_line_end (compass_letter place)) ≡ true
compass_plain N = refl
compass_plain E = refl
compass_plain S = refl
compass_plain W = refl

pub suit_letter_plain : (suit : Suit) → is_plain (suit_letter suit ∷ []) ≡ true
suit_letter_plain suit = plain_cons (suit_letter suit) [] (suit_plain suit) refl

pub compass_letter_plain : (place : Compass) → is_plain (compass_letter place ∷ []) ≡ true
compass_letter_plain place = plain_cons (compass_letter place) [] (compass_plain place) refl

pub card_text_plain : (card : ℕ) → is_plain (letters_of card) ≡ true
card_text_plain card =
    plain_cons (suit_letter (suit_of card)) (rank_letter (rank_of card) ∷ []) (suit_plain (suit_of card)) (plain_cons (rank_letter (rank_of card)) [] (rank_plain (rank_of card)) refl)

-- ---- hands

ranks_plain : (ranks : List ℕ) → is_plain (map rank_letter ranks) ≡ true
ranks_plain [] = refl
ranks_plain (rank ∷ ranks) = plain_cons (rank_letter rank) (map rank_letter ranks) (rank_plain rank) (ranks_plain ranks)

suit_text_plain : (cards : List ℕ) (suit : Suit) → is_plain (suit_text cards suit) ≡ true
unfolding suit_text
suit_text_plain cards suit = ranks_plain (filter (λ rank. has_card cards (card_of suit rank)) ranks_down)

joined_plain : (pieces : List Suit) (text : Suit → List ℕ) → ((suit : Suit) → is_plain (text suit) ≡ true) → is_plain (join_with_byte 46 (map text pieces)) ≡ true
joined_plain [] text plain = refl
joined_plain (suit ∷ []) text plain = plain suit
joined_plain (suit ∷ next ∷ later) text plain =
    plain_both (text suit) (46 ∷ join_with_byte 46 (map text (next ∷ later))) (plain suit) (plain_cons 46 (join_with_byte 46 (map text (next ∷ later))) refl (joined_plain (next ∷ later) text plain))

pub hand_text_plain : (cards : List ℕ) → is_plain (hand_text cards) ≡ true
unfolding hand_text
hand_text_plain cards = joined_plain suit_order (suit_text cards) (suit_text_plain cards)

-- ---- lists

later_plain : {A : Type 0} (written : A → List ℕ) → ((x : A) → is_plain (written x) ≡ true) → (items : List A) → is_plain (flat_map (λ x. codes " " ++ written x) items) ≡ true
later_plain written plain [] = refl
later_plain written plain (x ∷ items) =
    plain_both (codes " " ++ written x) (flat_map (λ y. codes " " ++ written y) items) (plain_both (codes " ") (written x) refl (plain x)) (later_plain written plain items)

pub spaced_plain : {A : Type 0} (written : A → List ℕ) → ((x : A) → is_plain (written x) ≡ true) → (items : List A) → is_plain (spaced written items) ≡ true
spaced_plain written plain [] = refl
spaced_plain written plain (x ∷ items) = plain_both (written x) (flat_map (λ y. codes " " ++ written y) items) (plain x) (later_plain written plain items)
