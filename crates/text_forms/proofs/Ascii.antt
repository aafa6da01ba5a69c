-- The letters of cards and of compass points are ASCII.
use Rattle.std.proofs.Common.{◌≡◌, ◌<◌, ◌-◌, ◌&&◌, ℕ, Bool, true, false, true≢false, List, [], ◌∷◌, IsAscii, IsUtf8, codes, ltb, sym, refl, arith}
use Rattle.std.proofs.lemmas.Bool.{ltb-true}
use Rattle.std.proofs.lemmas.Str.{IsUtf8-from_ascii}
use Rattle.std.proofs.lemmas.Str.Ascii.{IsAscii-nil, IsAscii-cons}
use Rattle.card_sets.specs.declared.card.Suit.{Suit}
use Rattle.card_sets.specs.declared.card.Suit.TheVariants.{Spades, Hearts, Diamonds, Clubs}
use Rattle.card_sets.specs.declared.seat.Compass.{Compass}
use Rattle.card_sets.specs.declared.seat.Compass.TheVariants.{N, E, S, W}
use Rattle.card_sets.specs.Cards.{suit_of, rank_of}
use Rattle.card_letters.specs.Letters.{suit_letter, rank_letter, letters_of, compass_letter}

-- whether each byte is ASCII, as a test that computes
abbrev are_ascii : List ℕ → Bool
are_ascii [] = true
are_ascii (byte ∷ bytes) = ltb byte 128 && are_ascii bytes

both : (p q : Bool) → (p && q) ≡ true → (p ≡ true) × (q ≡ true)
both true q e = (refl, e)
both false q e = absurd (true≢false (sym e))

tested : (bytes : List ℕ) → are_ascii bytes ≡ true → IsAscii bytes
tested [] e = IsAscii-nil
tested (byte ∷ bytes) e =
    let pair = both (ltb byte 128) (are_ascii bytes) e in
    IsAscii-cons byte bytes (ltb-true byte 128 pair.0) (tested bytes pair.1)

suit_is_ascii : (suit : Suit) → suit_letter suit < 128
suit_is_ascii Spades = omega arith
suit_is_ascii Hearts = omega arith
suit_is_ascii Diamonds = omega arith
suit_is_ascii Clubs = omega arith

rank_is_ascii : (rank : ℕ) → rank_letter rank < 128
rank_is_ascii rank = tested (codes "23456789TJQKA") refl (rank - 2)

pub card_is_utf8 : (card : ℕ) → IsUtf8 (letters_of card)
card_is_utf8 card =
    let rank = rank_letter (rank_of card) in
    IsUtf8-from_ascii (letters_of card) (IsAscii-cons (suit_letter (suit_of card)) (rank ∷ []) (suit_is_ascii (suit_of card)) (IsAscii-cons rank [] (rank_is_ascii (rank_of card)) IsAscii-nil))

compass_is_ascii : (seat : Compass) → compass_letter seat < 128
compass_is_ascii N = omega arith
compass_is_ascii E = omega arith
compass_is_ascii S = omega arith
compass_is_ascii W = omega arith

pub compass_is_utf8 : (seat : Compass) → IsUtf8 (compass_letter seat ∷ [])
compass_is_utf8 seat = IsUtf8-from_ascii (compass_letter seat ∷ []) (IsAscii-cons (compass_letter seat) [] (compass_is_ascii seat) IsAscii-nil)
