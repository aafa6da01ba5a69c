-- The letters of suits, ranks, cards and compass points: upper case where they are written, either case where they are read.
use Rattle.std.specs.Prelude.{ℕ, Bool, ◌==◌, ◌||◌, ◌&&◌, ◌+◌, ◌-◌, Option, None, Some, List, [], ◌∷◌, if◌then◌else◌, codes, slice_index, nat_le, option_and_then}
use Rattle.std.specs.Option.{option_map}
use Rattle.card_sets.specs.declared.card.Suit.{Suit}
use Rattle.card_sets.specs.declared.card.Suit.TheVariants.{Spades, Hearts, Diamonds, Clubs}
use Rattle.card_sets.specs.declared.seat.Compass.{Compass}
use Rattle.card_sets.specs.declared.seat.Compass.TheVariants.{N, E, S, W}
use Rattle.card_sets.specs.Cards.{suit_of, rank_of, card_of}

-- S, H, D and C
abbrev pub suit_letter : Suit → ℕ
suit_letter Spades = 83
suit_letter Hearts = 72
suit_letter Diamonds = 68
suit_letter Clubs = 67

-- the ranks from 2 to 14: digits, then T, J, Q, K and A
abbrev pub rank_letter : ℕ → ℕ
rank_letter rank = slice_index (codes "23456789TJQKA") (rank - 2)

abbrev pub compass_letter : Compass → ℕ
compass_letter N = 78
compass_letter E = 69
compass_letter S = 83
compass_letter W = 87

-- a card: its suit and its rank
abbrev pub letters_of : ℕ → List ℕ
letters_of card = suit_letter (suit_of card) ∷ rank_letter (rank_of card) ∷ []

-- a letter in upper or lower case
abbrev pub is_letter : ℕ → ℕ → Bool
is_letter upper byte = byte == upper || byte == upper + 32

-- the suit that a letter names
abbrev pub suit_read : ℕ → Option Suit
suit_read byte =
    if is_letter 83 byte then Some Spades
    else if is_letter 72 byte then Some Hearts
    else if is_letter 68 byte then Some Diamonds
    else if is_letter 67 byte then Some Clubs
    else None

-- the compass point that a letter names
abbrev pub compass_read : ℕ → Option Compass
compass_read byte =
    if is_letter 78 byte then Some N
    else if is_letter 69 byte then Some E
    else if is_letter 83 byte then Some S
    else if is_letter 87 byte then Some W
    else None

-- the rank that a digit or a letter names
abbrev pub rank_read : ℕ → Option ℕ
rank_read byte =
    if nat_le 50 byte && nat_le byte 57 then Some (byte - 48)
    else if is_letter 84 byte then Some 10
    else if is_letter 74 byte then Some 11
    else if is_letter 81 byte then Some 12
    else if is_letter 75 byte then Some 13
    else if is_letter 65 byte then Some 14
    else None

-- the card that two bytes name: a suit, then a rank
abbrev pub card_read : ℕ → ℕ → Option ℕ
card_read suit rank = option_and_then (λ s. option_map (λ r. card_of s r) (rank_read rank)) (suit_read suit)
