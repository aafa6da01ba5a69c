-- A card is its place in card order: spades, hearts, diamonds, clubs, and 2 to the ace within a suit.
use Rattle.std.specs.Prelude.{ℕ, ◌+◌, ◌-◌, ◌*◌, ◌%◌, Bool, nat_lt, ◌==◌, if◌then◌else◌}
use Rattle.card_sets.specs.declared.card.Suit.{Suit}
use Rattle.card_sets.specs.declared.card.Suit.TheVariants.{Spades, Hearts, Diamonds, Clubs}

-- a suit's place in card order
abbrev pub suit_place : Suit → ℕ
suit_place Spades = 0
suit_place Hearts = 1
suit_place Diamonds = 2
suit_place Clubs = 3

-- whether two suits are the same
abbrev pub same_suit : Suit → Suit → Bool
same_suit a b = suit_place a == suit_place b

-- the card of a suit and a rank from 2 to 14
abbrev pub card_of : Suit → ℕ → ℕ
card_of suit rank = 13 * suit_place suit + (rank - 2)

-- the suit of a card: thirteen cards to each
abbrev pub suit_of : ℕ → Suit
suit_of card = if nat_lt card 13 then Spades else if nat_lt card 26 then Hearts else if nat_lt card 39 then Diamonds else Clubs

-- the rank of a card: 11 to 14 are the jack, queen, king and ace
abbrev pub rank_of : ℕ → ℕ
rank_of card = card % 13 + 2
