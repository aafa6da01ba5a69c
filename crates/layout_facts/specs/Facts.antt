-- Facts about the cards that the defenders hold now.
use Rattle.std.specs.Prelude.{ℕ, ◌-◌, ◌==◌, Bool, List, [], ◌∷◌, ◌++◌, length, flat_map, nat_le}
use Rattle.std.specs.List.{range_with_len}
use Rattle.card_sets.specs.declared.card.Suit.{Suit}
use Rattle.card_sets.specs.declared.card.Suit.TheVariants.{Spades, Hearts, Diamonds, Clubs}
use Rattle.card_sets.specs.declared.seat.Seat.{Seat}
use Rattle.card_sets.specs.declared.seat.Seat.TheVariants.{Left, Right}
use Rattle.card_sets.specs.Cards.{card_of}
use Rattle.card_sets.specs.SetWords.{has_card}
use Rattle.trick_rules.specs.Positions.{State}
use Rattle.trick_rules.specs.Play.{hand_of, of_suit}
use Rattle.layout_facts.specs.declared.fact.Fact.{Fact}
use Rattle.layout_facts.specs.declared.fact.Fact.TheVariants.{Holds, Exactly, AtLeast}

-- how many cards of a suit a seat holds
abbrev pub length_of : Seat → Suit → State → ℕ
length_of seat suit s = length (of_suit suit (hand_of s seat))

-- whether a fact is so: the seat holds the card; it has exactly this many cards of the suit; it has at least this many
abbrev pub holds_in : Fact → State → Bool
holds_in (Holds seat card) s = has_card (hand_of s seat) card
holds_in (Exactly seat suit count) s = length_of seat suit s == count
holds_in (AtLeast seat suit count) s = nat_le count (length_of seat suit s)

-- ---- the facts that are tried, in order

abbrev pub suits : List Suit
suits = Spades ∷ Hearts ∷ Diamonds ∷ Clubs ∷ []

-- one defender holds the card, or the other does
abbrev pub holding : ℕ → Suit → List Fact
holding rank suit = Holds Left (card_of suit rank) ∷ Holds Right (card_of suit rank) ∷ []

-- the same of the cards of a rank, suit after suit
abbrev pub holdings : ℕ → List Fact
holdings rank = flat_map (holding rank) suits

-- the same of all cards, from the aces down
unfoldable pub all_holdings : List Fact
all_holdings = flat_map (λ place. holdings (14 - place)) (range_with_len 0 13)

-- a defender has exactly this many cards of a suit, or at least this many
abbrev pub suit_lengths : ℕ → Suit → List Fact
suit_lengths count suit = Exactly Left suit count ∷ AtLeast Left suit count ∷ Exactly Right suit count ∷ AtLeast Right suit count ∷ []

-- the same of each suit
abbrev pub lengths : ℕ → List Fact
lengths count = flat_map (suit_lengths count) suits

-- the same of all numbers, from none up
unfoldable pub all_lengths : List Fact
all_lengths = flat_map lengths (range_with_len 0 14)

-- which card a defender holds, and then how many of a suit
unfoldable pub facts : List Fact
facts = all_holdings ++ all_lengths
