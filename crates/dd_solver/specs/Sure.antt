-- Sure cards and top trumps, and the cards that count for them.
use Rattle.std.specs.Prelude.{◌≡◌, ℕ, ◌<◌, ◌≤◌, true, List, length, filter}
use Rattle.card_sets.specs.declared.card.Suit.{Suit}
use Rattle.card_sets.specs.declared.card.Suit.TheVariants.{Spades, Hearts, Diamonds, Clubs}
use Rattle.card_sets.specs.Cards.{suit_of}
use Rattle.card_sets.specs.SetWords.{has_card, Apart}
use Rattle.trick_rules.specs.Play.{of_suit}
use Rattle.sure_tricks.specs.Sure.{above}
use Rattle.sure_tricks.specs.declared.count.Counts.{Counts}
use Rattle.equivalent_positions.specs.Alike.{IsClosedUp}

-- how many are sure in a suit
abbrev pub number_in : Counts → Suit → ℕ
number_in counts Spades = counts.spades
number_in counts Hearts = counts.hearts
number_in counts Diamonds = counts.diamonds
number_in counts Clubs = counts.clubs

-- among a hand's highest cards of a suit, this many, those are here that come before a place at which another hand has no card
-- of the suit left
abbrev pub AreWinnersIn : Suit → ℕ → List ℕ → List ℕ → List ℕ → Type 0
AreWinnersIn suit many hand other cards = (card : ℕ) → has_card hand card ≡ true → suit_of card ≡ suit
    → length (above card hand) < many → length (above card hand) < length (of_suit suit other)
    → has_card cards card ≡ true

-- the same of each suit
abbrev pub AreWinners : Counts → List ℕ → List ℕ → List ℕ → Type 0
AreWinners counts hand other cards = (card : ℕ) → has_card hand card ≡ true
    → length (above card hand) < number_in counts (suit_of card)
    → length (above card hand) < length (of_suit (suit_of card) other) → has_card cards card ≡ true

-- this many cards of a suit that a hand has, with all higher ones; no opponent has one of these
pub record AreOutOfReach (hand opponents : List ℕ) (suit : Suit) (many : ℕ) (cards : List ℕ)
    : Type 0 where
  pub closed : IsClosedUp cards
  pub apart : Apart cards opponents
  pub enough : many ≤ length (filter (has_card cards) (of_suit suit hand))
