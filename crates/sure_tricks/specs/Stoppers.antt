-- Stoppers, at no trump: the highest cards in play of some suits, with the opponents of the side on lead.
use Rattle.std.specs.Prelude.{◌≡◌, ◌⊎◌, ℕ, ◌+◌, ◌<◌, ◌≤◌, Bool, true, List, length, filter, max, if◌then◌else◌}
use Rattle.std.specs.List.{list_any}
use Rattle.card_sets.specs.declared.card.Suit.{Suit}
use Rattle.card_sets.specs.declared.card.Suit.TheVariants.{Spades, Hearts, Diamonds, Clubs}
use Rattle.card_sets.specs.declared.seat.Seat.{Seat}
use Rattle.card_sets.specs.Cards.{suit_of, same_suit}
use Rattle.card_sets.specs.SetWords.{has_card}
use Rattle.trick_rules.specs.Positions.{State, seat_after, tricks_left}
use Rattle.trick_rules.specs.Play.{of_suit, hand_of}

-- whether one of the cards is of the suit
abbrev pub has_suit : List ℕ → Suit → Bool
has_suit cards suit = list_any (λ c. same_suit (suit_of c) suit) cards

module _ (s : State) (x : Seat) (stoppers : List ℕ) where
  -- how often a seat and its partner can lead or follow to a suit that isn't stopped: the length of
  -- the longer of their two hands in it
  abbrev pub rounds_of : Suit → ℕ
  rounds_of suit = if has_suit stoppers suit then 0
      else max (length (of_suit suit (hand_of s x))) (length (of_suit suit (hand_of s (seat_after 2 x))))

  -- and in all suits: the most tricks before they lead a suit that is stopped
  abbrev pub rounds : ℕ
  rounds = rounds_of Spades + rounds_of Hearts + rounds_of Diamonds + rounds_of Clubs

-- The opponents of a seat hold these cards, no hand has a higher card of the suit of one of them,
-- and while the seat's side takes tricks in the other suits, each hand can keep those that it holds.
pub record AreStoppers (s : State) (x : Seat) (stoppers : List ℕ) : Type 0 where
  pub held : (card : ℕ) → has_card stoppers card ≡ true
      → (has_card (hand_of s (seat_after 1 x)) card ≡ true)
      ⊎ (has_card (hand_of s (seat_after 3 x)) card ≡ true)
  pub highest : (card other : ℕ) (seat : Seat) → has_card stoppers card ≡ true
      → has_card (hand_of s seat) other ≡ true → suit_of other ≡ suit_of card → other ≤ card
  pub lasting : rounds s x stoppers < tricks_left s.position
  pub kept : (seat : Seat) → (length (filter (has_card stoppers) (hand_of s seat)) ≤ 2)
      ⊎ (length (filter (has_card stoppers) (hand_of s seat)) + rounds s x stoppers
      ≤ tricks_left s.position)
