-- Stoppers among four hands, as one seat sees them.
use Rattle.std.specs.Prelude.{◌≡◌, ◌⊎◌, ℕ, ◌+◌, ◌<◌, ◌≤◌, true, List, length, filter, max, if◌then◌else◌}
use Rattle.card_sets.specs.declared.card.Suit.{Suit}
use Rattle.card_sets.specs.declared.card.Suit.TheVariants.{Spades, Hearts, Diamonds, Clubs}
use Rattle.card_sets.specs.Cards.{suit_of}
use Rattle.card_sets.specs.SetWords.{has_card}
use Rattle.trick_rules.specs.Play.{of_suit}
use Rattle.sure_tricks.specs.Stoppers.{has_suit}
use Rattle.sure_tricks.specs.declared.count.SeenHands.{SeenHands}

-- the highest card of a suit in a set
pub record IsHighestIn (set : List ℕ) (suit : Suit) (card : ℕ) : Type 0 where
  pub held : has_card set card ≡ true
  pub same : suit_of card ≡ suit
  pub highest : (other : ℕ) → has_card set other ≡ true → suit_of other ≡ suit → other ≤ card

-- no card of a set is higher than one of these of its suit
abbrev pub AreHighest : List ℕ → List ℕ → Type 0
AreHighest cards set = (card other : ℕ) → has_card cards card ≡ true → has_card set other ≡ true
    → suit_of other ≡ suit_of card → other ≤ card

-- the greater length of two hands in a suit that isn't stopped
abbrev pub longer_of : List ℕ → List ℕ → List ℕ → Suit → ℕ
longer_of own partner stoppers suit = if has_suit stoppers suit then 0
    else max (length (of_suit suit own)) (length (of_suit suit partner))

-- and in all suits
abbrev pub rounds_in : SeenHands → List ℕ → ℕ
rounds_in hands stoppers = longer_of hands.own hands.partner stoppers Spades
    + longer_of hands.own hands.partner stoppers Hearts
    + longer_of hands.own hands.partner stoppers Diamonds
    + longer_of hands.own hands.partner stoppers Clubs

-- this hand can keep its stoppers until the other suits are used up: it has two at most, or room for them
abbrev pub CanKeep : SeenHands → List ℕ → ℕ → List ℕ → Type 0
CanKeep hands stoppers tricks hand = (length (filter (has_card stoppers) hand) ≤ 2)
    ⊎ (length (filter (has_card stoppers) hand) + rounds_in hands stoppers ≤ tricks)

-- these stoppers are there when the other suits are used up: both opponents can keep theirs
pub record DoOutlast (hands : SeenHands) (stoppers : List ℕ) (tricks : ℕ) : Type 0 where
  pub lasting : rounds_in hands stoppers < tricks
  pub next : CanKeep hands stoppers tricks hands.next
  pub last : CanKeep hands stoppers tricks hands.last
