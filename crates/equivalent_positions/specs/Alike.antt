-- Which cards count, and which states are alike by them.
use Rattle.std.specs.Prelude.{◌≡◌, ◌≢◌, ◌⊎◌, ℕ, ◌<◌, Bool, true, false, List, [], ◌∷◌, ◌++◌, length, slice_index}
use Rattle.card_sets.specs.declared.card.Suit.{Suit}
use Rattle.card_sets.specs.declared.seat.Seat.{Seat}
use Rattle.card_sets.specs.Cards.{suit_of}
use Rattle.card_sets.specs.SetWords.{has_card, IsSubset}
use Rattle.trick_rules.specs.declared.trump.Trump.{Trump}
use Rattle.trick_rules.specs.Positions.{State, IsState}
use Rattle.trick_rules.specs.Play.{of_suit, hand_of, legal_in, after, makes, IsWonBy}

-- with a card each higher card of its suit counts too
abbrev pub IsClosedUp : List ℕ → Type 0
IsClosedUp counting = (card higher : ℕ) → has_card counting card ≡ true
    → suit_of card ≡ suit_of higher → card < higher → higher < 52 → has_card counting higher ≡ true

-- the same card, or two of one suit that don't count
abbrev pub IsLike : List ℕ → ℕ → ℕ → Type 0
IsLike counting card other = (card ≡ other)
    ⊎ ((has_card counting card ≡ false) × (has_card counting other ≡ false)
    × (suit_of card ≡ suit_of other))

-- the same of the cards that count, and as many cards of each suit
pub record IsLikeHand (counting these those : List ℕ) : Type 0 where
  pub same : (card : ℕ) → has_card counting card ≡ true
      → has_card these card ≡ has_card those card
  pub lengths : (suit : Suit) → length (of_suit suit these) ≡ length (of_suit suit those)

-- the same leader, trumps and need; each hand is like that of the same seat, and each card of the
-- trick like that at its place
pub record AreAlike (counting : List ℕ) (s t : State) : Type 0 where
  pub leader : s.position.trick.leader ≡ t.position.trick.leader
  pub trump : s.position.trump ≡ t.position.trump
  pub need : s.position.need ≡ t.position.need
  pub played : length s.position.trick.cards ≡ length t.position.trick.cards
  pub trick : (place : ℕ) → place < length s.position.trick.cards
      → IsLike counting (slice_index s.position.trick.cards place)
      (slice_index t.position.trick.cards place)
  pub hands : (seat : Seat) → IsLikeHand counting (hand_of s seat) (hand_of t seat)

-- the card that wins a trick counts, or is the only one of its suit in it
abbrev pub SettlesTrick : List ℕ → Trump → List ℕ → Type 0
SettlesTrick counting trump cards = (place : ℕ) → IsWonBy trump cards place
    → (has_card counting (slice_index cards place) ≡ true)
    ⊎ ((other : ℕ) → other < length cards → other ≢ place
    → suit_of (slice_index cards other) ≢ suit_of (slice_index cards place))

-- the cards that count settle the trick, where this card is its fourth
abbrev pub SettlesEnd : List ℕ → State → ℕ → Type 0
SettlesEnd counting s card = length s.position.trick.cards ≡ 3
    → SettlesTrick counting s.position.trump (s.position.trick.cards ++ card ∷ [])

-- every state alike to it has this answer
abbrev pub HasAnswer : List ℕ → State → Bool → Type 0
HasAnswer counting s made = (t : State) → IsState t → AreAlike counting s t → makes t ≡ made

-- Some of the cards that count are closed up, and by these a legal card that is like this one
-- settles the trick, where it ends it, and leads to this answer.
pub record GivesAnswer (counting : List ℕ) (s : State) (card : ℕ) (made : Bool) : Type 0 where
  pub part : List ℕ
  pub within : IsSubset part counting
  pub closed : IsClosedUp part
  pub tried : ℕ
  pub legal : has_card (legal_in s) tried ≡ true
  pub like : IsLike part tried card
  pub settles : SettlesEnd part s tried
  pub answer : HasAnswer part (after s tried) made
