-- Cards of the hand on lead that take a trick each, whatever the other hands do.
use Rattle.std.specs.Prelude.{◌≡◌, ◌≢◌, ◌⊎◌, ℕ, ◌+◌, ◌<◌, ◌≤◌, Bool, true, false, not, ◌&&◌, List, [], length, filter, min, nat_lt, if◌then◌else◌}
use Rattle.std.specs.List.{list_all}
use Rattle.card_sets.specs.declared.card.Suit.{Suit}
use Rattle.card_sets.specs.declared.card.Suit.TheVariants.{Spades, Hearts, Diamonds, Clubs}
use Rattle.trick_rules.specs.declared.trump.Trump.TheVariants.{NoTrump, Suit as Suited}
use Rattle.card_sets.specs.declared.seat.Seat.{Seat}
use Rattle.card_sets.specs.Cards.{suit_of, same_suit}
use Rattle.card_sets.specs.SetWords.{has_card, IsCardSet, IsSubset}
use Rattle.trick_rules.specs.declared.trump.Trump.{Trump}
use Rattle.trick_rules.specs.Positions.{State, seat_after, to_play}
use Rattle.trick_rules.specs.Play.{of_suit, is_trump, hand_of}

-- the cards of its suit that are higher than a card
abbrev pub above : ℕ → List ℕ → List ℕ
above card cards = filter (λ c. same_suit (suit_of c) (suit_of card) && nat_lt card c) cards

-- the trumps among some cards
abbrev pub trumps_of : Trump → List ℕ → List ℕ
trumps_of trump cards = filter (λ c. is_trump trump c) cards

-- whether this suit is trumps
abbrev pub is_suit : Trump → Suit → Bool
is_suit NoTrump suit = false
is_suit (Suited trumps) suit = same_suit suit trumps

-- Led from the top, each of the cards is higher than what the hand has left of its suit: the hand
-- has no higher card of the suit, or no more cards of it than stand above this one among the cards.
abbrev pub AreHigh : List ℕ → List ℕ → Type 0
AreHigh sure hand = (card : ℕ) → has_card sure card ≡ true
    → ((c : ℕ) → has_card hand c ≡ true → same_suit (suit_of c) (suit_of card) ≡ true → c < card)
    ⊎ (length (of_suit (suit_of card) hand) ≤ length (above card sure))

-- Trumps led first, the hand ruffs none of the cards: it has no more trumps than there are among
-- them, or as many cards as they have in each of their other suits.
abbrev pub AreSafe : Trump → List ℕ → List ℕ → Type 0
AreSafe trump sure hand = (length (trumps_of trump hand) ≤ length (trumps_of trump sure))
    ⊎ ((card : ℕ) → has_card sure card ≡ true → is_trump trump card ≡ false
    → length (of_suit (suit_of card) sure) ≤ length (of_suit (suit_of card) hand))

-- cards of a seat that are high and safe against each other hand
pub record AreSure (s : State) (x : Seat) (sure : List ℕ) : Type 0 where
  pub set : IsCardSet sure
  pub held : IsSubset sure (hand_of s x)
  pub high : (seat : Seat) → seat ≢ x → AreHigh sure (hand_of s seat)
  pub safe : (seat : Seat) → seat ≢ x → AreSafe s.position.trump sure (hand_of s seat)

-- between two tricks at no trump, sure cards of the hand on lead and of its partner, and a card of
-- the hand on lead that crosses, in a suit in which its partner has a sure card
pub record AreSureTogether (s : State) (sure partners : List ℕ) : Type 0 where
  pub between : s.position.trick.cards ≡ []
  pub no_trump : s.position.trump ≡ NoTrump
  pub own : AreSure s (to_play s.position) sure
  pub across : AreSure s (seat_after 2 (to_play s.position)) partners
  pub link : ℕ
  pub linked : has_card (hand_of s (to_play s.position)) link ≡ true
  pub card : ℕ
  pub there : has_card partners card ≡ true
  pub suit : suit_of card ≡ suit_of link

-- ---- how many there are, by looking at each suit

-- how many of these cards are higher than each of those
abbrev pub top_count : List ℕ → List ℕ → ℕ
top_count own theirs = length (filter (λ c. list_all (λ d. nat_lt d c) theirs) own)

-- of a suit, how many of a hand's cards, from the top, are high against another hand's: all, where
-- these are no more than stand above each of them, and else those that do
abbrev pub high_count : List ℕ → List ℕ → ℕ
high_count own theirs =
    if nat_lt (top_count own theirs) (length theirs) then top_count own theirs else length own

-- how many of these are safe too, as many as a hand that may ruff has to follow with
abbrev pub taken_from : Bool → List ℕ → List ℕ → ℕ
taken_from may_ruff own theirs =
    if may_ruff then min (high_count own theirs) (length theirs) else high_count own theirs

module _ (s : State) where
  -- how many of a seat's cards of the suit are sure against another seat
  abbrev pub sure_against : Seat → (Seat → Bool) → Suit → Seat → ℕ
  sure_against x may_ruff suit seat =
      taken_from (may_ruff seat) (of_suit suit (hand_of s x)) (of_suit suit (hand_of s seat))

  -- and against all three
  abbrev pub sure_in : Seat → (Seat → Bool) → Suit → ℕ
  sure_in x may_ruff suit = min (sure_against x may_ruff suit (seat_after 1 x))
      (min (sure_against x may_ruff suit (seat_after 2 x))
      (sure_against x may_ruff suit (seat_after 3 x)))

  -- what the hand on lead draws
  abbrev pub sure_trumps : Trump → ℕ
  sure_trumps NoTrump = 0
  sure_trumps (Suited suit) = sure_in (to_play s.position) (λ _. false) suit

  -- the seat has a trump more than are drawn
  abbrev pub may_ruff : Seat → Bool
  may_ruff seat = nat_lt (sure_trumps s.position.trump)
      (length (trumps_of s.position.trump (hand_of s seat)))

  -- the sure cards of the hand on lead in a suit; trumps aren't ruffed
  abbrev pub sure_of : Suit → ℕ
  sure_of suit = sure_in (to_play s.position)
      (λ seat. not (is_suit s.position.trump suit) && may_ruff seat) suit

  -- and in all suits
  abbrev pub own_count : ℕ
  own_count = sure_of Spades + sure_of Hearts + sure_of Diamonds + sure_of Clubs

  -- at no trump, those of its partner in a suit
  abbrev pub partners_of : Suit → ℕ
  partners_of suit = sure_in (seat_after 2 (to_play s.position)) (λ _. false) suit

  abbrev pub partners_count : ℕ
  partners_count =
      partners_of Spades + partners_of Hearts + partners_of Diamonds + partners_of Clubs

  -- the hand on lead has a card of a suit in which its partner has a sure card
  abbrev pub leads_over : Suit → Bool
  leads_over suit = nat_lt 0 (partners_of suit)
      && nat_lt 0 (length (of_suit suit (hand_of s (to_play s.position))))

-- ---- top trumps

-- trumps that a seat holds; whoever holds a higher trump is the seat itself or its partner
pub record AreTopTrumps (s : State) (x : Seat) (top : List ℕ) : Type 0 where
  pub set : IsCardSet top
  pub held : IsSubset top (hand_of s x)
  pub trumps : (card : ℕ) → has_card top card ≡ true → is_trump s.position.trump card ≡ true
  pub highest : (card higher : ℕ) (seat : Seat) → has_card top card ≡ true
      → has_card (hand_of s seat) higher ≡ true → is_trump s.position.trump higher ≡ true
      → card < higher → (seat ≡ x) ⊎ (seat ≡ seat_after 2 x)
