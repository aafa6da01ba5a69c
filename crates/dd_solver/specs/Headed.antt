-- The hand that heads the suit led, the three others, and the sure cards that follow.
use Rattle.std.specs.Prelude.{◌≡◌, ℕ, ◌+◌, ◌<◌, ◌≤◌, ◌||◌, Bool, true, List, [], ◌∷◌, if◌then◌else◌}
use Rattle.card_sets.specs.declared.card.Suit.{Suit}
use Rattle.card_sets.specs.declared.seat.Seat.{Seat}
use Rattle.card_sets.specs.Cards.{suit_of, same_suit}
use Rattle.card_sets.specs.SetWords.{has_card, cards_where, IsSubset}
use Rattle.trick_rules.specs.declared.trump.Trump.{Trump}
use Rattle.trick_rules.specs.declared.trump.Trump.TheVariants.{NoTrump, Suit as Suited}
use Rattle.trick_rules.specs.Positions.{State, seat_after}
use Rattle.trick_rules.specs.Play.{of_suit, take_out, hand_of}
use Rattle.sure_tricks.specs.Sure.{AreHigh, AreSafe, top_count}
use Rattle.sure_tricks.specs.declared.count.Counts.{Counts}
use Rattle.equivalent_positions.specs.Alike.{IsClosedUp}
use Rattle.dd_solver.specs.Closed.{up_from}
use Rattle.dd_solver.specs.Sure.{number_in, AreWinners}
use Rattle.dd_solver.specs.declared.headed.FourHands.{FourHands}

-- a seat's hand, its partner's, the leader's, and that of the leader's partner
pub record AreHandsOf (s : State) (x : Seat) (hands : FourHands) : Type 0 where
  pub own : hands.own ≡ hand_of s x
  pub partner : hands.partner ≡ hand_of s (seat_after 2 x)
  pub leader : hands.leader ≡ hand_of s s.position.trick.leader
  pub third : hands.third ≡ hand_of s (seat_after 2 s.position.trick.leader)

-- a card of the hand that takes the trick, whatever is played to the card led from now on
pub record HeadsTrick (trump : Trump) (led : ℕ) (hands : FourHands) (card : ℕ) : Type 0 where
  pub held : has_card hands.own card ≡ true
  pub suit : suit_of led ≡ suit_of card
  pub higher : led < card
  pub over_partner : AreHigh (card ∷ []) hands.partner
  pub over_third : AreHigh (card ∷ []) hands.third
  pub safe_from_partner : AreSafe trump (card ∷ []) hands.partner
  pub safe_from_third : AreSafe trump (card ∷ []) hands.third

-- whether nobody can ruff a card of this suit
abbrev pub is_beyond_ruffs : Trump → Suit → Bool
is_beyond_ruffs NoTrump suit = true
is_beyond_ruffs (Suited trumps) suit = same_suit suit trumps

-- how many cards of a suit are higher than each of the other hands', if nobody can ruff the suit
abbrev pub further_in : Trump → List ℕ → List ℕ → Suit → ℕ
further_in trump own others suit =
    if is_beyond_ruffs trump suit then top_count (of_suit suit own) (of_suit suit others) else 0

-- the cards of the three others
abbrev pub others_of : FourHands → List ℕ
others_of hands = cards_where
    (λ c. has_card hands.partner c || has_card hands.leader c || has_card hands.third c)

-- After a card that heads the suit led, `rest` further cards of the hand are higher than all others
-- and can't be ruffed. What counts is the card with all higher ones of its suit, and the rank
-- winners among the further cards.
pub record IsFollowed (trump : Trump) (hands : FourHands) (card rest : ℕ) (counting : List ℕ)
    : Type 0 where
  pub closed : IsClosedUp counting
  pub heads : IsSubset (up_from card) counting
  pub counts : Counts
  pub few : (suit : Suit) → number_in counts suit
      ≤ further_in trump (take_out card hands.own) (others_of hands) suit
  pub total : counts.spades + counts.hearts + counts.diamonds + counts.clubs ≡ rest
  pub partner : AreWinners counts (take_out card hands.own) hands.partner counting
  pub leader : AreWinners counts (take_out card hands.own) hands.leader counting
  pub third : AreWinners counts (take_out card hands.own) hands.third counting
