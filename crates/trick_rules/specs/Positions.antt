-- A position and a state, as lists of cards in card order.
use Rattle.std.specs.Prelude.{◌≡◌, ◌≢◌, ℕ, zero, suc, ◌+◌, ◌-◌, ◌*◌, ◌%◌, ◌<◌, ◌≤◌, Bool, List, [], length, All, AllPairs, if◌then◌else◌, nat_lt}
use Rattle.card_sets.specs.declared.seat.Seat.{Seat}
use Rattle.card_sets.specs.declared.seat.Seat.TheVariants.{Declarer, Left, Dummy, Right}
use Rattle.card_sets.specs.Seats.{next_seat}
use Rattle.card_sets.specs.SetWords.{IsCardSet, IsSubset, Apart}
use Rattle.trick_rules.specs.declared.trump.Trump.{Trump}

-- a trick: who led, and the cards in the order of play
pub record TrickValue : Type 0 where
  pub leader : Seat
  pub cards : List ℕ

-- what all at the table know: declarer's and dummy's hands, the cards that the two defenders hold together,
-- the present trick, how many tricks declarer's side still needs, and trumps
pub record PositionValue : Type 0 where
  pub declarer : List ℕ
  pub dummy : List ℕ
  pub unseen : List ℕ
  pub trick : TrickValue
  pub need : ℕ
  pub trump : Trump

-- a position and Left's hand
pub record State : Type 0 where
  pub position : PositionValue
  pub left : List ℕ

-- the seat that many places on, clockwise
abbrev pub seat_after : ℕ → Seat → Seat
seat_after zero seat = seat
seat_after (suc n) seat = seat_after n (next_seat seat)

-- clockwise from the leader, past the cards of the trick
abbrev pub to_play : PositionValue → Seat
to_play t = seat_after (length t.trick.cards) t.trick.leader

-- declarer, Left, dummy and Right, clockwise
abbrev pub seat_place : Seat → ℕ
seat_place Declarer = 0
seat_place Left = 1
seat_place Dummy = 2
seat_place Right = 3

-- how many places a seat sits after the leader
abbrev pub places_on : Seat → Seat → ℕ
places_on leader seat = (seat_place seat + 4 - seat_place leader) % 4

-- a seat has played if it sits fewer places after the leader than the trick has cards
abbrev pub has_played : PositionValue → Seat → Bool
has_played t seat = nat_lt (places_on t.trick.leader seat) (length t.trick.cards)

-- how many cards of the trick are the seat's
abbrev pub played_count : PositionValue → Seat → ℕ
played_count t seat = if has_played t seat then 1 else 0

-- the tricks left, the present one among them
abbrev pub tricks_left : PositionValue → ℕ
tricks_left t = length t.declarer + played_count t Declarer

-- a position that can come about
pub record IsSound (t : PositionValue) : Type 0 where
  pub declarer_set : IsCardSet t.declarer
  pub dummy_set : IsCardSet t.dummy
  pub unseen_set : IsCardSet t.unseen
  pub declarer_dummy : Apart t.declarer t.dummy
  pub declarer_unseen : Apart t.declarer t.unseen
  pub dummy_unseen : Apart t.dummy t.unseen
  pub trick_declarer : Apart t.trick.cards t.declarer
  pub trick_dummy : Apart t.trick.cards t.dummy
  pub trick_unseen : Apart t.trick.cards t.unseen
  pub trick_short : length t.trick.cards < 4
  pub trick_cards : All (λ c. c < 52) t.trick.cards
  pub trick_differs : AllPairs (λ c d. c ≢ d) t.trick.cards
  pub need_fits : t.need ≤ 13
  pub dummy_count : length t.dummy + played_count t Dummy ≡ tricks_left t
  pub unseen_count : length t.unseen + played_count t Left + played_count t Right ≡ 2 * tricks_left t

-- a position with no card in the trick
abbrev pub position_between_tricks : List ℕ → List ℕ → List ℕ → Seat → ℕ → Trump → PositionValue
position_between_tricks declarer dummy unseen leader need trump = record {
  declarer = declarer;
  dummy = dummy;
  unseen = unseen;
  trick = record { leader = leader; cards = [] };
  need = need;
  trump = trump;
}

-- hands between two tricks: declarer's, dummy's, and the two defenders' together
pub record HandsFit (declarer dummy unseen : List ℕ) : Type 0 where
  pub declarer_set : IsCardSet declarer
  pub dummy_set : IsCardSet dummy
  pub unseen_set : IsCardSet unseen
  pub declarer_dummy : Apart declarer dummy
  pub declarer_unseen : Apart declarer unseen
  pub dummy_unseen : Apart dummy unseen
  pub dummy_count : length dummy ≡ length declarer
  pub unseen_count : length unseen ≡ 2 * length declarer

-- a Left hand that fits a position: a part of the unseen cards, with Left's number of cards
pub record FitsLeft (t : PositionValue) (left : List ℕ) : Type 0 where
  pub set : IsCardSet left
  pub part : IsSubset left t.unseen
  pub count : length left + played_count t Left ≡ tricks_left t

-- a sound position with a Left hand that fits it
pub record IsState (s : State) : Type 0 where
  pub sound : IsSound s.position
  pub fits : FitsLeft s.position s.left
