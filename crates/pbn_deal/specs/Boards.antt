-- A board: the hands of declarer's side as they were dealt, and the play so far.
use Rattle.std.specs.Prelude.{◌≡◌, ℕ, ◌*◌, ◌≤◌, Bool, true, Option, None, Some, List, [], ◌∷◌, length, ◌==◌, if◌then◌else◌, IfSome}
use Rattle.card_sets.specs.declared.seat.Seat.{Seat}
use Rattle.card_sets.specs.declared.seat.Seat.TheVariants.{Declarer, Left, Dummy, Right}
use Rattle.card_sets.specs.declared.seat.Compass.{Compass}
use Rattle.card_sets.specs.Seats.{next_compass}
use Rattle.card_sets.specs.SetWords.{has_card, IsCardSet, Apart}
use Rattle.trick_rules.specs.declared.trump.Trump.{Trump}
use Rattle.trick_rules.specs.Positions.{TrickValue, seat_after}
use Rattle.trick_rules.specs.Play.{legal_cards, take_out, next_trick}
use Rattle.pbn_deal.specs.declared.board.Played.{Played}
use Rattle.pbn_deal.specs.declared.course.Course.{Course}
use Rattle.pbn_deal.specs.Deal.{compass_place}

-- a board as it was before the first card, and the cards played, in the order of play
pub record BoardValue : Type 0 where
  pub declarer : Compass
  pub trump : Trump
  pub need : ℕ
  pub leader : Seat
  pub declarer_hand : List ℕ
  pub dummy_hand : List ℕ
  pub unseen : Option (List ℕ)
  pub plays : List Played

-- ---- seats and places at the table

-- whether two places are the same
abbrev pub same_place : Compass → Compass → Bool
same_place a b = compass_place a == compass_place b

-- the place of a seat, going clockwise from declarer's
abbrev pub compass_of : Compass → Seat → Compass
compass_of declarer Declarer = declarer
compass_of declarer Left = next_compass declarer
compass_of declarer Dummy = next_compass (next_compass declarer)
compass_of declarer Right = next_compass (next_compass (next_compass declarer))

-- the seat at a place
abbrev pub seat_of : Compass → Compass → Seat
seat_of declarer place =
    if same_place place (compass_of declarer Declarer) then Declarer
    else if same_place place (compass_of declarer Left) then Left
    else if same_place place (compass_of declarer Dummy) then Dummy
    else Right

-- ---- boards

-- a board of which no card has been played
abbrev pub dealt_board : Compass → Trump → ℕ → Seat → List ℕ → List ℕ → Option (List ℕ) → BoardValue
dealt_board declarer trump need leader declarer_hand dummy_hand unseen = record {
  declarer = declarer;
  trump = trump;
  need = need;
  leader = leader;
  declarer_hand = declarer_hand;
  dummy_hand = dummy_hand;
  unseen = unseen;
  plays = [];
}

-- ---- the course of play

-- clockwise from the trick's leader, past its cards
abbrev pub turn_in : TrickValue → Seat
turn_in trick = seat_after (length trick.cards) trick.leader

-- the card leaves the hand of the seat that plays it: a defender's card leaves neither of these hands
abbrev pub declarer_without : Seat → ℕ → List ℕ → List ℕ
declarer_without Declarer card hand = take_out card hand
declarer_without Left card hand = hand
declarer_without Dummy card hand = hand
declarer_without Right card hand = hand

-- the same for dummy's hand
abbrev pub dummy_without : Seat → ℕ → List ℕ → List ℕ
dummy_without Declarer card hand = hand
dummy_without Left card hand = hand
dummy_without Dummy card hand = take_out card hand
dummy_without Right card hand = hand

-- what follows a card of the seat whose turn it is
abbrev pub next_course : Trump → Course → ℕ → Course
next_course trump course card = record {
  declarer = declarer_without (turn_in course.trick) card course.declarer;
  dummy = dummy_without (turn_in course.trick) card course.dummy;
  trick = next_trick trump course.trick card;
}

-- declarer's and dummy's card is held at that moment, and follows suit if that hand can; nothing is known of a defender's card
abbrev pub IsFair : Course → Seat → ℕ → Type 0
IsFair course Declarer card = has_card (legal_cards course.trick.cards course.declarer) card ≡ true
IsFair course Left card = Unit {0}
IsFair course Dummy card = has_card (legal_cards course.trick.cards course.dummy) card ≡ true
IsFair course Right card = Unit {0}

-- each card is played by the seat whose turn it is, and is fair
abbrev pub IsCourse : Trump → Course → List Played → Type 0
IsCourse trump course [] = Unit {0}
IsCourse trump course (play ∷ plays) =
    (play.seat ≡ turn_in course.trick) × IsFair course play.seat play.card × IsCourse trump (next_course trump course play.card) plays

-- the course after these cards
abbrev pub course_after : Trump → Course → List Played → Course
course_after trump course [] = course
course_after trump course (play ∷ plays) = course_after trump (next_course trump course play.card) plays

-- the present trick after these cards
abbrev pub trick_after : Trump → TrickValue → List Played → TrickValue
trick_after trump trick [] = trick
trick_after trump trick (play ∷ plays) = trick_after trump (next_trick trump trick play.card) plays

-- ---- sound boards

-- before the first card: the whole hands, and the first leader's trick with no card
abbrev pub first_trick : BoardValue → TrickValue
first_trick b = record { leader = b.leader; cards = [] }

-- the hands of declarer's side and the trick before the first card
abbrev pub first_course : BoardValue → Course
first_course b = record { declarer = b.declarer_hand; dummy = b.dummy_hand; trick = first_trick b }

-- the tricks of the whole play
abbrev pub tricks_of : BoardValue → ℕ
tricks_of b = length b.declarer_hand

-- the cards that the two defenders hold together: two for each trick, and none that declarer's side holds
pub record FitsUnseen (b : BoardValue) (unseen : List ℕ) : Type 0 where
  pub set : IsCardSet unseen
  pub declarer_apart : Apart b.declarer_hand unseen
  pub dummy_apart : Apart b.dummy_hand unseen
  pub count : length unseen ≡ 2 * tricks_of b

-- two hands of one size from 1 to 13 with no card in common, and a need that thirteen tricks can meet
pub record IsDealt (b : BoardValue) : Type 0 where
  pub declarer_set : IsCardSet b.declarer_hand
  pub dummy_set : IsCardSet b.dummy_hand
  pub apart : Apart b.declarer_hand b.dummy_hand
  pub same_size : length b.dummy_hand ≡ tricks_of b
  pub some : 1 ≤ tricks_of b
  pub few : tricks_of b ≤ 13
  pub need_fits : b.need ≤ 13
  pub unseen_fits : IfSome b.unseen (FitsUnseen b)

-- a board that was dealt so, and whose play is fair and no longer than its tricks
pub record IsBoard (b : BoardValue) : Type 0 where
  pub dealt : IsDealt b
  pub fair : IsCourse b.trump (first_course b) b.plays
  pub short : length b.plays ≤ 4 * tricks_of b

-- the seat to play after the plays; none if the play is over
abbrev pub turn_of : BoardValue → Option Seat
turn_of b = if length b.plays == 4 * tricks_of b then None else Some (turn_in (trick_after b.trump (first_trick b) b.plays))
