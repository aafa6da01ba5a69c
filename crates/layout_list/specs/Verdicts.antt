-- What the play says of a layout.
use Rattle.std.specs.Prelude.{ℕ, ◌+◌, not, Option, None, Some, List, [], ◌∷◌, if◌then◌else◌}
use Rattle.card_sets.specs.SetWords.{has_card}
use Rattle.trick_rules.specs.Positions.{PositionValue, State}
use Rattle.trick_rules.specs.Play.{is_declarers, legal_cards, hand_of, take_out, after_card, after}
use Rattle.pbn_deal.specs.declared.board.Played.{Played}
use Rattle.pbn_deal.specs.declared.course.Course.{Course}
use Rattle.pbn_deal.specs.Boards.{BoardValue, first_trick}
use Rattle.layout_list.specs.declared.kept.Cause.{Cause}
use Rattle.layout_list.specs.declared.kept.Cause.TheVariants.{NotHeld, Revoke}
use Rattle.layout_list.specs.declared.verdict.Contradiction.{Contradiction}

-- the position before the first card, where these cards are unseen
abbrev pub first_position : BoardValue → List ℕ → PositionValue
first_position board unseen = record {
  declarer = board.declarer_hand;
  dummy = board.dummy_hand;
  unseen = unseen;
  trick = first_trick board;
  need = board.need;
  trump = board.trump;
}

-- why a defender can't have played this card: the seat doesn't hold it, or must follow suit and can
abbrev pub cause_of : State → Played → Option Cause
cause_of s play =
    if is_declarers play.seat then None
    else if not (has_card (hand_of s play.seat) play.card) then Some NotHeld
    else if not (has_card (legal_cards s.position.trick.cards (hand_of s play.seat)) play.card) then Some Revoke
    else None

-- a cause at this card, or else what is found later
abbrev pub or_later : Option Cause → ℕ → Option Contradiction → Option Contradiction
or_later None number later = later
or_later (Some cause) number later = Some (record { cause = cause; play = number })

-- the first card that the layout contradicts, by its number in order of play
abbrev pub contradiction : ℕ → State → List Played → Option Contradiction
contradiction number s [] = None
contradiction number s (play ∷ plays) = or_later (cause_of s play) number (contradiction (number + 1) (after s play.card) plays)

-- the position after the plays
abbrev pub position_after : PositionValue → List Played → PositionValue
position_after t [] = t
position_after t (play ∷ plays) = position_after (after_card t play.card) plays

-- the cards of a hand that are left after the plays
abbrev pub hand_after : List ℕ → List Played → List ℕ
hand_after hand [] = hand
hand_after hand (play ∷ plays) = hand_after (take_out play.card hand) plays

-- the course of play as declarer's side sees it at a position
abbrev pub course_of : PositionValue → Course
course_of t = record { declarer = t.declarer; dummy = t.dummy; trick = t.trick }
