-- Conditions on the hands of the four seats, as declarer sees the table.
use Rattle.std.specs.Prelude.{◌≡◌, List, [], ◌∷◌, Option, Some, None}
use Rattle.card_sets.specs.declared.seat.Seat.TheVariants.{Left, Dummy, Right}
use Rattle.card_sets.specs.declared.seat.Compass.{Compass}
use Rattle.card_sets.specs.declared.seat.Compass.TheVariants.{N, E, S, W}
use Rattle.pbn_deal.specs.Boards.{compass_of}
use Rattle.hand_conditions.specs.declared.term.Term.{Term}
use Rattle.job_words.specs.declared.bad_word.OptionName.{OptionName}
use Rattle.job_words.specs.declared.bad_word.OptionName.TheVariants as name
use Rattle.job_words.specs.SeatConditions.{SeatConditionsValue}

-- the conditions on the hand at a place of the table
abbrev pub conditions_at : SeatConditionsValue → Compass → List (List Term)
conditions_at conditions N = conditions.north
conditions_at conditions E = conditions.east
conditions_at conditions S = conditions.south
conditions_at conditions W = conditions.west

-- the option that tells conditions on the hand at a place
abbrev pub option_at : Compass → OptionName
option_at N = name.North
option_at E = name.East
option_at S = name.South
option_at W = name.West

-- an option, if it tells any conditions
abbrev pub option_if_told : List (List Term) → OptionName → Option OptionName
option_if_told [] option = None
option_if_told (condition ∷ more) option = Some option

-- an option, or else another
abbrev pub first_told : Option OptionName → Option OptionName → Option OptionName
first_told (Some option) other = Some option
first_told None other = other

-- the option that tells conditions on the hand at a place, if there are any
abbrev pub told_at : SeatConditionsValue → Compass → Option OptionName
told_at conditions place = option_if_told (conditions_at conditions place) (option_at place)

-- the option that tells conditions on declarer's hand, or else on dummy's
abbrev pub told_of_ours : Compass → SeatConditionsValue → Option OptionName
told_of_ours declarer conditions = first_told (told_at conditions declarer) (told_at conditions (compass_of declarer Dummy))

-- conditions are on the defenders' hands alone, and these are the ones on Left's and on Right's
pub record AreOnDefenders (declarer : Compass) (conditions : SeatConditionsValue) (left right : List (List Term)) : Type 0 where
  pub on_left : left ≡ conditions_at conditions (compass_of declarer Left)
  pub on_right : right ≡ conditions_at conditions (compass_of declarer Right)
  pub not_ours : told_of_ours declarer conditions ≡ None
