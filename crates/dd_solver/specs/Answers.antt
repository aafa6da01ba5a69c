-- What an answer says.
use Rattle.std.specs.Prelude.{◌≡◌, ℕ, Bool, true, not, List}
use Rattle.card_sets.specs.SetWords.{has_card}
use Rattle.trick_rules.specs.Positions.{State}
use Rattle.equivalent_positions.specs.Alike.{IsClosedUp, HasAnswer, GivesAnswer}
use Rattle.dd_solver.specs.declared.answer.Answer.{Answer}

-- its cards that count are closed up, and each state alike to this one by them has this answer
pub record IsAnswer (s : State) (answer : Answer) : Type 0 where
  pub closed : IsClosedUp answer.counting
  pub answers : HasAnswer answer.counting s answer.made

-- what these cards give the side to play: one of them gives what it wants, or each gives the other
pub record IsGiven (s : State) (cards : List ℕ) (wanted : Bool) (answer : Answer) : Type 0 where
  pub closed : IsClosedUp answer.counting
  pub one : answer.made ≡ wanted → HasAnswer answer.counting s wanted
  pub each : answer.made ≡ not wanted → (card : ℕ) → has_card cards card ≡ true
      → GivesAnswer answer.counting s card (not wanted)
