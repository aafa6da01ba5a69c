-- What each verdict on a log says.
use Rattle.std.specs.Prelude.{◌≡◌, ◌+◌, ◌⊎◌, ℕ, List, length, take, slice_get, Some}
use Rattle.win_vectors.specs.Fronts.{Vector}
use Rattle.trick_rules.specs.Nodes.{NodeValue}
use Rattle.log_check.specs.declared.lines.LogLine.{LogLine}
use Rattle.log_check.specs.declared.check.LogVerdict.{LogVerdict}
use Rattle.log_check.specs.declared.check.LogVerdict.TheVariants.{Yes, No}
use Rattle.log_check.specs.Logs.{IsSoundLine, AreSound, EndsAtRoot, IsValidLog}

-- the first line that isn't sound, by its number from 1
pub record IsFirstUnsound (n : NodeValue) (moves : ℕ) (lines : List LogLine) (number : ℕ) : Type 0 where
  pub place : ℕ
  pub counted : number ≡ place + 1
  pub line : LogLine
  pub is : slice_get lines place ≡ Some line
  pub before : AreSound n moves (take place lines)
  pub unsound : ¬ IsSoundLine n moves (take place lines) line

-- all lines are sound and the end fails, and the number is the one after the last
pub record IsUnended (n : NodeValue) (moves : ℕ) (vectors : List Vector) (lines : List LogLine) (number : ℕ) : Type 0 where
  pub counted : number ≡ length lines + 1
  pub sound : AreSound n moves lines
  pub unended : ¬ EndsAtRoot vectors lines

-- Yes: the log is valid. No: the first line that isn't sound, or the number after the last where the end fails
abbrev pub IsLogVerdict : NodeValue → ℕ → List Vector → List LogLine → LogVerdict → Type 0
IsLogVerdict n moves vectors lines Yes = IsValidLog n moves vectors lines
IsLogVerdict n moves vectors lines (No number) = IsFirstUnsound n moves lines number ⊎ IsUnended n moves vectors lines number
