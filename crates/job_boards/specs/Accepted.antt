-- The games that have a root, among all games of a deal file.
use Rattle.std.specs.Prelude.{◌≡◌, ℕ, ◌+◌, List, [], ◌∷◌, Result, Ok, Err, filter_map}
use Rattle.std.specs.Result.{result_ok}
use Rattle.std.specs.List.{AllZip}
use Rattle.board_batch.specs.declared.batch.Problem.{Problem}
use Rattle.am_answer.specs.declared.root.Root.{Root}
use Rattle.am_answer.specs.declared.status.Status.{Status}

-- the roots of the games that have one, in order
abbrev pub accepted : List (Result Root Status) → List Root
accepted games = filter_map result_ok games

-- the same, each with the number of its game; the first game of the list has this number
abbrev pub numbered_from : ℕ → List (Result Root Status) → List (ℕ × Root)
numbered_from number [] = []
numbered_from number (Ok root ∷ later) = (number, root) ∷ numbered_from (number + 1) later
numbered_from number (Err status ∷ later) = numbered_from (number + 1) later

-- the problem of a game with this number and this root
pub record IsProblemOf (game : ℕ × Root) (p : Problem) : Type 0 where
  pub number : p.number ≡ game.0
  pub node : p.node.now ≡ game.1.kept.node
  pub weights : p.weights.now ≡ game.1.kept.weights

-- a problem for each game that has a root, in order; games are numbered from 1
abbrev pub AreProblems : List (Result Root Status) → List Problem → Type 0
AreProblems games problems = AllZip IsProblemOf (numbered_from 1 games) problems
