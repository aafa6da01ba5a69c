use Rattle.std.proofs.Common.{◌≡◌, take}
use Rattle.job_boards.specs.Accepted.{AreProblems}
use Rattle.job_boards.proofs.problems.problems_of.Given as goal

abbrev pub invariant-loop-game : goal.invariant-loop-game
invariant-loop-game l = record {
  counted : l.number ≡ l.game-index;
  problems : AreProblems (take l.game-index l.games) l.problems.items;
}
