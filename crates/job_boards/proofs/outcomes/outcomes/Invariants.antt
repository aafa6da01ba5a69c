use Rattle.std.proofs.Common.{◌≤◌, take, drop}
use Rattle.std.specs.List.{AllZip}
use Rattle.am_answer.specs.Reports.{IsGameText}
use Rattle.job_boards.specs.Outcomes.{AreAnswersOf}
use Rattle.job_boards.proofs.outcomes.outcomes.Given as goal

abbrev pub invariant-loop-game : goal.invariant-loop-game
invariant-loop-game l = record {
  texts : AllZip (IsGameText l.moves) (take l.game-index l.games) l.texts.items;
  left : AreAnswersOf l.moves (drop l.game-index l.games) (drop l.place l.answers);
  few : l.place ≤ l.game-index;
}
