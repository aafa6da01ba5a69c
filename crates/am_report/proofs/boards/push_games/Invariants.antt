use Rattle.std.proofs.Common.{◌≡◌, ◌++◌, take}
use Rattle.am_report.specs.Boards.{games_from}
use Rattle.am_report.proofs.boards.push_games.Given as goal

abbrev pub invariant-loop-place : goal.invariant-loop-place
invariant-loop-place l = l.text ≡ l.initial.text ++ games_from 1 (take l.place l.games)
