use Rattle.std.proofs.Common.{take}
use Rattle.std.specs.List.{AllZip}
use Rattle.trick_rules.specs.Nodes.{states}
use Rattle.page_report.specs.Played.{IsPlayedOut}
use Rattle.page_report.proofs.plays.plays_of.Given as goal

abbrev pub invariant-loop-place : goal.invariant-loop-place
invariant-loop-place l = AllZip (IsPlayedOut l.read) (take l.place (states l.node)) l.plays.items
