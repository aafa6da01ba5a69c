use Rattle.std.proofs.Common.{◌≡◌, map, take}
use Rattle.std.specs.List.{AllZip, range_with_len}
use Rattle.page_report.specs.Played.{IsPlayedLine}
use Rattle.page_report.proofs.plays.played_lines.Given as goal

abbrev pub invariant-loop-place : goal.invariant-loop-place
invariant-loop-place l = record {
  numbers : map (λ line. line.number) l.played.items ≡ range_with_len 1 l.place;
  each : AllZip (IsPlayedLine l.node) (take l.place l.entries) l.played.items;
}
