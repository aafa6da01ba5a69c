use Rattle.std.proofs.Common.{◌≡◌, ◌++◌, flat_map, take}
use Rattle.page_text.specs.Plays.{play_at}
use Rattle.page_text.proofs.plays.push_each_play.Given as goal

abbrev pub invariant-loop-line : goal.invariant-loop-line
invariant-loop-line l = l.page ≡ l.initial.page ++ flat_map (play_at l.begun l.place) (take l.line-index l.lines)
