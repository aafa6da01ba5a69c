use Rattle.std.proofs.Common.{◌≡◌, ◌++◌, flat_map, take}
use Rattle.page_text.specs.Lines.{line_pieces}
use Rattle.page_text.proofs.lines.push_each_line.Given as goal

abbrev pub invariant-loop-line : goal.invariant-loop-line
invariant-loop-line l = l.page ≡ l.initial.page ++ flat_map (line_pieces l.declarer l.scale) (take l.line-index l.lines)
