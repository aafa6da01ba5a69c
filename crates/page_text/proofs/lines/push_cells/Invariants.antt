use Rattle.std.proofs.Common.{◌≡◌, ◌++◌, flat_map, take}
use Rattle.page_text.specs.Lines.{cell}
use Rattle.page_text.proofs.lines.push_cells.Given as goal

abbrev pub invariant-loop-place : goal.invariant-loop-place
invariant-loop-place l = l.page ≡ l.initial.page ++ flat_map cell (take l.place l.vector)
