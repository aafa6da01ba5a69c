use Rattle.std.proofs.Common.{◌≡◌, ◌++◌, flat_map, take}
use Rattle.am_report.specs.Solve.{entry_text}
use Rattle.am_report.proofs.solve.push_entries.Given as goal

abbrev pub invariant-loop-entry : goal.invariant-loop-entry
invariant-loop-entry l = l.text ≡ l.initial.text ++ flat_map (entry_text l.weights) (take l.entry-index l.entries)
