use Rattle.std.proofs.Common.{take}
use Rattle.page_report.specs.Refuted.{AreRefuted}
use Rattle.page_report.proofs.refuted.refuted_of.Given as goal

abbrev pub invariant-loop-belief : goal.invariant-loop-belief
invariant-loop-belief l = AreRefuted l.node l.entries l.lines (take l.belief-index l.beliefs) l.refuted.items
