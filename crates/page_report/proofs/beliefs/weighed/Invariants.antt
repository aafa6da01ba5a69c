use Rattle.std.proofs.Common.{◌≡◌, map, take}
use Rattle.page_report.specs.ReportPages.{belief_of}
use Rattle.page_report.proofs.beliefs.weighed.Given as goal

abbrev pub invariant-loop-judged : goal.invariant-loop-judged
invariant-loop-judged l = l.beliefs.items ≡ map (belief_of l.weights) (take l.judged-index l.table)
