use Rattle.std.proofs.Common.{◌≡◌, map, take}
use Rattle.am_report.specs.Answers.{ReadEntryValue}
use Rattle.job_audit.proofs.audit.vectors_of.Given as goal

abbrev pub invariant-loop-read : goal.invariant-loop-read
invariant-loop-read l = l.vectors.items ≡ map (λ (read : ReadEntryValue). read.entry.vector) (take l.read-index l.entries)
