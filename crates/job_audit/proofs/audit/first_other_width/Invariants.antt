use Rattle.std.proofs.Common.{◌≡◌, ◌+◌, drop}
use Rattle.am_answer.specs.Auditing.{first_other_width}
use Rattle.job_audit.proofs.audit.first_other_width.Given as goal

abbrev pub invariant-loop-index : goal.invariant-loop-index
invariant-loop-index l = first_other_width l.width 1 l.vectors ≡ first_other_width l.width (1 + l.index) (drop l.index l.vectors)
