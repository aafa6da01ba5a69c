use Rattle.std.proofs.Common.{◌≡◌, ◌+◌, drop}
use Rattle.am_answer.specs.Judging.{first_plan_fault}
use Rattle.job_check.proofs.judge.first_plan_fault.Given as goal

abbrev pub invariant-loop-index : goal.invariant-loop-index
invariant-loop-index g l = first_plan_fault l.node l.weights l.moves 1 l.entries ≡ first_plan_fault l.node l.weights l.moves (1 + l.index) (drop l.index l.entries)
