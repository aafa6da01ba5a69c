use Rattle.std.proofs.Common.{◌≡◌, drop, max}
use Rattle.job_review.specs.Reviews.{greatest_sure}
use Rattle.job_review.proofs.told.greatest_sure.Given as goal

abbrev pub invariant-loop-row : goal.invariant-loop-row
invariant-loop-row l = max l.greatest (greatest_sure (drop l.row-index l.rows)) ≡ greatest_sure l.rows
