use Rattle.std.proofs.Common.{take}
use Rattle.std.specs.List.{AllZip}
use Rattle.worker_pool.specs.Findings.{AreRight}
use Rattle.job_reviews.specs.Reviews.{pairs_of, IsGameReview}
use Rattle.job_reviews.specs.Evenings.{IsReviewAt}
use Rattle.job_reviews.proofs.job.in_order.Given as goal

abbrev pub invariant-loop-place : goal.invariant-loop-place
invariant-loop-place l = record {
  right : AreRight (IsReviewAt l.evening) l.findings.items;
  so_far : AllZip (IsGameReview l.evening.asked.now) (take l.place (pairs_of l.evening.files.now)) l.games.items;
}
