use Rattle.job_reviews.specs.Reviews.{pairs_of, IsGameReview}
use Rattle.job_reviews.proofs.Pairs.{one_more}
use Rattle.job_reviews.proofs.job.in_order.Goals as goal

pub loop-place-preserved : goal.loop-place-preserved
loop-place-preserved c =
    let e = c.args.evening.now in record {
      right = c.found_at.ensures.right;
      so_far = one_more (IsGameReview e.asked.now) (pairs_of e.files.now) c.loop-place.place c.loop-place.games.items c.push.new.self.items c.in_ok-review.review
          c.loop-place.invariant.so_far c.in_ok-review.ensures.review c.in_ok-push.ensures.items;
    }
