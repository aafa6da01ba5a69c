-- The games as jobs for workers.
use Rattle.std.specs.Prelude.{◌≡◌, ℕ, IsSomeAnd, length, slice_get}
use Rattle.job_words.specs.Asks.{IsMoves, IsSearchWithinLimits}
use Rattle.am_answer.specs.Files.{AreGameFiles}
use Rattle.review_text.specs.declared.game.GameReview.{GameReview}
use Rattle.job_reviews.specs.declared.evening.Evening.{Evening}
use Rattle.job_reviews.specs.Reviews.{pairs_of, IsGameReview}

-- the files and what is asked keep their limits, and the games are counted
pub record IsEvening (e : Evening) : Type 0 where
  pub files : AreGameFiles e.files.now
  pub moves : IsMoves e.asked.now.moves
  pub limits : IsSearchWithinLimits e.asked.now.search
  pub counted : e.places ≡ length (pairs_of e.files.now)

-- what comes of the game at a place, counted from 0
abbrev pub IsReviewAt : Evening → ℕ → GameReview → Type 0
IsReviewAt e place review = IsSomeAnd (slice_get (pairs_of e.files.now) place) (λ pair. IsGameReview e.asked.now pair review)
