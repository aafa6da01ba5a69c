use Rattle.std.proofs.Common.{◌≤◌, length, ap, arith}
use Rattle.std.proofs.lemmas.Result.{IfOk-weaker}
use Rattle.std.proofs.lemmas.Slice.Zip.{length-zip}
use Rattle.job_reviews.specs.Reviews.{IsGameReview}
use Rattle.job_reviews.proofs.Pairs.{at_place, pair_holds}
use Rattle.job_reviews.proofs.evening.Evening.review_at.Goals as goal

pub bounds-games-place : goal.bounds-games-place
bounds-games-place c =
    let files = c.args.self.now.files.now in
    omega (arith, c.requires.place, c.requires.evening.counted, length-zip files.games files.layouts, ap length c.games-games.ensures)

pub bounds-layouts-place : goal.bounds-layouts-place
bounds-layouts-place c =
    let files = c.args.self.now.files.now in
    omega (arith, c.requires.place, c.requires.evening.counted, length-zip files.games files.layouts, ap length c.layouts-layouts.ensures)

pub game_review-requires-clause-tagged : goal.game_review-requires-clause-tagged
game_review-requires-clause-tagged c =
    let files = c.args.self.now.files.now in
    at_place (λ game. 1 ≤ length game.tags) files.games c.games-games.result.now _ c.index-games-place.result c.games-games.ensures c.requires.evening.files.tagged
    (omega (arith, c.requires.place, c.requires.evening.counted, length-zip files.games files.layouts, ap length c.games-games.ensures)) c.index-games-place.is

pub game_review-requires-clause-short : goal.game_review-requires-clause-short
game_review-requires-clause-short c =
    let files = c.args.self.now.files.now in
    let short = at_place (λ text. length text ≤ 1048576) files.layouts c.layouts-layouts.result.now _ c.index-layouts-place.result c.layouts-layouts.ensures c.requires.evening.files.within
    (omega (arith, c.requires.place, c.requires.evening.counted, length-zip files.games files.layouts, ap length c.layouts-layouts.ensures)) c.index-layouts-place.is in
    omega (arith, short)

pub returns : goal.returns
returns c =
    let e = c.args.self.now in
    let files = e.files.now in
    IfOk-weaker c.game_review.result _ _
    (λ review is. pair_holds (λ pair. IsGameReview e.asked.now pair review) files.games c.games-games.result.now files.layouts c.layouts-layouts.result.now c.args.place c.index-games-place.result c.index-layouts-place.result
    c.games-games.ensures c.layouts-layouts.ensures (omega (arith, c.requires.place, c.requires.evening.counted)) c.index-games-place.is c.index-layouts-place.is is)
    c.game_review.ensures
