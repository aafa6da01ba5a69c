use Rattle.std.proofs.Common.{length, ap, arith}
use Rattle.std.proofs.lemmas.Slice.Zip.{length-zip}
use Rattle.job_reviews.proofs.job.count_of.Goals as goal

pub returns : goal.returns
returns c =
    let files = c.args.files.now in
    omega (arith, length-zip files.games files.layouts, c.min.ensures, ap length c.games.ensures, ap length c.layouts.ensures)
