use Rattle.win_vectors.proofs.WordBits.{IsLowestDifference-trailing}
use Rattle.win_vectors.proofs.words.lowest_difference.Goals as goal

pub returns : goal.returns
returns c = IsLowestDifference-trailing c.args.ours c.args.theirs c.ranges.ours.fits c.ranges.theirs.fits c.requires
