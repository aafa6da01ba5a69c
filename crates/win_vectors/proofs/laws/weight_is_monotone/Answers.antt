use Rattle.win_vectors.proofs.WeightLemmas.{ones_of-monotone, weight_of-monotone, weight_of-none, weight_of-each, weight_of-most}
use Rattle.win_vectors.proofs.laws.weight_is_monotone.Goals as goal

pub returns : goal.returns
returns c = record { count = ones_of-monotone; weight = weight_of-monotone; none = weight_of-none; each = weight_of-each; most = weight_of-most }
