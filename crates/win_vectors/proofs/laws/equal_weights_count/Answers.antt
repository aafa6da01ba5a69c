use Rattle.win_vectors.proofs.WeightLemmas.{weight_of-equal, report_order-equal}
use Rattle.win_vectors.proofs.laws.equal_weights_count.Goals as goal

pub returns : goal.returns
returns c = record { weight = weight_of-equal; order = report_order-equal }
