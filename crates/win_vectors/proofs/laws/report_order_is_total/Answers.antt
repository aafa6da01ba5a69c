use Rattle.win_vectors.proofs.WeightLemmas.{report-irrefl, report-trans, report-cases, report-dominating_first}
use Rattle.win_vectors.proofs.laws.report_order_is_total.Goals as goal

pub returns : goal.returns
returns c = record { irreflexive = report-irrefl; transitive = report-trans; total = report-cases; dominating_first = report-dominating_first }
