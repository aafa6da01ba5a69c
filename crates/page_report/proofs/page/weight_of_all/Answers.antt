use Rattle.std.proofs.Common.{◌∙◌, ap, true}
use Rattle.std.specs.Prelude.{replicate}
use Rattle.win_vectors.specs.Weights.{weight_of}
use Rattle.win_vectors.proofs.WeightLemmas.{weight_of-each}
use Rattle.page_report.proofs.page.weight_of_all.Goals as goal

pub returns : goal.returns
returns c =
    let ws = c.args.weights.now in c.total.ensures.value ∙ ap (weight_of ws) (c.all.ensures ∙ ap (λ n. replicate n true) c.width.ensures.value) ∙ weight_of-each ws
