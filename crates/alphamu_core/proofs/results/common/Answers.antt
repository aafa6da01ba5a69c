use Rattle.std.proofs.Common.{rules, ◌≡◌, ◌∙◌, length, ap}
use Rattle.win_vectors.specs.Fronts.{Vector}
use Rattle.win_vectors.proofs.VectorLemmas.{length-meet_of}
use Rattle.alphamu_core.proofs.results.common.Goals as goal

pub loop-vector-preserved : goal.loop-vector-preserved
loop-vector-preserved c =
    let same : length c.loop-vector.ones ≡ length c.vector-item.result = search rules in
    ap (λ (v : Vector). length v) c.meet-ones.ensures ∙ length-meet_of c.loop-vector.ones c.vector-item.result same ∙ c.loop-vector.invariant
