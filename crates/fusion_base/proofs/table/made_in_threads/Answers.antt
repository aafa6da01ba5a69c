use Rattle.std.proofs.Common.{◌∙◌}
use Rattle.rayon.proofs.ListFacts.{IfOk-then}
use Rattle.rayon.proofs.ToStd.{slice-map}
use Rattle.fusion_base.specs.Sampling.{cards_that_make}
use Rattle.fusion_base.proofs.table.made_in_threads.Goals as goal

pub returns : goal.returns
returns g c =
    let n = c.args.node.now in
    IfOk-then c.collect.result _ _ c.collect.ensures (λ made h.
    let chain = rw (c.map.ensures.base, c.with_min_len.ensures.base, c.map.ensures.f) at h.1 in
    h.2 ∙ slice-map chain.0 n.lefts (chain.1 ∙ c.par_iter.ensures ∙ c.lefts.ensures.value) (cards_that_make n) h.0 chain.2)
