use Rattle.std.proofs.Common.{◌≡◌, ◌<◌, ◌∙◌, length, get_or, map, set, ap, subst, arith, rules}
use Rattle.fusion_base.specs.Sampling.{cards_that_make}
use Rattle.fusion_base.proofs.Sampled.{made_here, made_upto, made_upto-more, made_upto-all}
use Rattle.fusion_base.proofs.table.vector_of.Goals as goal

pub loop-place-preserved : goal.loop-place-preserved
loop-place-preserved c =
    let n = c.args.node.now in
    let place = c.loop-place.place in
    let low : place < length n.lefts = search rules in
    let here : get_or (map (cards_that_make n) n.lefts) place c.index-made-from.result ≡ c.index-made-from.result = subst (λ made. get_or made place c.index-made-from.result ≡ c.index-made-from.result) c.requires.made (search rules) in
    c.set-vector.ensures
    ∙ ap (λ bits. set bits place c.has.result) c.loop-place.invariant
    ∙ ap (λ bit. set (made_upto n c.args.card place) place bit) (c.has.ensures.value ∙ made_here n c.args.card c.requires.choice place c.index-made-from.result low here)
    ∙ made_upto-more n c.args.card place low

pub returns : goal.returns
returns c = c.loop-place.invariant ∙ made_upto-all c.args.node.now c.args.card c.loop-place.place (omega arith)
