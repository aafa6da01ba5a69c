use Rattle.std.proofs.Common.{◌∙◌, List, take, take_all, sym, subst, arith}
use Rattle.win_vectors.specs.Fronts.{Vector}
use Rattle.alphamu_core.specs.Limits.{IsUnionOf}
use Rattle.alphamu_core.proofs.FrontParts.{vector_at}
use Rattle.alphamu_core.proofs.Unions.{union_none, union_more}
use Rattle.alphamu_core.proofs.limits.union_of.Goals as goal

pub loop-place-init : goal.loop-place-init
loop-place-init c = subst (λ width. IsUnionOf width (take 0 c.args.front.now.vectors) c.none-union.result) c.width.ensures (union_none c.width.result c.args.front.now.vectors c.none-union.result c.none-union.ensures)

pub either-union-requires : goal.either-union-requires
either-union-requires c = c.loop-place.invariant.length ∙ sym (vector_at c.args.front.now.width c.args.front.now.vectors c.loop-place.place c.get.result c.len-count.ensures.front.one_width c.get.ensures)

pub loop-place-preserved : goal.loop-place-preserved
loop-place-preserved c =
    let wide = vector_at c.args.front.now.width c.args.front.now.vectors c.loop-place.place c.get.result c.len-count.ensures.front.one_width c.get.ensures in
    union_more c.args.front.now.width c.args.front.now.vectors c.loop-place.place c.loop-place.union c.get.result c.either-union.result
    (omega (arith, c.len-count.ensures.value, c.loop-place-test.true)) c.get.ensures wide c.loop-place.invariant c.either-union.ensures

pub returns : goal.returns
returns c = subst (λ (vs : List Vector). IsUnionOf c.args.front.now.width vs c.loop-place.union)
    (take_all c.loop-place.place c.args.front.now.vectors (omega (arith, c.len-count.ensures.value, c.loop-place-test.false))) c.loop-place.invariant
