use Rattle.std.proofs.Common.{◌∙◌, ◌∷◌, length, sym, ap, subst, arith}
use Rattle.win_vectors.specs.Vectors.{restrict_of}
use Rattle.win_vectors.specs.Fronts.{Vector, IsReduced}
use Rattle.win_vectors.proofs.VectorLemmas.{ones_of-le}
use Rattle.alphamu_core.proofs.Parts.{length-restrict}
use Rattle.alphamu_core.proofs.FrontParts.{reduced_none, reduced_more, reduced_whole, vector_at}
use Rattle.alphamu_core.proofs.part.restricted.Goals as goal

pub new-part-requires-clause-high : goal.new-part-requires-clause-high
new-part-requires-clause-high c = omega (arith, ones_of-le c.args.kept, c.count.ensures, c.requires.width, c.len-count.ensures.front.high)

pub loop-place-init : goal.loop-place-init
loop-place-init c = record {
  width = c.new-part.ensures.width ∙ c.count.ensures;
  best = reduced_none (λ v. restrict_of v c.args.kept) c.args.front.now.vectors c.new-part.result.vectors c.new-part.ensures.empty;
}

pub restrict-requires-clause-same_width : goal.restrict-requires-clause-same_width
restrict-requires-clause-same_width c = vector_at c.args.front.now.width c.args.front.now.vectors c.loop-place.place c.get.result c.len-count.ensures.front.one_width c.get.ensures ∙ c.requires.width

pub insert-requires : goal.insert-requires
insert-requires c =
    let wide = vector_at c.args.front.now.width c.args.front.now.vectors c.loop-place.place c.get.result c.len-count.ensures.front.one_width c.get.ensures ∙ c.requires.width in
    ap (λ (v : Vector). length v) c.restrict.ensures ∙ length-restrict c.get.result c.args.kept wide ∙ sym c.loop-place.invariant.width

pub loop-place-preserved : goal.loop-place-preserved
loop-place-preserved c = record {
  width = c.in_ok-insert.ensures.width ∙ c.loop-place.invariant.width;
  best = reduced_more (λ v. restrict_of v c.args.kept) c.args.front.now.vectors c.loop-place.place c.get.result c.loop-place.part.vectors c.insert.new.self.vectors
      (omega (arith, c.len-count.ensures.value, c.loop-place-test.true)) c.get.ensures c.loop-place.invariant.best
      (subst (λ (v : Vector). IsReduced (v ∷ c.loop-place.part.vectors) c.insert.new.self.vectors) c.restrict.ensures c.in_ok-insert.ensures.ok);
}

pub returns-clause-parts : goal.returns-clause-parts
returns-clause-parts c = reduced_whole (λ v. restrict_of v c.args.kept) c.args.front.now.vectors c.loop-place.place c.loop-place.part.vectors (omega (arith, c.len-count.ensures.value, c.loop-place-test.false)) c.loop-place.invariant.best
