use Rattle.std.proofs.Common.{◌≡◌, ◌∙◌, ◌∷◌, [], ◌++◌, List, length, take, sym, ap, subst}
use Rattle.std.proofs.lemmas.List.{take_all, take_more}
use Rattle.win_vectors.specs.Fronts.{Vector, IsReduced}
use Rattle.win_vectors.proofs.Reduction.{reduced-nil, reduced-push}
use Rattle.log_check.specs.Steps.{CoverAlike}
use Rattle.log_check.proofs.Joined.{alike-reduced}
use Rattle.log_check.proofs.best.front_of.Goals as goal

pub loop-vector-init : goal.loop-vector-init
loop-vector-init c = record {
  width = c.new-front.ensures.width;
  reduced = subst (λ (vs : List Vector). IsReduced [] vs) (sym c.new-front.ensures.empty) reduced-nil;
}

pub insert-requires : goal.insert-requires
insert-requires c =
    subst (λ (v : Vector). length v ≡ c.args.width) (sym c.vector-item.is) (c.requires.widths c.loop-vector.vector-index c.vector-item.result c.loop-vector-test.true)
    ∙ sym c.loop-vector.invariant.width

pub loop-vector-preserved : goal.loop-vector-preserved
loop-vector-preserved c = record {
  width = c.in_ok-insert.ensures.width ∙ c.loop-vector.invariant.width;
  reduced = subst (λ (vs : List Vector). IsReduced vs c.insert.new.self.vectors)
      (sym (take_more c.args.vectors.now c.loop-vector.vector-index c.vector-item.result c.loop-vector-test.true
      ∙ ap (λ (v : Vector). take c.loop-vector.vector-index c.args.vectors.now ++ v ∷ []) (sym c.vector-item.is)))
      (reduced-push (take c.loop-vector.vector-index c.args.vectors.now) c.loop-vector.front.vectors c.insert.new.self.vectors c.vector-item.result
      c.loop-vector.invariant.reduced c.in_ok-insert.ensures.ok);
}

pub returns-clause-width : goal.returns-clause-width
returns-clause-width c = c.loop-vector.invariant.width

pub returns-clause-alike : goal.returns-clause-alike
returns-clause-alike c =
    subst (λ (vs : List Vector). CoverAlike vs c.loop-vector.front.vectors) (take_all c.loop-vector.vector-index c.args.vectors.now c.loop-vector-test.false)
    (alike-reduced (take c.loop-vector.vector-index c.args.vectors.now) c.loop-vector.front.vectors c.loop-vector.invariant.reduced)
