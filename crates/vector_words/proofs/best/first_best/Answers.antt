use Rattle.std.proofs.Common.{◌<◌, ◌≤◌, length, sym, subst, ◌∙◌, arith}
use Rattle.std.proofs.lemmas.Option.{slice_get_within}
use Rattle.win_vectors.specs.Weights.{weight_of}
use Rattle.vector_words.proofs.Widths.{width_at}
use Rattle.vector_words.proofs.best.first_best.Goals as goal

pub total-most-requires : goal.total-most-requires
total-most-requires c = sym (width_at c.args.front.now.width c.args.front.now.vectors 0 c.get-best.result c.len-count.ensures.front.one_width c.get-best.ensures ∙ c.requires.wide)

pub total-weight-requires : goal.total-weight-requires
total-weight-requires c =
    sym (width_at c.args.front.now.width c.args.front.now.vectors c.loop-place.place c.get-vector.result c.len-count.ensures.front.one_width c.get-vector.ensures ∙ c.requires.wide)

pub returns-clause-best : goal.returns-clause-best
returns-clause-best c =
    let inv = c.loop-place.invariant in
    let vectors = c.args.front.now.vectors in
    record {
      place = inv.at;
      here = inv.here;
      heaviest = λ other v is.
          let inside = slice_get_within vectors other v is in
          subst (λ most. weight_of c.args.weights.now v ≤ most) inv.weighs (inv.heaviest other v (omega (arith, inside, c.loop-place-test.false, c.len-count.ensures.value)) is);
      first = λ other v low is. subst (λ most. weight_of c.args.weights.now v < most) inv.weighs (inv.first other v low is);
    }

pub returns-clause-wide : goal.returns-clause-wide
returns-clause-wide c =
    width_at c.args.front.now.width c.args.front.now.vectors c.loop-place.invariant.at c.loop-place.best c.len-count.ensures.front.one_width c.loop-place.invariant.here ∙ c.requires.wide
