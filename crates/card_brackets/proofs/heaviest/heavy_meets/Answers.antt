use Rattle.std.proofs.Common.{◌≡◌, ◌≤◌, ◌∙◌, ◌+◌, ◌++◌, ◌∷◌, [], List, length, take, take_all, refl, sym, ap, subst, rules, arith}
use Rattle.win_vectors.specs.Fronts.{Vector, HaveWidth}
use Rattle.win_vectors.proofs.Orders.{length-spread_of}
use Rattle.card_brackets.specs.Heaviest.{AreHeavyMeets}
use Rattle.card_brackets.proofs.HeavyVectors.{width_at, taken_more, meets_none, meets_more}
use Rattle.card_brackets.proofs.heaviest.heavy_meets.Goals as goal

pub loop-vector-init : goal.loop-vector-init
loop-vector-init c = record {
  width = c.new-best.ensures.width ∙ c.width.ensures.value ∙ c.requires.weights;
  so_far = subst (λ (best : List Vector). AreHeavyMeets c.args.weights.now c.args.floor c.args.front.now.vectors c.args.after.now.mask [] best) (sym c.new-best.ensures.empty)
      (meets_none c.args.weights.now c.args.floor c.args.front.now.vectors c.args.after.now.mask);
}

pub loop-vector-preserved : goal.loop-vector-preserved
loop-vector-preserved c =
    let items : List Vector = c.as_slice-vector-items.result.now in
    let place = c.loop-vector.vector-index in
    let item : Vector = c.vector-item.result in
    let more = taken_more items place item c.loop-vector-test.true c.vector-item.is in
    record {
      width = c.in_ok-take_heavier.ensures.width ∙ c.loop-vector.invariant.width;
      so_far = subst (λ (xs : List Vector). AreHeavyMeets c.args.weights.now c.args.floor c.args.front.now.vectors c.args.after.now.mask xs c.take_heavier.new.best.vectors) more
          (meets_more c.args.weights.now c.args.floor c.args.front.now.vectors c.args.after.now.mask (take place items) item c.loop-vector.best.vectors c.take_heavier.new.best.vectors c.loop-vector.invariant.so_far
          (rw (c.spread-spread.ensures, c.as_slice.ensures.value) at c.in_ok-take_heavier.ensures.heavier));
    }

pub returns-clause-heavy : goal.returns-clause-heavy
returns-clause-heavy c =
    let items = c.as_slice-vector-items.result.now in
    let whole : take c.loop-vector.vector-index items ≡ items = take_all c.loop-vector.vector-index items c.loop-vector-test.false in
    rw (whole, c.as_slice-vector-items.ensures.value) at c.loop-vector.invariant.so_far

pub take_heavier-requires-clause-width : goal.take_heavier-requires-clause-width
take_heavier-requires-clause-width c =
    let items = c.as_slice-vector-items.result.now in
    let one_width = subst (λ (xs : List Vector). HaveWidth c.args.after.now.front.width xs) (sym c.as_slice-vector-items.ensures.value) c.as_slice-vector-items.ensures.front.one_width in
    let vector = width_at c.args.after.now.front.width items c.loop-vector.vector-index c.vector-item.result one_width c.loop-vector-test.true c.vector-item.is in
    ap length c.spread-spread.ensures ∙ length-spread_of c.vector-item.result c.args.after.now.mask (vector ∙ c.requires.child) ∙ c.requires.mask ∙ sym c.loop-vector.invariant.width
