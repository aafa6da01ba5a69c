use Rattle.std.proofs.Common.{◌≡◌, ◌≤◌, ◌∙◌, ◌+◌, ◌++◌, ◌∷◌, [], List, length, take, take_all, refl, sym, ap, subst, rules, arith}
use Rattle.win_vectors.specs.Vectors.{meet_of}
use Rattle.win_vectors.specs.Fronts.{Vector, IsReduced}
use Rattle.win_vectors.specs.Weights.{weight_of}
use Rattle.win_vectors.proofs.VectorLemmas.{length-meet_of}
use Rattle.card_brackets.specs.Heaviest.{TakesHeavier}
use Rattle.card_brackets.proofs.HeavyVectors.{width_at, taken_more, takes_none, takes_more, takes_less}
use Rattle.card_brackets.proofs.heaviest.take_heavier.Goals as goal

pub loop-mine-init : goal.loop-mine-init
loop-mine-init c = record { width = refl; so_far = takes_none c.args.weights.now c.args.floor c.args.vector c.args.best.now.vectors }

pub meet-met-requires : goal.meet-met-requires
meet-met-requires c =
    width_at c.args.best.now.width c.args.list.now c.loop-mine.mine-index c.mine-item.result c.requires.widths c.loop-mine-test.true c.mine-item.is ∙ sym c.requires.width

pub total-requires : goal.total-requires
total-requires c =
    let mine = width_at c.args.best.now.width c.args.list.now c.loop-mine.mine-index c.mine-item.result c.requires.widths c.loop-mine-test.true c.mine-item.is in
    c.requires.weights ∙ sym (ap length c.meet-met.ensures ∙ length-meet_of c.mine-item.result c.args.vector (mine ∙ sym c.requires.width) ∙ mine)

pub insert-requires : goal.insert-requires
insert-requires c =
    let mine = width_at c.args.best.now.width c.args.list.now c.loop-mine.mine-index c.mine-item.result c.requires.widths c.loop-mine-test.true c.mine-item.is in
    ap length c.meet-met.ensures ∙ length-meet_of c.mine-item.result c.args.vector (mine ∙ sym c.requires.width) ∙ mine ∙ sym c.loop-mine.invariant.width

pub loop-mine-preserved-then-total-floor : goal.loop-mine-preserved-then-total-floor
loop-mine-preserved-then-total-floor c =
    let items : List Vector = c.args.list.now in
    let place = c.loop-mine.mine-index in
    let item : Vector = c.mine-item.result in
    let ws = c.args.weights.now in
    let more = taken_more items place item c.loop-mine-test.true c.mine-item.is in
    let weight : c.total.result ≡ weight_of ws (meet_of item c.args.vector) = c.total.ensures.value ∙ ap (weight_of ws) c.meet-met.ensures in
    let test = c.if-total-floor.true in
    record {
      width = c.loop-mine.invariant.width;
      so_far = subst (λ (xs : List Vector). TakesHeavier ws c.args.floor xs c.args.vector c.args.best.now.vectors c.loop-mine.best.vectors) more
          (takes_less ws c.args.floor (take place items) item c.args.vector c.args.best.now.vectors c.loop-mine.best.vectors c.loop-mine.invariant.so_far (omega (arith, weight, test)));
    }

pub loop-mine-preserved : goal.loop-mine-preserved
loop-mine-preserved c =
    let items : List Vector = c.args.list.now in
    let place = c.loop-mine.mine-index in
    let item : Vector = c.mine-item.result in
    let ws = c.args.weights.now in
    let more = taken_more items place item c.loop-mine-test.true c.mine-item.is in
    record {
      width = c.in_ok-insert.ensures.width ∙ c.loop-mine.invariant.width;
      so_far = subst (λ (xs : List Vector). TakesHeavier ws c.args.floor xs c.args.vector c.args.best.now.vectors c.insert.new.self.vectors) more
          (takes_more ws c.args.floor (take place items) item c.args.vector c.args.best.now.vectors c.loop-mine.best.vectors c.loop-mine.invariant.so_far c.insert.new.self.vectors
          (rw c.meet-met.ensures at c.in_ok-insert.ensures.ok));
    }
