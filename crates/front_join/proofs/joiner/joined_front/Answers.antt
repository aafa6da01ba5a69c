use Rattle.std.proofs.Common.{◌≡◌, ◌∙◌, sym, ap, length, take, take_all, subst}
use Rattle.win_vectors.specs.Fronts.{HaveWidth}
use Rattle.win_vectors.proofs.Orders.{length-spread_of}
use Rattle.front_join.proofs.JoinLemmas.{Joins-none, Joins-more, width_at}
use Rattle.front_join.proofs.joiner.joined_front.Goals as goal

pub loop-vector-init : goal.loop-vector-init
loop-vector-init c =
    Joins-none c.args.front.now.vectors c.as_slice-vector-items.result.now c.args.mask c.args.front.now.width c.new-best.result
    c.new-best.ensures.front (c.new-best.ensures.width ∙ c.width.ensures) c.new-best.ensures.empty

pub insert_meets-requires-clause-width : goal.insert_meets-requires-clause-width
insert_meets-requires-clause-width c =
    let items = c.as_slice-vector-items.result.now in
    let one_width : HaveWidth c.args.child.now.width items = rw c.as_slice-vector-items.ensures.value c.as_slice-vector-items.ensures.front.one_width in
    let vector = width_at c.args.child.now.width items c.loop-vector.vector-index c.vector-item.result one_width c.loop-vector-test.true c.vector-item.is in
    ap length c.spread.ensures ∙ length-spread_of c.vector-item.result c.args.mask (vector ∙ c.requires.child_width) ∙ c.requires.mask_width ∙ sym c.loop-vector.invariant.width

pub insert_meets-requires-clause-widths : goal.insert_meets-requires-clause-widths
insert_meets-requires-clause-widths c =
    let one_width : HaveWidth c.args.front.now.width c.as_slice.result.now = rw c.as_slice.ensures.value c.as_slice.ensures.front.one_width in
    subst (λ n. HaveWidth n c.as_slice.result.now) (sym c.loop-vector.invariant.width) one_width

pub loop-vector-preserved : goal.loop-vector-preserved
loop-vector-preserved c =
    let reduced = rw (c.spread.ensures, c.as_slice.ensures.value) at c.in_ok-insert_meets.ensures.reduced in
    Joins-more c.args.front.now.vectors c.as_slice-vector-items.result.now c.args.mask c.loop-vector.vector-index c.args.front.now.width c.vector-item.result c.loop-vector.best c.insert_meets.new.best
    c.loop-vector-test.true c.vector-item.is c.loop-vector.invariant c.in_ok-insert_meets.ensures.front c.in_ok-insert_meets.ensures.width reduced

pub returns-clause-reduced : goal.returns-clause-reduced
returns-clause-reduced c =
    let items = c.as_slice-vector-items.result.now in
    let whole : take c.loop-vector.vector-index items ≡ items = take_all c.loop-vector.vector-index items c.loop-vector-test.false in
    rw (whole, c.as_slice-vector-items.ensures.value) at c.loop-vector.invariant.reduced
