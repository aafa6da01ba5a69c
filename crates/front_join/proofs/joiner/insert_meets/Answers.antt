use Rattle.std.proofs.Common.{◌≡◌, ◌∙◌, sym, ap, length, take, take_all}
use Rattle.win_vectors.proofs.VectorLemmas.{length-meet_of}
use Rattle.front_join.proofs.JoinLemmas.{Gathers-more, width_at}
use Rattle.front_join.proofs.joiner.insert_meets.Goals as goal

pub insert-requires : goal.insert-requires
insert-requires c =
    let mine = width_at c.args.best.now.width c.args.vectors.now c.loop-mine.mine-index c.mine-item.result c.requires.widths c.loop-mine-test.true c.mine-item.is in
    ap length c.meet.ensures ∙ length-meet_of c.mine-item.result c.args.vector (mine ∙ sym c.requires.width) ∙ mine ∙ sym c.loop-mine.invariant.width

pub loop-mine-preserved : goal.loop-mine-preserved
loop-mine-preserved c =
    let reduced = rw c.meet.ensures at c.in_ok-insert.ensures.ok in
    Gathers-more c.args.best.now c.args.vectors.now c.args.vector c.loop-mine.mine-index c.mine-item.result c.loop-mine.best c.insert.new.self c.loop-mine-test.true c.mine-item.is
    c.loop-mine.invariant c.in_ok-insert.ensures.front c.in_ok-insert.ensures.width reduced

pub returns-clause-reduced : goal.returns-clause-reduced
returns-clause-reduced c =
    let whole : take c.loop-mine.mine-index c.args.vectors.now ≡ c.args.vectors.now = take_all c.loop-mine.mine-index c.args.vectors.now c.loop-mine-test.false in
    rw whole at c.loop-mine.invariant.reduced
