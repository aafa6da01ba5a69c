use Rattle.std.proofs.Common.{refl}
use Rattle.win_vectors.specs.Fronts.{Covers}
use Rattle.pareto_fronts.proofs.FrontLemmas.{Unites-more, Unites-covered}
use Rattle.pareto_fronts.proofs.front.Front.union.Goals as goal
use Rattle.pareto_fronts.proofs.front.Front.union.Goals.{in-Some, in_default}

pub loop-vector-preserved : goal.loop-vector-preserved
loop-vector-preserved c =
    let done = c.loop-vector.vector-index in
    let items = c.deref-vector-items.result.now in
    elim c.match-place_for.branch [
      | in-Some w ↦
          rw w.self-is (Unites-more c.args.self.now items done c.vector-item.result c.loop-vector.self w.put.new.self c.loop-vector-test.true c.vector-item.is c.loop-vector.invariant
          w.put.ensures.front w.put.ensures.width w.put.ensures.reduced w.put.ensures.longer w.put.ensures.room)
      | in_default w ↦
          let above : Covers c.loop-vector.self.vectors c.vector-item.result = rw (← c.self-in-loop-vector.view_is, ← c.as_slice.ensures) (w.in_default.ensures.covered refl) in
          rw w.self-is (Unites-covered c.args.self.now items done c.vector-item.result c.loop-vector.self c.loop-vector-test.true c.vector-item.is c.loop-vector.invariant above)
    ]
