use Rattle.std.proofs.Common.{◌≡◌, take}
use Rattle.card_brackets.specs.Heaviest.{AreHeavyMeets}
use Rattle.card_brackets.proofs.heaviest.heavy_meets.Given as goal

abbrev pub invariant-loop-vector : goal.invariant-loop-vector
invariant-loop-vector l = record {
  width : l.best.width ≡ l.front.width;
  so_far : AreHeavyMeets l.weights l.floor l.front.vectors l.after.mask (take l.vector-index l.vector-items) l.best.vectors;
}
