use Rattle.std.proofs.Common.{◌≡◌, take}
use Rattle.card_brackets.specs.Heaviest.{TakesHeavier}
use Rattle.card_brackets.proofs.heaviest.take_heavier.Given as goal

abbrev pub invariant-loop-mine : goal.invariant-loop-mine
invariant-loop-mine l = record {
  width : l.best.width ≡ l.fn.best.width;
  so_far : TakesHeavier l.weights l.floor (take l.mine-index l.list) l.vector l.fn.best.vectors l.best.vectors;
}
