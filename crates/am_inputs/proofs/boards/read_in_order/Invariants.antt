use Rattle.std.proofs.Common.{◌≡◌, ◌≤◌, ℕ, List}
use Rattle.am_answer.specs.Files.{AreWithinLimit}
use Rattle.am_inputs.proofs.InOrder.{HasRead}
use Rattle.am_inputs.proofs.boards.read_in_order.Given as goal

abbrev pub invariant-loop-place : goal.invariant-loop-place
invariant-loop-place g l = record {
  told : g.S.Shelf.told l.shelf ≡ g.S.Shelf.told l.initial.shelf;
  read : HasRead (g.S.Shelf.told l.initial.shelf) l.name l.count l.texts.items l.place;
  within : AreWithinLimit l.texts.items;
  never_falls : (other : List ℕ) → g.S.Shelf.faults l.initial.shelf other ≤ g.S.Shelf.faults l.shelf other;
}
