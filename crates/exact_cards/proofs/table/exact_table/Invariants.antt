use Rattle.std.proofs.Common.{◌≡◌}
use Rattle.std.specs.List.{AllZip}
use Rattle.exact_cards.specs.ExactRows.{IsFinalUnlessSpent}
use Rattle.exact_cards.proofs.SideBySide.{AreFirstRows}
use Rattle.exact_cards.proofs.table.exact_table.Given as goal

abbrev pub invariant-loop-entry : goal.invariant-loop-entry
invariant-loop-entry l = record {
  rows : AreFirstRows l.node l.weights l.entry-index l.rows.items;
  entered : AllZip (IsFinalUnlessSpent l.nodes) l.rows.items l.entered.items;
  memo : l.memo ≡ l.node.lefts;
}
