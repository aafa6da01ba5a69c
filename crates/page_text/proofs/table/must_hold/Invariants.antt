use Rattle.std.proofs.Common.{◌≡◌, take}
use Rattle.std.specs.List.{list_all}
use Rattle.card_sets.specs.SetWords.{cards_where}
use Rattle.page_text.specs.Tables.{is_held}
use Rattle.page_text.proofs.table.must_hold.Given as goal

abbrev pub invariant-loop-left : goal.invariant-loop-left
invariant-loop-left l = l.cards ≡ cards_where (λ card. list_all (is_held l.node.position l.seat card) (take l.left-index l.left-items))
