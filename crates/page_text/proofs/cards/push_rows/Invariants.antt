use Rattle.std.proofs.Common.{◌≡◌, ◌++◌, flat_map, take}
use Rattle.page_text.specs.Cards.{card_row}
use Rattle.page_text.proofs.cards.push_rows.Given as goal

abbrev pub invariant-loop-row : goal.invariant-loop-row
invariant-loop-row l = l.page ≡ l.initial.page ++ flat_map (card_row l.to_play) (take l.row-index l.table.rows.items)
