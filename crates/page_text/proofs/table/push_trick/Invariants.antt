use Rattle.std.proofs.Common.{◌≡◌, ◌++◌, flat_map, take}
use Rattle.page_text.specs.Tables.{trick_card}
use Rattle.page_text.proofs.table.push_trick.Given as goal

abbrev pub invariant-loop-card : goal.invariant-loop-card
invariant-loop-card l = l.page ≡ l.initial.page ++ flat_map trick_card (take l.card-index l.cards)
