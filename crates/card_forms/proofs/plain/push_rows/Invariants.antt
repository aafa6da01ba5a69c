use Rattle.std.proofs.Common.{◌≡◌, ◌++◌, flat_map, take}
use Rattle.card_forms.specs.Plain.{row_line}
use Rattle.card_forms.proofs.plain.push_rows.Given as goal

abbrev pub invariant-loop-row : goal.invariant-loop-row
invariant-loop-row l = l.text ≡ l.initial.text ++ flat_map row_line (take l.row-index l.rows.items)
