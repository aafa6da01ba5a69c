use Rattle.std.proofs.Common.{◌≡◌, ◌++◌, flat_map, take}
use Rattle.text_forms.specs.Records.{record_text}
use Rattle.card_forms.specs.Records.{field_names, row_fields}
use Rattle.card_forms.proofs.records.cards_csv.Given as goal

abbrev pub invariant-loop-row : goal.invariant-loop-row
invariant-loop-row l = l.text ≡ record_text field_names ++ flat_map (λ row. record_text (row_fields l.weights l.planned l.named row)) (take l.row-index l.rows.items)
