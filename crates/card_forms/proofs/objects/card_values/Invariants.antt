use Rattle.std.proofs.Common.{◌≡◌, map, take}
use Rattle.serde_json.specs.View.{view}
use Rattle.card_forms.specs.Objects.{card_data}
use Rattle.card_forms.proofs.objects.card_values.Given as goal

abbrev pub invariant-loop-row : goal.invariant-loop-row
invariant-loop-row l = map view l.values.items ≡ map (card_data l.others l.rows.items) (take l.row-index l.rows.items)
