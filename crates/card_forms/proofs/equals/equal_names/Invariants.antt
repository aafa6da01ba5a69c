use Rattle.std.proofs.Common.{◌≡◌, map, take}
use Rattle.serde_json.specs.View.{view}
use Rattle.card_forms.specs.Equals.{equal_rows}
use Rattle.card_forms.specs.Objects.{row_name}
use Rattle.card_forms.proofs.equals.equal_names.Given as goal

abbrev pub invariant-loop-row : goal.invariant-loop-row
invariant-loop-row l = map view l.names.items ≡ map row_name (equal_rows l.others (take l.row-index l.rows.items) l.card)
