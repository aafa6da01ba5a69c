-- All numbers of a table are whole.
use Rattle.std.proofs.Common.{◌≡◌, ℕ, false, List, [], ◌∷◌, map, refl}
use Rattle.serde_json.specs.View.{items_of}
use Rattle.serde_json.specs.Written.{has_float, items_have_float}
use Rattle.trick_rules.specs.Nodes.{NodeValue}
use Rattle.card_brackets.specs.declared.rows.CardRow.{CardRow}
use Rattle.card_forms.specs.declared.planned.Planned.{Planned}
use Rattle.card_forms.specs.declared.planned.Planned.TheVariants.{Moves, All}
use Rattle.card_forms.specs.Equals.{others_in_play, equal_rows}
use Rattle.card_forms.specs.Objects.{row_name, card_data, cards_data}

names_are_whole : (rows : List CardRow) → items_have_float (items_of (map row_name rows)) ≡ false
names_are_whole [] = refl
names_are_whole (row ∷ rows) = names_are_whole rows

rows_are_whole : (others : List ℕ) (all rows : List CardRow) → items_have_float (items_of (map (card_data others all) rows)) ≡ false
unfolding card_data
rows_are_whole others all [] = refl
rows_are_whole others all (row ∷ rows) = rw (names_are_whole (equal_rows others all row.card)) (rows_are_whole others all rows)

pub table_is_whole : (node : NodeValue) (weights : List ℕ) (planned : Planned) (rows : List CardRow) (named : ℕ) → has_float (cards_data node weights planned rows named) ≡ false
unfolding cards_data
table_is_whole node weights (Moves moves) rows named = rw (rows_are_whole (others_in_play node) rows rows) refl
table_is_whole node weights All rows named = rw (rows_are_whole (others_in_play node) rows rows) refl
