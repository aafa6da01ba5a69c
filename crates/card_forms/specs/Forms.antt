-- The forms of the text of a table.
use Rattle.std.specs.Prelude.{ℕ, Bool, true, false, List, [], ◌++◌, codes}
use Rattle.byte_text.specs.Lines.{line_of}
use Rattle.trick_rules.specs.Nodes.{NodeValue}
use Rattle.card_brackets.specs.declared.rows.CardRow.{CardRow}
use Rattle.card_brackets.specs.declared.table.CardTable.{CardTable}
use Rattle.card_brackets.specs.Rows.{are_final}
use Rattle.exact_cards.specs.declared.table.ExactTable.{ExactTable}
use Rattle.text_forms.specs.declared.form.Form.{Form}
use Rattle.text_forms.specs.declared.form.Form.TheVariants.{Text, Csv, Json}
use Rattle.card_forms.specs.declared.planned.Planned.{Planned}
use Rattle.card_forms.specs.declared.planned.Planned.TheVariants.{Moves, All}
use Rattle.card_forms.specs.Plain.{cards_text}
use Rattle.card_forms.specs.Records.{cards_csv}
use Rattle.card_forms.specs.Objects.{cards_json}

-- rows of a node and the named card in a form
abbrev pub rows_in : Form → NodeValue → List ℕ → Planned → List CardRow → ℕ → List ℕ
rows_in Text node = cards_text
rows_in Csv node = cards_csv
rows_in Json node = cards_json node

-- a table in a form
abbrev pub cards_in : Form → NodeValue → List ℕ → CardTable → List ℕ
cards_in form node weights table = rows_in form node weights (Moves table.moves) table.rows.items table.named

-- in the text for people, a last line if some row isn't final
abbrev pub spent_line : Form → Bool → List ℕ
spent_line Text false = line_of (codes "nodes spent")
spent_line Text true = []
spent_line Csv final = []
spent_line Json final = []

-- a table with all moves planned in a form
abbrev pub exact_in : Form → NodeValue → List ℕ → ExactTable → List ℕ
exact_in form node weights table = rows_in form node weights All table.rows.items table.named ++ spent_line form (are_final table.rows.items)
