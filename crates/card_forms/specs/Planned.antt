-- How many moves were planned for the rows of a text.
use Rattle.std.specs.Prelude.{ℕ, List, codes}
use Rattle.std.specs.Fmt.{decimal}
use Rattle.serde_json.specs.Data.{Data, number, unsigned, string}
use Rattle.card_forms.specs.declared.planned.Planned.{Planned}
use Rattle.card_forms.specs.declared.planned.Planned.TheVariants.{Moves, All}

-- a number of moves, or all
abbrev pub planned_text : Planned → List ℕ
planned_text (Moves moves) = decimal moves
planned_text All = codes "all"

-- as a value of JSON
abbrev pub planned_data : Planned → Data
planned_data (Moves moves) = number (unsigned moves)
planned_data All = string (codes "all")
