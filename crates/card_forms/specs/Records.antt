-- The cards of a root side by side as records of CSV.
use Rattle.std.specs.Prelude.{◌==◌, ℕ, Bool, true, false, List, [], ◌∷◌, ◌++◌, length, map, sum, flat_map, codes}
use Rattle.std.specs.Fmt.{decimal}
use Rattle.card_letters.specs.Letters.{letters_of}
use Rattle.bit_letters.specs.Bits.{bit_letter}
use Rattle.text_forms.specs.Records.{record_text}
use Rattle.card_brackets.specs.declared.rows.CardRow.{CardRow}
use Rattle.card_brackets.specs.Rows.{is_final}
use Rattle.card_forms.specs.declared.planned.Planned.{Planned}
use Rattle.card_forms.specs.Planned.{planned_text}

-- the names of the fields
abbrev pub field_names : List (List ℕ)
field_names =
    codes "card" ∷ codes "most" ∷ codes "least" ∷ codes "sampled" ∷ codes "final" ∷ codes "vector"
    ∷ codes "named" ∷ codes "moves" ∷ codes "layouts" ∷ codes "weight" ∷ []

-- the answer to a question
abbrev pub yes_no : Bool → List ℕ
yes_no true = codes "yes"
yes_no false = codes "no"

-- what is known of a card
unfoldable pub known_fields : CardRow → List (List ℕ)
known_fields row =
    letters_of row.card ∷ decimal row.most ∷ decimal row.least ∷ decimal row.sampled ∷ yes_no (is_final row) ∷ map bit_letter row.vector ∷ []

-- the same in each record: the number of moves, and how many layouts there are with their weight
unfoldable pub shared_fields : List ℕ → Planned → List (List ℕ)
shared_fields weights planned = planned_text planned ∷ decimal (length weights) ∷ decimal (sum weights) ∷ []

-- the fields of a row: what is known of its card, whether it is the named one, and what is the same in each record
unfoldable pub row_fields : List ℕ → Planned → ℕ → CardRow → List (List ℕ)
row_fields weights planned named row = known_fields row ++ yes_no (row.card == named) ∷ shared_fields weights planned

-- a record of the names, and then one for each row
unfoldable pub cards_csv : List ℕ → Planned → List CardRow → ℕ → List ℕ
cards_csv weights planned rows named = record_text field_names ++ flat_map (λ row. record_text (row_fields weights planned named row)) rows
