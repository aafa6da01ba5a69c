-- Records of CSV.
use Rattle.std.specs.Prelude.{ℕ, List}
use Rattle.csv.specs.Writing.{default_writer, row_text}

-- a record of these fields, as the kit's crate csv writes it by default
unfoldable pub record_text : List (List ℕ) → List ℕ
record_text fields = row_text default_writer fields
