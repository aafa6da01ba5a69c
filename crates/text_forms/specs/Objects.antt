-- Lines of JSON.
use Rattle.std.specs.Prelude.{ℕ, List}
use Rattle.byte_text.specs.Lines.{line_of}
use Rattle.serde_json.specs.Data.{Data}
use Rattle.serde_json.specs.Written.{compact_text}

-- a value as the kit's crate serde_json writes it without blanks, as a line
abbrev pub json_line : Data → List ℕ
json_line value = line_of (compact_text value)
