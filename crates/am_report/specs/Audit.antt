-- A log that proves a report complete.
use Rattle.std.specs.Prelude.{ℕ, List, ◌++◌, codes}
use Rattle.std.specs.Fmt.{decimal}
use Rattle.byte_text.specs.Lines.{line_of}

-- how many lines the log has, and that no strategy wins more than the report says
unfoldable pub audit_text : ℕ → List ℕ
audit_text lines = line_of (codes "alphamu audit 1") ++ line_of (codes "lines " ++ decimal lines) ++ line_of (codes "complete")
