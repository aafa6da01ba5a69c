-- A report whose plans are all good.
use Rattle.std.specs.Prelude.{ℕ, List, ◌++◌, codes}
use Rattle.std.specs.Fmt.{decimal}
use Rattle.byte_text.specs.Lines.{line_of}

-- how many plans the report has, and that they are good
unfoldable pub check_text : ℕ → List ℕ
check_text plans = line_of (codes "alphamu check 1") ++ line_of (codes "plans " ++ decimal plans) ++ line_of (codes "good")
