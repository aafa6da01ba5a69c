-- What is written of a list.
use Rattle.std.specs.Prelude.{ℕ, zero, suc, List, [], codes}
use Rattle.std.specs.List.{join_by}

-- what is written of each, with single spaces between them
abbrev pub spaced : {A : Type 0} → (A → List ℕ) → List A → List ℕ
spaced written items = join_by written (codes " ") items

-- what stands before the item at a place, which is counted from 0
abbrev pub space_before : ℕ → List ℕ
space_before zero = []
space_before (suc place) = codes " "
