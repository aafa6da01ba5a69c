-- Files by their names.
use Rattle.std.specs.Prelude.{◌≡◌, ◌≢◌, ℕ, ◌<◌, Bool, true, false, List, length, Result, Err, IsSomeAnd, IsSome}
use Rattle.std.specs.Ordering.{nat_cmp}
use Rattle.std.specs.Cmp.Lexicographic.{slice_cmp}
use Rattle.std.specs.FinMap.{FinMap, get}
use Rattle.am_outside.specs.declared.shelf.ShelfFault.{ShelfFault}
use Rattle.am_outside.specs.declared.shelf.ShelfFault.TheVariants.{Failed}

-- finitely many files, each the list of its bytes under the bytes of its name
abbrev pub Files : Type 0
Files = FinMap (slice_cmp nat_cmp) (List ℕ)

-- there is a file of that name, and it has more bytes than the limit
abbrev pub IsLonger : Files → List ℕ → ℕ → Type 0
IsLonger files name limit = IsSomeAnd (get files name) (λ bytes. limit < length bytes)

-- each name that has a file, except for this one, has the count that it had
abbrev pub KeepsOthers : Files → List ℕ → (List ℕ → ℕ) → (List ℕ → ℕ) → Type 0
KeepsOthers files name before now = (other : List ℕ) → IsSome (get files other) → other ≢ name → now other ≡ before other

-- whether a read answered that it failed
abbrev pub has_failed : Result (List ℕ) ShelfFault → Bool
has_failed (Err Failed) = true
has_failed _ = false
