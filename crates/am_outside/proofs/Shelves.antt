-- What a read makes of the counts of faults at all names.
use Rattle.std.proofs.Common.{◌≡◌, ◌≢◌, ℕ, ◌≤◌, Bool, true, false, cond, List, Option, Some, unwrap_or, IsSome, refl, sym, ap, ◌∙◌, arith}
use Rattle.std.proofs.lemmas.Cmp.{nat_list_cmp_total}
use Rattle.std.specs.FinMap.{get, contains_key, get-insert}
use Rattle.am_outside.specs.Faults.{Rose, one_more}
use Rattle.am_outside.specs.MemoryShelf.{MemoryShelfValue, faults_at, next_read_fails, with_fault, with_call, after_read}
use Rattle.am_outside.proofs.Rises.{one_more-rises, one_more-no_fall}
use Rattle.am_outside.proofs.Places.{ties, ties-self, ties-apart, same_tie}

same_count : (count : ℕ) → count ≤ count
same_count count = omega arith

-- the faults at a name, from whether it has a file, its own count and the shared one
abbrev faults_of : Bool → Option ℕ → ℕ → ℕ
faults_of has own shared = cond has (unwrap_or own 0) shared

-- and after a fault at a name that has a file or not, and is this one or another
abbrev faults_then : (has_name has_other tie : Bool) (name_own other_own : Option ℕ) → ℕ → ℕ
faults_then has_name has_other tie name_own other_own shared =
    cond has_name (faults_of has_other (cond tie (Some (one_more (faults_of has_name name_own shared))) other_own) shared) (faults_of has_other other_own (one_more shared))

at_if : (b : Bool) (x y : MemoryShelfValue) (other : List ℕ) → faults_at (cond b x y) other ≡ cond b (faults_at x other) (faults_at y other)
at_if true x y other = refl
at_if false x y other = refl

faults_at-with_fault : (shelf : MemoryShelfValue) (name other : List ℕ) → faults_at (with_fault shelf name) other
    ≡ faults_then (contains_key shelf.files name) (contains_key shelf.files other) (ties other name) (get shelf.own_faults name) (get shelf.own_faults other) shelf.shared_faults
faults_at-with_fault shelf name other =
    at_if (contains_key shelf.files name) _ _ other
    ∙ ap (λ own. cond (contains_key shelf.files name) (faults_of (contains_key shelf.files other) own shelf.shared_faults) (faults_of (contains_key shelf.files other) (get shelf.own_faults other) (one_more shelf.shared_faults)))
    (get-insert nat_list_cmp_total shelf.own_faults name (one_more (faults_at shelf name)) other)

then_rises : (has : Bool) (own : Option ℕ) (shared : ℕ) → Rose (faults_of has own shared) (faults_then has has true own own shared)
then_rises true own shared = one_more-rises (unwrap_or own 0)
then_rises false own shared = one_more-rises shared

then_no_fall : (has_name has_other tie : Bool) (name_own other_own : Option ℕ) (shared : ℕ) → (tie ≡ true → name_own ≡ other_own)
    → faults_of has_other other_own shared ≤ faults_then has_name has_other tie name_own other_own shared
then_no_fall true true true name_own other_own shared same = rw (← same refl) (one_more-no_fall (unwrap_or name_own 0))
then_no_fall true true false name_own other_own shared same = same_count (unwrap_or other_own 0)
then_no_fall true false tie name_own other_own shared same = same_count shared
then_no_fall false true tie name_own other_own shared same = same_count (unwrap_or other_own 0)
then_no_fall false false tie name_own other_own shared same = one_more-no_fall shared

then_same : (has_name has_other tie : Bool) (name_own other_own : Option ℕ) (shared : ℕ) → has_other ≡ true → tie ≡ false
    → faults_then has_name has_other tie name_own other_own shared ≡ faults_of has_other other_own shared
then_same true has_other tie name_own other_own shared there apart = rw apart refl
then_same false has_other tie name_own other_own shared there apart = rw there refl

-- the count at a name rises by a fault there
with_fault-rises : (shelf : MemoryShelfValue) (name : List ℕ) → Rose (faults_at shelf name) (faults_at (with_fault shelf name) name)
with_fault-rises shelf name = rw (faults_at-with_fault shelf name name, ties-self name) (then_rises (contains_key shelf.files name) (get shelf.own_faults name) shelf.shared_faults)

-- no count falls
with_fault-no_fall : (shelf : MemoryShelfValue) (name other : List ℕ) → faults_at shelf other ≤ faults_at (with_fault shelf name) other
with_fault-no_fall shelf name other =
    rw (faults_at-with_fault shelf name other)
    (then_no_fall (contains_key shelf.files name) (contains_key shelf.files other) (ties other name) (get shelf.own_faults name) (get shelf.own_faults other) shelf.shared_faults
    (λ tie. ap (get shelf.own_faults) (sym (same_tie other name tie))))

-- the count at another name that has a file stays
with_fault-others : (shelf : MemoryShelfValue) (name other : List ℕ) → IsSome (get shelf.files other) → other ≢ name → faults_at (with_fault shelf name) other ≡ faults_at shelf other
with_fault-others shelf name other there apart =
    faults_at-with_fault shelf name other
    ∙ then_same (contains_key shelf.files name) (contains_key shelf.files other) (ties other name) (get shelf.own_faults name) (get shelf.own_faults other) shelf.shared_faults there (ties-apart other name apart)

-- a read that fails raises the count at its name
pub after_read-rises : (shelf : MemoryShelfValue) (name : List ℕ) → next_read_fails shelf name ≡ true → Rose (faults_at shelf name) (faults_at (after_read shelf name) name)
after_read-rises shelf name fails = rw fails (with_fault-rises (with_call shelf) name)

no_fall_if : (b : Bool) (x y : MemoryShelfValue) (other : List ℕ) (before : ℕ) → before ≤ faults_at x other → before ≤ faults_at y other → before ≤ faults_at (cond b x y) other
no_fall_if true x y other before then else = then
no_fall_if false x y other before then else = else

-- a read lowers no count
pub after_read-no_fall : (shelf : MemoryShelfValue) (name other : List ℕ) → faults_at shelf other ≤ faults_at (after_read shelf name) other
after_read-no_fall shelf name other =
    no_fall_if (next_read_fails shelf name) (with_fault (with_call shelf) name) (with_call shelf) other (faults_at shelf other) (with_fault-no_fall (with_call shelf) name other) (same_count (faults_at shelf other))

same_if : (b : Bool) (x y : MemoryShelfValue) (other : List ℕ) (before : ℕ) → faults_at x other ≡ before → faults_at y other ≡ before → faults_at (cond b x y) other ≡ before
same_if true x y other before then else = then
same_if false x y other before then else = else

-- a read keeps the count at each other name that has a file
pub after_read-others : (shelf : MemoryShelfValue) (name other : List ℕ) → IsSome (get shelf.files other) → other ≢ name → faults_at (after_read shelf name) other ≡ faults_at shelf other
after_read-others shelf name other there apart =
    same_if (next_read_fails shelf name) (with_fault (with_call shelf) name) (with_call shelf) other (faults_at shelf other) (with_fault-others (with_call shelf) name other there apart) refl
