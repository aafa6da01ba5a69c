-- A shelf in memory as its callers see it.
use Rattle.std.specs.Prelude.{ℕ, Bool, not, ◌||◌, ◌==◌, if◌then◌else◌, List, [], unwrap_or, refl}
use Rattle.std.specs.List.{list_any}
use Rattle.std.specs.Ordering.{nat_cmp}
use Rattle.std.specs.Cmp.Lexicographic.{slice_cmp}
use Rattle.std.specs.FinMap.{FinMap, empty, get, contains_key, insert, code}
use Rattle.std.specs.Coded.{Coded, code_by, coded×, coded_ℕ, coded_list}
use Rattle.am_outside.specs.Faults.{one_more}
use Rattle.am_outside.specs.Shelf.{Files}

-- a number at each of finitely many names
abbrev pub Counts : Type 0
Counts = FinMap (slice_cmp nat_cmp) ℕ

-- what a shelf in memory holds
pub record MemoryShelfValue : Type 0 where
  pub files : Files
  -- the faults at each name that has a file
  pub own_faults : Counts
  -- the faults at the names that have none, which share this count
  pub shared_faults : ℕ
  -- reads asked for so far
  pub calls : ℕ
  -- the numbers of the reads that fail, from 1
  pub fail_list : List ℕ

-- a state is stored as the pairs of its parts
abbrev pub shelf_state_code : Coded MemoryShelfValue
shelf_state_code =
    code_by (Files × (Counts × (ℕ × (ℕ × List ℕ))))
    (coded× (code (coded_list coded_ℕ) (coded_list coded_ℕ)) (coded× (code (coded_list coded_ℕ) coded_ℕ) (coded× coded_ℕ (coded× coded_ℕ (coded_list coded_ℕ)))))
    (λ s. (s.files, (s.own_faults, (s.shared_faults, (s.calls, s.fail_list)))))
    (λ p. record { files = p.0; own_faults = p.1.0; shared_faults = p.1.1.0; calls = p.1.1.1.0; fail_list = p.1.1.1.1 })
    (λ _. refl)

-- a shelf without files
abbrev pub new_shelf : MemoryShelfValue
new_shelf = record { files = empty; own_faults = empty; shared_faults = 0; calls = 0; fail_list = [] }

-- the faults at a name
abbrev pub faults_at : MemoryShelfValue → List ℕ → ℕ
faults_at shelf name = if contains_key shelf.files name then unwrap_or (get shelf.own_faults name) 0 else shelf.shared_faults

-- the shelf with these bytes under a name, which keeps its faults
abbrev pub with_file : MemoryShelfValue → List ℕ → List ℕ → MemoryShelfValue
with_file shelf name bytes = record shelf {
  files = insert shelf.files name bytes;
  own_faults = insert shelf.own_faults name (faults_at shelf name);
}

-- whether the number of the next read is on the fail list
abbrev pub is_listed : MemoryShelfValue → Bool
is_listed shelf = list_any (λ number. number == one_more shelf.calls) shelf.fail_list

-- whether the next read of this name fails
abbrev pub next_read_fails : MemoryShelfValue → List ℕ → Bool
next_read_fails shelf name = is_listed shelf || not (contains_key shelf.files name)

-- the shelf with one fault more at a name
abbrev pub with_fault : MemoryShelfValue → List ℕ → MemoryShelfValue
with_fault shelf name =
    if contains_key shelf.files name
    then record shelf { own_faults = insert shelf.own_faults name (one_more (faults_at shelf name)) }
    else record shelf { shared_faults = one_more shelf.shared_faults }

-- the shelf with one call more
abbrev pub with_call : MemoryShelfValue → MemoryShelfValue
with_call shelf = record shelf { calls = one_more shelf.calls }

-- the shelf after a read of this name
abbrev pub after_read : MemoryShelfValue → List ℕ → MemoryShelfValue
after_read shelf name = if next_read_fails shelf name then with_fault (with_call shelf) name else with_call shelf
