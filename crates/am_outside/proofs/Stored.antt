-- What the stored files of a shelf in memory are seen as, and what a change to one of them makes of it.
use Rattle.std.proofs.Common.{◌≡◌, ℕ, List, [], ◌∷◌, ◌++◌, map, get_or, set, cond, is_some, Option, Some, None, refl, sym, ap, ◌∙◌}
use Rattle.std.proofs.lemmas.List.Quantifiers.{position-Some}
use Rattle.std.proofs.lemmas.Slice.Eq.{bytes_eq-Decides}
use Rattle.std.specs.List.{position}
use Rattle.std.specs.Str.{bytes_eq}
use Rattle.std.specs.FinMap.{get, insert, from_entries}
use Rattle.am_outside.specs.declared.memory_shelf.StoredFile.{StoredFile}
use Rattle.am_outside.specs.Faults.{one_more}
use Rattle.am_outside.specs.MemoryShelf.{MemoryShelfValue, faults_at, with_file, with_fault}
use Rattle.am_outside.proofs.Places.{get-mapped, get-mapped_none, mapped-set, mapped-push, insert-present}

abbrev pub seen : List StoredFile → ℕ → ℕ → List ℕ → MemoryShelfValue
seen files shared calls fail_list = record {
  files = from_entries (map (λ f. (f.name, f.bytes)) files);
  own_faults = from_entries (map (λ f. (f.name, f.faults)) files);
  shared_faults = shared;
  calls = calls;
  fail_list = fail_list;
}

abbrev pub place_in : List StoredFile → List ℕ → Option ℕ
place_in files name = position (λ file. bytes_eq file.name name) files

if_present : {V A : Type 0} (o : Option V) (v : V) (x y : A) → o ≡ Some v → cond (is_some o) x y ≡ x
if_present o v x y there = rw there refl

module _ (files : List StoredFile) (shared calls : ℕ) (fail_list name : List ℕ) where
  faults_at-place : (i : ℕ) (d : StoredFile) → place_in files name ≡ Some i → faults_at (seen files shared calls fail_list) name ≡ (get_or files i d).faults
  faults_at-place i d at =
      rw (get-mapped (λ f. f.name) (λ f. f.bytes) files i d name at, get-mapped (λ f. f.name) (λ f. f.faults) files i d name at) refl

  pub faults_at-absent : place_in files name ≡ None → faults_at (seen files shared calls fail_list) name ≡ shared
  faults_at-absent absent = rw (get-mapped_none (λ f. f.name) (λ f. f.bytes) files name absent) refl

  same_file : (i : ℕ) (d : StoredFile) → place_in files name ≡ Some i → (get_or files i d).name ≡ name
  same_file i d at = (bytes_eq-Decides (get_or files i d).name name).0 (position-Some (λ file. bytes_eq file.name name) files i d at).1

  -- new bytes at the place of a name
  with_file-place : (i : ℕ) (d : StoredFile) (bytes : List ℕ) → place_in files name ≡ Some i
      → seen (set files i (record { name = (get_or files i d).name; bytes = bytes; faults = (get_or files i d).faults })) shared calls fail_list ≡ with_file (seen files shared calls fail_list) name bytes
  with_file-place i d bytes at =
      let new : StoredFile = record { name = (get_or files i d).name; bytes = bytes; faults = (get_or files i d).faults } in
      let same = same_file i d at in
      let contents = mapped-set (λ f. f.name) (λ f. f.bytes) files i d new name at same in
      let counts = mapped-set (λ f. f.name) (λ f. f.faults) files i d new name at same ∙ ap (insert (from_entries (map (λ f. (f.name, f.faults)) files)) name) (sym (faults_at-place i d at)) in
      λ j. record { files = contents j; own_faults = counts j; shared_faults = shared; calls = calls; fail_list = fail_list }

  -- a new name
  pub with_file-absent : (bytes : List ℕ) → place_in files name ≡ None
      → seen (files ++ (record { name = name; bytes = bytes; faults = shared }) ∷ []) shared calls fail_list ≡ with_file (seen files shared calls fail_list) name bytes
  with_file-absent bytes absent =
      let new : StoredFile = record { name = name; bytes = bytes; faults = shared } in
      let contents = mapped-push (λ f. f.name) (λ f. f.bytes) files new absent in
      let counts = mapped-push (λ f. f.name) (λ f. f.faults) files new absent ∙ ap (insert (from_entries (map (λ f. (f.name, f.faults)) files)) name) (sym (faults_at-absent absent)) in
      λ j. record { files = contents j; own_faults = counts j; shared_faults = shared; calls = calls; fail_list = fail_list }

  -- a fault at the place of a name
  with_fault-place : (i : ℕ) (d : StoredFile) → place_in files name ≡ Some i
      → seen (set files i (record { name = (get_or files i d).name; bytes = (get_or files i d).bytes; faults = one_more (get_or files i d).faults })) shared calls fail_list ≡ with_fault (seen files shared calls fail_list) name
  with_fault-place i d at =
      let new : StoredFile = record { name = (get_or files i d).name; bytes = (get_or files i d).bytes; faults = one_more (get_or files i d).faults } in
      let same = same_file i d at in
      let there = get-mapped (λ f. f.name) (λ f. f.bytes) files i d name at in
      let contents = mapped-set (λ f. f.name) (λ f. f.bytes) files i d new name at same ∙ insert-present (from_entries (map (λ f. (f.name, f.bytes)) files)) name (get_or files i d).bytes there in
      let counts = mapped-set (λ f. f.name) (λ f. f.faults) files i d new name at same ∙ ap (λ n. insert (from_entries (map (λ f. (f.name, f.faults)) files)) name (one_more n)) (sym (faults_at-place i d at)) in
      let changed : seen (set files i new) shared calls fail_list ≡ record (seen files shared calls fail_list) { own_faults = insert (from_entries (map (λ f. (f.name, f.faults)) files)) name (one_more (faults_at (seen files shared calls fail_list) name)) } =
      λ j. record { files = contents j; own_faults = counts j; shared_faults = shared; calls = calls; fail_list = fail_list } in
      changed ∙ sym (if_present (get (from_entries (map (λ f. (f.name, f.bytes)) files)) name) (get_or files i d).bytes _ _ there)

  pub with_fault-absent : place_in files name ≡ None → seen files (one_more shared) calls fail_list ≡ with_fault (seen files shared calls fail_list) name
  with_fault-absent absent = rw (get-mapped_none (λ f. f.name) (λ f. f.bytes) files name absent) refl

  -- the same, of the file that was found
  pub faults_at-present : (i : ℕ) (file : StoredFile) → place_in files name ≡ Some i → file ≡ get_or files i file → file.faults ≡ faults_at (seen files shared calls fail_list) name
  faults_at-present i file at found = ap (λ f. f.faults) found ∙ sym (faults_at-place i file at)

  pub with_file-present : (i : ℕ) (file : StoredFile) (bytes : List ℕ) → place_in files name ≡ Some i → file ≡ get_or files i file
      → seen (set files i (record { name = file.name; bytes = bytes; faults = file.faults })) shared calls fail_list ≡ with_file (seen files shared calls fail_list) name bytes
  with_file-present i file bytes at found =
      ap (λ (f : StoredFile). seen (set files i (record { name = f.name; bytes = bytes; faults = f.faults })) shared calls fail_list) found ∙ with_file-place i file bytes at

  pub with_fault-present : (i : ℕ) (file : StoredFile) → place_in files name ≡ Some i → file ≡ get_or files i file
      → seen (set files i (record { name = file.name; bytes = file.bytes; faults = one_more file.faults })) shared calls fail_list ≡ with_fault (seen files shared calls fail_list) name
  with_fault-present i file at found =
      ap (λ (f : StoredFile). seen (set files i (record { name = f.name; bytes = f.bytes; faults = one_more f.faults })) shared calls fail_list) found ∙ with_fault-place i file at

  -- the bytes of the file that was found
  pub bytes-present : (i : ℕ) (file : StoredFile) → place_in files name ≡ Some i → file ≡ get_or files i file → Some file.bytes ≡ get (seen files shared calls fail_list).files name
  bytes-present i file at found = ap (λ f. Some f.bytes) found ∙ sym (get-mapped (λ f. f.name) (λ f. f.bytes) files i file name at)

  pub bytes-absent : place_in files name ≡ None → None ≡ get (seen files shared calls fail_list).files name
  bytes-absent absent = sym (get-mapped_none (λ f. f.name) (λ f. f.bytes) files name absent)
