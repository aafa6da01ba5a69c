-- A list of named values as a map, where the first of a name counts, and what a change at a name's first place makes of it.
use Rattle.std.proofs.Common.{◌≡◌, ℕ, zero, suc, ◌+◌, ◌<◌, Bool, true, false, not, cond, nat_lt, List, [], ◌∷◌, ◌++◌, map, length, get_or, set, Some, None, refl, sym, ap, ◌∙◌, arith}
use Rattle.std.proofs.lemmas.Bool.Decides.{nat_tests}
use Rattle.std.proofs.lemmas.Slice.Eq.{bytes_eq-Decides}
use Rattle.std.proofs.lemmas.List.{map_push}
use Rattle.std.proofs.lemmas.List.Quantifiers.{position-Some}
use Rattle.std.specs.List.{position, position_or_len}
use Rattle.std.specs.Ordering.{nat_cmp, eq_by_cmp}
use Rattle.std.proofs.lemmas.Cmp.{nat_list_cmp_total}
use Rattle.std.specs.Cmp.Lexicographic.{slice_cmp, texts_ties}
use Rattle.std.specs.Str.{bytes_eq}
use Rattle.std.specs.FinMap.{FinMap, find, get, insert, from_entries, get-from_entries, get-insert, same_map, from_entries_push, slice_cmp-IsAntisymmetric, nat_cmp-IsAntisymmetric}

-- two names tie
abbrev pub ties : List ℕ → List ℕ → Bool
ties = eq_by_cmp (slice_cmp nat_cmp)

same_name : (xs ys : List ℕ) → bytes_eq xs ys ≡ true → xs ≡ ys
same_name xs ys = (bytes_eq-Decides xs ys).0

pub same_tie : (xs ys : List ℕ) → ties xs ys ≡ true → xs ≡ ys
same_tie xs ys tie = same_name xs ys (texts_ties xs ys ∙ tie)

pub ties-self : (xs : List ℕ) → ties xs xs ≡ true
ties-self xs = sym (texts_ties xs xs) ∙ (bytes_eq-Decides xs xs).1 refl

true_or_false : {A : Type 0} (b : Bool) → b ≡ true → b ≡ false → A
true_or_false b is isnt = cc

-- a name can't tie with two that are apart
apart : (q other k : List ℕ) → bytes_eq other k ≡ false → ties q other ≡ true → ties q k ≡ true → ⊥
apart q other k differ first second =
    true_or_false (bytes_eq other k) ((bytes_eq-Decides other k).1 (sym (same_tie q other first) ∙ same_tie q k second)) differ

-- of two tests that don't both pass, either may go first
either_first : {A : Type 0} (a b : Bool) (x y z : A) → (a ≡ true → b ≡ true → ⊥) → cond a x (cond b y z) ≡ cond b y (cond a x z)
either_first true true x y z not_both = absurd (not_both refl refl)
either_first true false x y z not_both = refl
either_first false b x y z not_both = refl

-- a test that is repeated passes only once
once : {A : Type 0} (b : Bool) (x y z : A) → cond b x z ≡ cond b x (cond b y z)
once true x y z = refl
once false x y z = refl

not_tied : (b : Bool) → (b ≡ true → ⊥) → b ≡ false
not_tied true never = absurd (never refl)
not_tied false never = refl

-- a test whose two answers are one
by_tie : {A : Type 0} (b : Bool) (x y : A) → (b ≡ true → x ≡ y) → cond b x y ≡ y
by_tie true x y same = same refl
by_tie false x y same = refl

none_test : (b : Bool) (n : ℕ) → cond b (Some n) None ≡ None → b ≡ false
none_test true n none = cc
none_test false n none = refl

none_of_false : (b : Bool) (n : ℕ) → b ≡ false → cond b (Some n) None ≡ None
none_of_false b n is = rw is refl

first_place : (n : ℕ) → nat_lt 0 (suc n) ≡ false → ⊥
first_place n none = grind (arith, nat_tests)

later_place : (m n : ℕ) → nat_lt (1 + m) (suc n) ≡ false → nat_lt m n ≡ false
later_place m n none = grind (arith, nat_tests)

-- where no place passes, the first doesn't, nor any later one
none_later : (b : Bool) (m n : ℕ) → cond (nat_lt (cond (not b) (1 + m) 0) (suc n)) (Some (cond (not b) (1 + m) 0)) None ≡ None → (b ≡ false) × (cond (nat_lt m n) (Some m) None ≡ None)
none_later true m n none = absurd (first_place n (none_test (nat_lt 0 (suc n)) 0 none))
none_later false m n none = (refl, none_of_false (nat_lt m n) m (later_place m n (none_test (nat_lt (1 + m) (suc n)) (1 + m) none)))

pub ties-apart : (xs ys : List ℕ) → (xs ≡ ys → ⊥) → ties xs ys ≡ false
ties-apart xs ys differ = not_tied (ties xs ys) (λ tie. differ (same_tie xs ys tie))

module _ {X V : Type 0} (name : X → List ℕ) (value : X → V) where
  -- the named values
  abbrev pub named : List X → List (List ℕ × V)
  named xs = map (λ x. (name x, value x)) xs

  -- as a map
  abbrev pub mapped : List X → FinMap (slice_cmp nat_cmp) V
  mapped xs = from_entries (named xs)

  find_at : (xs : List X) (i : ℕ) (d : X) (k : List ℕ) → i < length xs → bytes_eq (name (get_or xs i d)) k ≡ true → ((j : ℕ) → j < i → bytes_eq (name (get_or xs j d)) k ≡ false) → find (slice_cmp nat_cmp) k (named xs) ≡ Some (value (get_or xs i d))
  find_at [] i d k short here before = absurd (omega arith)
  find_at (x ∷ xs) zero d k short here before =
      let same : ties k (name x) ≡ true = ap (ties k) (same_name (name x) k here) ∙ ties-self k in
      rw same refl
  find_at (x ∷ xs) (suc i) d k short here before =
      let other : ties k (name x) ≡ false = not_tied (ties k (name x)) (λ tie. apart k (name x) k (before 0 (omega arith)) tie (ties-self k)) in
      rw other (find_at xs i d k (omega arith) here (λ j below. before (suc j) (omega arith)))

  find_set : (xs : List X) (i : ℕ) (d y : X) (k q : List ℕ) → i < length xs → bytes_eq (name (get_or xs i d)) k ≡ true → ((j : ℕ) → j < i → bytes_eq (name (get_or xs j d)) k ≡ false) → name y ≡ k → find (slice_cmp nat_cmp) q (named (set xs i y)) ≡ cond (ties q k) (Some (value y)) (find (slice_cmp nat_cmp) q (named xs))
  find_set [] i d y k q short here before named_k = absurd (omega arith)
  find_set (x ∷ xs) zero d y k q short here before named_k =
      let same : name x ≡ k = same_name (name x) k here in
      rw (named_k, same) (once (ties q k) (Some (value y)) (Some (value x)) (find (slice_cmp nat_cmp) q (named xs)))
  find_set (x ∷ xs) (suc i) d y k q short here before named_k =
      ap (cond (ties q (name x)) (Some (value x))) (find_set xs i d y k q (omega arith) here (λ j below. before (suc j) (omega arith)) named_k)
      ∙ either_first (ties q (name x)) (ties q k) (Some (value x)) (Some (value y)) (find (slice_cmp nat_cmp) q (named xs)) (apart q (name x) k (before 0 (omega arith)))

  -- the value at the first place of a name is the map's
  pub get-mapped : (xs : List X) (i : ℕ) (d : X) (k : List ℕ) → position (λ x. bytes_eq (name x) k) xs ≡ Some i → get (mapped xs) k ≡ Some (value (get_or xs i d))
  get-mapped xs i d k at =
      let first = position-Some (λ x. bytes_eq (name x) k) xs i d at in
      get-from_entries nat_list_cmp_total (named xs) k ∙ find_at xs i d k first.0 first.1 first.2

  -- a change at the first place of a name is one of the map at that name
  pub mapped-set : (xs : List X) (i : ℕ) (d y : X) (k : List ℕ) → position (λ x. bytes_eq (name x) k) xs ≡ Some i → name y ≡ k → mapped (set xs i y) ≡ insert (mapped xs) k (value y)
  mapped-set xs i d y k at named_k =
      let first = position-Some (λ x. bytes_eq (name x) k) xs i d at in
      same_map nat_list_cmp_total (slice_cmp-IsAntisymmetric nat_cmp-IsAntisymmetric) _ _
      (λ q. get-from_entries nat_list_cmp_total (named (set xs i y)) q
      ∙ find_set xs i d y k q first.0 first.1 first.2 named_k
      ∙ ap (cond (ties q k) (Some (value y))) (sym (get-from_entries nat_list_cmp_total (named xs) q))
      ∙ sym (get-insert nat_list_cmp_total (mapped xs) k (value y) q))

  find_none : (xs : List X) (k : List ℕ) → position (λ x. bytes_eq (name x) k) xs ≡ None → find (slice_cmp nat_cmp) k (named xs) ≡ None
  find_none [] k none = refl
  find_none (x ∷ xs) k none =
      let later = none_later (bytes_eq (name x) k) (position_or_len (λ x. bytes_eq (name x) k) xs) (length xs) none in
      let other : ties k (name x) ≡ false = not_tied (ties k (name x)) (λ tie. apart k (name x) k later.0 tie (ties-self k)) in
      rw other (find_none xs k later.1)

  -- a name without a place is not in the map
  pub get-mapped_none : (xs : List X) (k : List ℕ) → position (λ x. bytes_eq (name x) k) xs ≡ None → get (mapped xs) k ≡ None
  get-mapped_none xs k none = get-from_entries nat_list_cmp_total (named xs) k ∙ find_none xs k none

  -- a new name is added at the end
  pub mapped-push : (xs : List X) (y : X) → position (λ x. bytes_eq (name x) (name y)) xs ≡ None → mapped (xs ++ y ∷ []) ≡ insert (mapped xs) (name y) (value y)
  mapped-push xs y none =
      ap from_entries (map_push (λ x. (name x, value x)) xs y)
      ∙ from_entries_push nat_list_cmp_total (slice_cmp-IsAntisymmetric nat_cmp-IsAntisymmetric) (named xs) (name y) (value y) (find_none xs (name y) none)

-- to insert what is there changes nothing
pub insert-present : {V : Type 0} (m : FinMap (slice_cmp nat_cmp) V) (k : List ℕ) (v : V) → get m k ≡ Some v → insert m k v ≡ m
insert-present m k v there =
    same_map nat_list_cmp_total (slice_cmp-IsAntisymmetric nat_cmp-IsAntisymmetric) _ _
    (λ q. get-insert nat_list_cmp_total m k v q ∙ by_tie (ties q k) (Some v) (get m q) (λ tie. sym there ∙ ap (get m) (sym (same_tie q k tie))))
