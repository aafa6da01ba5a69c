-- Vectors bit by bit, and the layouts at their ones.
use Rattle.std.proofs.Common.{◌≡◌, ◌≤◌, ◌<◌, ◌⊎◌, ℕ, zero, suc, Bool, true, false, List, [], ◌∷◌, length, map, replicate, get_or, set, Contains, refl, sym, ap, true≢false, inl, inr, ⊎_elim, arith}
use Rattle.std.specs.List.{items_where_true}
use Rattle.win_vectors.specs.Vectors.{ones_of, meet_of}
use Rattle.win_vectors.specs.Fronts.{Vector, IsAtLeast, Dominates}
use Rattle.strategy_games.proofs.Lists.{Contains-here, Contains-there, Contains-nil, Contains-cons}
use Rattle.strategy_games.proofs.Vectors.{Dominates-antisym}

-- a 1 at this place
abbrev pub HasOne : Vector → ℕ → Type 0
HasOne v k = get_or v k false ≡ true

at_least : (a b : Bool) → (b ≡ true → a ≡ true) → IsAtLeast a b
at_least true b h = tt
at_least false false h = tt
at_least false true h = absurd (true≢false (sym (h refl)))

pub dominates_ones : (u v : Vector) → length u ≡ length v → ((k : ℕ) → HasOne v k → HasOne u k) → Dominates u v
dominates_ones [] [] e h = tt
dominates_ones [] (b ∷ v) e h = absurd (omega (arith, e))
dominates_ones (a ∷ u) [] e h = absurd (omega (arith, e))
dominates_ones (a ∷ u) (b ∷ v) e h = (at_least a b (h 0), dominates_ones u v (omega (arith, e)) (λ k there. h (suc k) there))

one_below : (a b : Bool) → IsAtLeast a b → b ≡ true → a ≡ true
one_below true b d e = refl
one_below false true d e = absurd d
one_below false false d e = e

pub one_at : (u v : Vector) (k : ℕ) → Dominates u v → HasOne v k → HasOne u k
one_at [] [] k d h = h
one_at [] (b ∷ v) k d h = elim d [ ]
one_at (a ∷ u) [] k d h = elim d [ ]
one_at (a ∷ u) (b ∷ v) zero d h = one_below a b d.0 h
one_at (a ∷ u) (b ∷ v) (suc k) d h = one_at u v k d.1 h

pub one_within : (v : Vector) (k : ℕ) → HasOne v k → k < length v
one_within [] k h = absurd (true≢false (sym h))
one_within (b ∷ v) zero h = omega arith
one_within (b ∷ v) (suc k) h = let later = one_within v k h in omega arith

pub some_ones : (v : Vector) (k : ℕ) → HasOne v k → 1 ≤ ones_of v
some_ones [] k h = absurd (true≢false (sym h))
some_ones (true ∷ v) k h = omega arith
some_ones (false ∷ v) zero h = absurd (true≢false (sym h))
some_ones (false ∷ v) (suc k) h = let later = some_ones v k h in omega arith

-- and some 1 is somewhere
pub some_place : (v : Vector) → 1 ≤ ones_of v → (k : ℕ) × HasOne v k
some_place [] h = absurd (omega arith)
some_place (true ∷ v) h = (0, refl)
some_place (false ∷ v) h = let later = some_place v (omega arith) in (suc later.0, later.1)

pub no_one : (n k : ℕ) → HasOne (replicate n false) k → ⊥
no_one zero k h = true≢false (sym h)
no_one (suc n) zero h = true≢false (sym h)
no_one (suc n) (suc k) h = no_one n k h

-- ---- a bit that is set

pub set_there : (v : Vector) (i : ℕ) → i < length v → HasOne (set v i true) i
set_there [] i low = absurd (omega (arith, low))
set_there (b ∷ v) zero low = refl
set_there (b ∷ v) (suc i) low = set_there v i (omega (arith, low))

pub set_keeps : (v : Vector) (i k : ℕ) → HasOne v k → HasOne (set v i true) k
set_keeps [] i k h = absurd (true≢false (sym h))
set_keeps (b ∷ v) zero zero h = refl
set_keeps (b ∷ v) zero (suc k) h = h
set_keeps (b ∷ v) (suc i) zero h = h
set_keeps (b ∷ v) (suc i) (suc k) h = set_keeps v i k h

pub set_from : (v : Vector) (i k : ℕ) → HasOne (set v i true) k → (k ≡ i) ⊎ HasOne v k
set_from [] i k h = absurd (true≢false (sym h))
set_from (b ∷ v) zero zero h = inl refl
set_from (b ∷ v) zero (suc k) h = inr h
set_from (b ∷ v) (suc i) zero h = inr h
set_from (b ∷ v) (suc i) (suc k) h = ⊎_elim (λ (e : k ≡ i). inl (ap suc e)) (λ (there : HasOne v k). inr there) (set_from v i k h)

-- ---- meets

pub meet_ones : (u v : Vector) (k : ℕ) → HasOne (meet_of u v) k → HasOne u k × HasOne v k
meet_ones [] v k h = absurd (true≢false (sym h))
meet_ones (a ∷ u) [] k h = absurd (true≢false (sym h))
meet_ones (true ∷ u) (true ∷ v) zero h = (refl, refl)
meet_ones (true ∷ u) (false ∷ v) zero h = absurd (true≢false (sym h))
meet_ones (false ∷ u) (b ∷ v) zero h = absurd (true≢false (sym h))
meet_ones (a ∷ u) (b ∷ v) (suc k) h = meet_ones u v k h

pub ones_meet : (u v : Vector) (k : ℕ) → HasOne u k → HasOne v k → HasOne (meet_of u v) k
ones_meet [] v k h l = absurd (true≢false (sym h))
ones_meet (a ∷ u) [] k h l = absurd (true≢false (sym l))
ones_meet (true ∷ u) (true ∷ v) zero h l = refl
ones_meet (true ∷ u) (false ∷ v) zero h l = absurd (true≢false (sym l))
ones_meet (false ∷ u) (b ∷ v) zero h l = absurd (true≢false (sym h))
ones_meet (a ∷ u) (b ∷ v) (suc k) h l = ones_meet u v k h l

pub length-meet : (u v : Vector) → length u ≡ length v → length (meet_of u v) ≡ length u
length-meet [] v e = refl
length-meet (a ∷ u) [] e = absurd (omega (arith, e))
length-meet (a ∷ u) (b ∷ v) e = ap suc (length-meet u v (omega (arith, e)))

-- the meet is the vector of what has both
pub is_meet : (u v w : Vector) → length u ≡ length v → length w ≡ length u → ((k : ℕ) → HasOne w k → HasOne u k × HasOne v k)
    → ((k : ℕ) → HasOne u k → HasOne v k → HasOne w k) → w ≡ meet_of u v
is_meet u v w same wide from to =
    let width = length-meet u v same in
    Dominates-antisym w (meet_of u v)
    (dominates_ones w (meet_of u v) (omega (arith, wide, width)) (λ k h. let both = meet_ones u v k h in to k both.0 both.1))
    (dominates_ones (meet_of u v) w (omega (arith, wide, width)) (λ k h. let both = from k h in ones_meet u v k both.0 both.1))

-- what lies within a vector is its meet with it
pub meet_within : (u v : Vector) → length u ≡ length v → Dominates v u → meet_of u v ≡ u
meet_within u v same d = sym (is_meet u v u same refl (λ k h. (h, one_at v u k d h)) (λ k h l. h))

-- ---- the layouts at the ones

module _ {X : Type 0} where
  pub picked_at : (v : Vector) (xs : List X) (k : ℕ) (d : X) → length v ≡ length xs → HasOne v k → Contains (items_where_true v xs) (get_or xs k d)
  picked_at [] xs k d e h = absurd (true≢false (sym h))
  picked_at (b ∷ v) [] k d e h = absurd (omega (arith, e))
  picked_at (true ∷ v) (x ∷ xs) zero d e h = Contains-here x (items_where_true v xs)
  picked_at (false ∷ v) (x ∷ xs) zero d e h = absurd (true≢false (sym h))
  picked_at (true ∷ v) (x ∷ xs) (suc k) d e h = Contains-there x (items_where_true v xs) (get_or xs k d) (picked_at v xs k d (omega (arith, e)) h)
  picked_at (false ∷ v) (x ∷ xs) (suc k) d e h = picked_at v xs k d (omega (arith, e)) h

  pub picked_from : (v : Vector) (xs : List X) (x : X) → Contains (items_where_true v xs) x → (k : ℕ) × HasOne v k × ((d : X) → get_or xs k d ≡ x)
  picked_from [] xs x h = absurd (Contains-nil x h)
  picked_from (b ∷ v) [] x h = absurd (Contains-nil x h)
  picked_from (true ∷ v) (y ∷ xs) x h = ⊎_elim
      (λ (e : y ≡ x). (0, refl, λ d. e))
      (λ (there : Contains (items_where_true v xs) x). let later = picked_from v xs x there in (suc later.0, later.1, later.2))
      (Contains-cons y (items_where_true v xs) x h)
  picked_from (false ∷ v) (y ∷ xs) x h = let later = picked_from v xs x h in (suc later.0, later.1, later.2)

  pub one_of_map : (p : X → Bool) (xs : List X) (k : ℕ) (d : X) → k < length xs → get_or (map p xs) k false ≡ p (get_or xs k d)
  one_of_map p [] k d low = absurd (omega (arith, low))
  one_of_map p (x ∷ xs) zero d low = refl
  one_of_map p (x ∷ xs) (suc k) d low = one_of_map p xs k d (omega (arith, low))
