-- Games with their layout files, one after another.
use Rattle.std.proofs.Common.{◌≡◌, ◌<◌, ◌+◌, ℕ, zero, suc, List, [], ◌∷◌, ◌++◌, Some, All, IsSomeAnd, length, take, get_or, slice_get, sym, subst, ap₂, arith}
use Rattle.std.specs.List.{AllZip, zip}
use Rattle.std.proofs.lemmas.List.Elements.{All-get_or}

-- what holds of all elements holds of the one at a place
pub at_place : {X : Type 0} (P : X → Type 0) (xs read : List X) (place : ℕ) (x : X) → read ≡ xs → All P xs → place < length read → x ≡ get_or read place x → P x
at_place P xs read place x same all within is = subst P (sym is) (All-get_or P read place x within (subst (All P) (sym same) all))

pair_at : {A B : Type 0} (xs : List A) (ys : List B) (place : ℕ) (x : A) (y : B) → place < length (zip xs ys) → x ≡ get_or xs place x → y ≡ get_or ys place y
    → slice_get (zip xs ys) place ≡ Some (x, y)
pair_at [] ys place x y within is here = absurd (omega (arith, within))
pair_at (a ∷ xs) [] place x y within is here = absurd (omega (arith, within))
pair_at (a ∷ xs) (b ∷ ys) zero x y within is here = ap₂ (λ p q. Some (p, q)) (sym is) (sym here)
pair_at (a ∷ xs) (b ∷ ys) (suc place) x y within is here = pair_at xs ys place x y (omega (arith, within)) is here

-- what holds of two elements at a place holds of the pair there
pub pair_holds : {A B : Type 0} (R : A × B → Type 0) (xs us : List A) (ys vs : List B) (place : ℕ) (x : A) (y : B) → us ≡ xs → vs ≡ ys → place < length (zip xs ys)
    → x ≡ get_or us place x → y ≡ get_or vs place y → R (x, y) → IsSomeAnd (slice_get (zip xs ys) place) R
pair_holds R xs us ys vs place x y same too within is here holds =
    subst (λ o. IsSomeAnd o R) (sym (pair_at xs ys place x y within (subst (λ all. x ≡ get_or all place x) same is) (subst (λ all. y ≡ get_or all place y) too here))) holds

one_more_at : {X Y : Type 0} (R : X → Y → Type 0) (xs : List X) (i : ℕ) (before : List Y) (y : Y) → AllZip R (take i xs) before → IsSomeAnd (slice_get xs i) (λ x. R x y) → AllZip R (take (suc i) xs) (before ++ y ∷ [])
one_more_at R [] zero before y all is = absurd is
one_more_at R [] (suc i) before y all is = absurd is
one_more_at R (x ∷ xs) zero [] y all is = (is, tt)
one_more_at R (x ∷ xs) zero (b ∷ before) y all is = absurd all
one_more_at R (x ∷ xs) (suc i) [] y all is = absurd all
one_more_at R (x ∷ xs) (suc i) (b ∷ before) y all is = (all.0, one_more_at R xs i before y all.1 is)

-- one element more
pub one_more : {X Y : Type 0} (R : X → Y → Type 0) (xs : List X) (i : ℕ) (before now : List Y) (y : Y) → AllZip R (take i xs) before → IsSomeAnd (slice_get xs i) (λ x. R x y) → now ≡ before ++ y ∷ [] → AllZip R (take (i + 1) xs) now
one_more R xs i before now y all is pushed =
    let next : i + 1 ≡ suc i = omega arith in
    subst (λ ys. AllZip R (take (i + 1) xs) ys) (sym pushed) (subst (λ n. AllZip R (take n xs) (before ++ y ∷ [])) (sym next) (one_more_at R xs i before y all is))
