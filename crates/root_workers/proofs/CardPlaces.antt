-- Root cards by their places.
use Rattle.std.proofs.Common.{◌≡◌, ℕ, zero, suc, ◌+◌, ◌-◌, ◌≤◌, Some, List, [], ◌∷◌, ◌++◌, take, drop, slice_get, Contains, refl, sym, subst, arith}
use Rattle.std.proofs.Math.Seq.{take-add}
use Rattle.std.proofs.lemmas.Option.{slice_get_within}
use Rattle.win_vectors.specs.Fronts.{Vector}
use Rattle.strategy_games.proofs.Lists.{Contains-here, Contains-nil, Contains-there, Contains-append_first}
use Rattle.root_workers.specs.declared.rounds.Round.{Round}
use Rattle.root_workers.specs.Rounds.{AreWonAfter}

pub drop_first : (xs : List ℕ) (i x : ℕ) (rest : List ℕ) → drop i xs ≡ x ∷ rest → slice_get xs i ≡ Some x
drop_first [] zero x rest e = absurd (let no : [] ≡ x ∷ rest = e in cc)
drop_first [] (suc i) x rest e = absurd (let no : [] ≡ x ∷ rest = e in cc)
drop_first (y ∷ ys) zero x rest e = let same : y ∷ ys ≡ x ∷ rest = e in let head : y ≡ x = cc in subst (λ z. Some y ≡ Some z) head refl
drop_first (y ∷ ys) (suc i) x rest e = drop_first ys i x rest e

drop_suc : (xs : List ℕ) (i x : ℕ) (rest : List ℕ) → drop i xs ≡ x ∷ rest → drop (suc i) xs ≡ rest
drop_suc [] zero x rest e = absurd (let no : [] ≡ x ∷ rest = e in cc)
drop_suc [] (suc i) x rest e = absurd (let no : [] ≡ x ∷ rest = e in cc)
drop_suc (y ∷ ys) zero x rest e = let same : y ∷ ys ≡ x ∷ rest = e in let tail : ys ≡ rest = cc in tail
drop_suc (y ∷ ys) (suc i) x rest e = drop_suc ys i x rest e

pub drop_rest : (xs : List ℕ) (i x : ℕ) (rest : List ℕ) → drop i xs ≡ x ∷ rest → rest ≡ drop (i + 1) xs
drop_rest xs i x rest e = let same : suc i ≡ i + 1 = omega arith in subst (λ k. rest ≡ drop k xs) same (sym (drop_suc xs i x rest e))

pub get_in : (xs : List ℕ) (i x : ℕ) → slice_get xs i ≡ Some x → Contains xs x
get_in [] i x e = absurd (let within = slice_get_within [] i x e in omega arith)
get_in (y ∷ ys) zero x e = let same : Some y ≡ Some x = e in let head : y ≡ x = cc in subst (λ z. Contains (y ∷ ys) z) head (Contains-here y ys)
get_in (y ∷ ys) (suc i) x e = Contains-there y ys x (get_in ys i x e)

pub taken_more : (xs : List ℕ) (i k x : ℕ) → Contains (take i xs) x → i ≤ k → Contains (take k xs) x
taken_more xs i k x inside fewer =
    let same : i + (k - i) ≡ k = omega arith in
    let whole : take (i + (k - i)) xs ≡ take i xs ++ take (k - i) (drop i xs) = take-add i (k - i) xs in
    subst (λ j. Contains (take j xs) x) same (subst (λ ys. Contains ys x) (sym whole) (Contains-append_first (take i xs) (take (k - i) (drop i xs)) x inside))

-- nothing is won yet
pub none_won : (r : Round) (cards : List ℕ) (vectors : List Vector) → vectors ≡ [] → AreWonAfter r cards vectors
none_won r cards vectors empty v inside = absurd (Contains-nil v (subst (λ (vs : List Vector). Contains vs v) empty inside))
