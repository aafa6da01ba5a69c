-- The first of a list that passes a test passes it, and if there is none, none passes.
use Rattle.std.proofs.Common.{◌≡◌, zero, suc, Bool, true, false, Option, Some, None, MatchOption, List, [], ◌∷◌, All, find, inl, inr, arith}
use Rattle.std.proofs.lemmas.Bool.{cases_Bool}

module _ {X : Type 0} (p : X → Bool) where
  pub passes_or_none : (xs : List X) → MatchOption (find p xs) (All (λ x. p x ≡ false) xs) (λ x. p x ≡ true)
  passes_or_none [] = λ k d low. absurd (omega arith)
  passes_or_none (x ∷ xs) =
      elim (cases_Bool (p x)) as (λ _. MatchOption (find p (x ∷ xs)) (All (λ y. p y ≡ false) (x ∷ xs)) (λ y. p y ≡ true)) [
        | inl passed ↦ rw passed passed
        | inr failed ↦ rw failed (later (find p xs) (passes_or_none xs) failed)
      ]
    where
      failing : p x ≡ false → All (λ y. p y ≡ false) xs → All (λ y. p y ≡ false) (x ∷ xs)
      failing failed rest zero d low = failed
      failing failed rest (suc k) d low = rest k d (omega arith)

      later : (found : Option X) → MatchOption found (All (λ y. p y ≡ false) xs) (λ y. p y ≡ true) → p x ≡ false → MatchOption found (All (λ y. p y ≡ false) (x ∷ xs)) (λ y. p y ≡ true)
      later None rest failed = failing failed rest
      later (Some y) rest failed = rest
