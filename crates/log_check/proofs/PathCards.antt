-- Paths that agree up to a place.
use Rattle.std.proofs.Common.{◌≡◌, ◌+◌, ◌∙◌, ℕ, zero, suc, Some, List, [], ◌∷◌, ◌++◌, length, take, ap, arith}
use Rattle.std.specs.Prelude.{slice_get}

pub differ : (path : List ℕ) (card i x y : ℕ) → slice_get (path ++ card ∷ []) i ≡ Some x → slice_get path i ≡ Some y → x ≡ y
differ [] card i x y at there = absurd cc
differ (p ∷ path) card zero x y at there = cc
differ (p ∷ path) card (suc i) x y at there = differ path card i x y at there

pub split_last : (line path : List ℕ) (card n : ℕ) → n ≡ length path → length line ≡ length path + 1 → take n line ≡ take n path
    → slice_get line n ≡ Some card → line ≡ path ++ card ∷ []
split_last [] path card n is long same at = absurd cc
split_last (x ∷ []) [] card zero is long same at = let e : x ≡ card = cc in ap (λ k. k ∷ []) e
split_last (x ∷ y ∷ line) [] card zero is long same at = absurd (omega arith)
split_last (x ∷ line) [] card (suc n) is long same at = absurd (omega arith)
split_last (x ∷ line) (p ∷ path) card zero is long same at = absurd (omega arith)
split_last (x ∷ line) (p ∷ path) card (suc n) is long same at =
    let heads : x ≡ p = cc in
    let tails : take n line ≡ take n path = cc in
    let rest = split_last line path card n (omega arith) (omega arith) tails at in
    ap (λ k. k ∷ line) heads ∙ ap (λ (xs : List ℕ). p ∷ xs) rest
