-- The vectors one after another, up to the first of another width.
use Rattle.std.proofs.Common.{◌≡◌, ◌<◌, ◌≤◌, ◌+◌, ◌==◌, ℕ, true, false, None, Some, List, ◌∷◌, length, drop, slice_index_or, if◌then◌else◌, refl, sym, ap, ◌∙◌, arith}
use Rattle.std.proofs.lemmas.Bool.Decides.{nat_tests}
use Rattle.std.proofs.lemmas.List.{drop_more}
use Rattle.std.proofs.Math.ListN.{drop_of_length-le}
use Rattle.win_vectors.specs.Fronts.{Vector}
use Rattle.am_answer.specs.Auditing.{first_other_width}

module _ (width : ℕ) (vectors : List Vector) where
  module _ (index : ℕ) (vector : Vector) (low : index < length vectors) (is : vector ≡ slice_index_or vectors index vector) where
    width_at : first_other_width width (1 + index) (drop index vectors)
        ≡ (if length vector == width then first_other_width width (1 + index + 1) (drop (index + 1) vectors) else Some (1 + index))
    width_at = ap (first_other_width width (1 + index)) (drop_more vectors index vector low ∙ ap (λ v. v ∷ drop (index + 1) vectors) (sym is))

    pub width_found : (length vector ≡ width → ⊥) → first_other_width width (1 + index) (drop index vectors) ≡ Some (index + 1)
    width_found other =
        let differs : (length vector == width) ≡ false = grind (arith, nat_tests, other) in
        let number : 1 + index ≡ index + 1 = omega arith in
        width_at ∙ rw (differs, number) refl

    pub width_later : length vector ≡ width → first_other_width width (1 + index) (drop index vectors) ≡ first_other_width width (1 + (index + 1)) (drop (index + 1) vectors)
    width_later wide =
        let same : (length vector == width) ≡ true = grind (arith, nat_tests, wide) in
        let number : 1 + index + 1 ≡ 1 + (index + 1) = omega arith in
        width_at ∙ rw (same, number) refl

  -- past the last vector
  pub width_end : (index : ℕ) → length vectors ≤ index → first_other_width width (1 + index) (drop index vectors) ≡ None
  width_end index past = ap (first_other_width width (1 + index)) (drop_of_length-le vectors past)
