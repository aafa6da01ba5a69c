-- The end of a text's first part.
use Rattle.std.proofs.Common.{◌≡◌, ◌≤◌, ◌∙◌, ℕ, Bool, not, cond, ltb, List, length, Option, Some, None, unwrap_or, arith}
use Rattle.std.specs.List.{position_or_len}
use Rattle.std.proofs.lemmas.List.Sums.{prefix_len-le-length}
use Rattle.byte_text.proofs.Places.{end_from_position}

-- it is within the text
pub end_within : (p : ℕ → Bool) (text : List ℕ) (found : Option ℕ) (len : ℕ) → len ≡ unwrap_or found (length text)
    → found ≡ cond (ltb (position_or_len p text) (length text)) (Some (position_or_len p text)) None → (len ≡ position_or_len p text) × (len ≤ length text)
end_within p text found len is at =
    let place = is ∙ end_from_position p text found at in
    (place, omega (arith, place, prefix_len-le-length (λ x. not (p x)) text))
