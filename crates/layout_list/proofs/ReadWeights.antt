-- The weight at the front of a line.
use Rattle.std.proofs.Common.{◌≡◌, ℕ, ◌<◌, Bool, true, false, None, List, [], ◌∷◌, take, refl, sym, subst, arith}
use Rattle.std.specs.Char.{is_ascii_digit}
use Rattle.std.specs.List.{position_or_len}
use Rattle.std.specs.Str.{all_ascii_digits}
use Rattle.std.specs.Str.Parse.{digits_value}
use Rattle.std.proofs.lemmas.Bool.Decides.{nat_tests}
use Rattle.byte_text.proofs.Places.{position_or_len-cons}
use Rattle.layout_list.specs.Lines.{ends_digits, weight_said}

-- ---- digits at the front

digits_more : (c : ℕ) (cs : List ℕ) (b : Bool) → is_ascii_digit c ≡ b → all_ascii_digits (take (position_or_len ends_digits cs) cs) ≡ true → all_ascii_digits (take (position_or_len ends_digits (c ∷ cs)) (c ∷ cs)) ≡ true
digits_more c cs true digit rest =
    let passes : ends_digits c ≡ false = rw digit refl in
    subst (λ (n : ℕ). all_ascii_digits (take n (c ∷ cs)) ≡ true) (sym (position_or_len-cons ends_digits c cs passes)) (rw digit rest)
digits_more c cs false digit rest = rw digit refl

pub digits_at_front : (text : List ℕ) → all_ascii_digits (take (position_or_len ends_digits text) text) ≡ true
digits_at_front [] = refl
digits_at_front (c ∷ cs) = digits_more c cs (is_ascii_digit c) refl (digits_at_front cs)

-- ---- what digits say

pub weight_said-beyond : (digits : List ℕ) → 1000000 < digits_value 10 digits → weight_said digits ≡ None
weight_said-beyond digits more = grind (arith, nat_tests)
