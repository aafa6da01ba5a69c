-- What the parse of a text of digits says of the number in its range.
use Rattle.std.proofs.Common.{◌≡◌, ◌^◌, ◌<◌, ◌≤◌, ℕ, true, false, List, [], ◌∷◌, length, None, Result, Ok, Err, refl, sym, ap, arith}
use Rattle.std.specs.Prelude.{option_and_then}
use Rattle.std.specs.Result.{result_ok}
use Rattle.std.specs.Str.{all_ascii_digits}
use Rattle.std.specs.Str.Parse.{ParsesUnsigned, digits_value}
use Rattle.std.proofs.lemmas.Str.Parse.{IsNumeralModel, numerals_by_value, tells_all_ascii_digits, parse_digits}
use Rattle.std.proofs.lemmas.Bool.Decides.{nat_tests}
use Rattle.job_words.specs.Values.{in_range, number_in, number_read}

own : IsNumeralModel (λ ds. all_ascii_digits ds ≡ true) (digits_value 10)
own = numerals_by_value _ tells_all_ascii_digits

-- a text with another byte writes no number
pub no_digits : (least most : ℕ) (text : List ℕ) → all_ascii_digits text ≡ false → number_in least most text ≡ None
unfolding number_in number_read
no_digits least most [] others = refl
no_digits least most (d ∷ ds) others = rw others refl

too_large : (least most n : ℕ) → most < n → in_range least most n ≡ None
too_large least most n above = grind (arith, nat_tests)

large : (n : ℕ) (some : ℕ) → ((0 < some) × (n < 2 ^ 64) → ⊥) → 0 < some → 2 ^ 64 ≤ n
large n some not above = omega (arith, λ (h : n < 2 ^ 64). not (above, h))

-- a text of digits is read by the parse
pub parsed : (E : Type 0) (least most : ℕ) (text : List ℕ) (r : Result ℕ E) → ParsesUnsigned 64 10 text r → most < 2 ^ 64 → all_ascii_digits text ≡ true
    → number_in least most text ≡ option_and_then (in_range least most) (result_ok r)
unfolding number_in number_read
parsed E least most [] (Ok n) h fits digits =
    let is = (parse_digits own {E = E} 64 [] (Ok n) h digits).0.0 in
    absurd (omega (arith, is))
parsed E least most [] (Err e) h fits digits = refl
parsed E least most (d ∷ ds) (Ok n) h fits digits =
    let is : n ≡ digits_value 10 (d ∷ ds) = (parse_digits own {E = E} 64 (d ∷ ds) (Ok n) h digits).1 in
    rw digits (sym (ap (in_range least most) is))
parsed E least most (d ∷ ds) (Err e) h fits digits =
    let misfit = parse_digits own {E = E} 64 (d ∷ ds) (Err e) h digits in
    let big : 2 ^ 64 ≤ digits_value 10 (d ∷ ds) = large _ (length (d ∷ ds)) misfit (omega arith) in
    rw digits (too_large least most (digits_value 10 (d ∷ ds)) (omega arith))
