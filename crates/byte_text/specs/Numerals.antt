-- Decimal digits, and the numbers that they write.
use Rattle.std.specs.Prelude.{ℕ, Bool, false, not, ◌&&◌, ◌||◌, ◌==◌, nat_le, List, [], ◌∷◌, length, Option, None, Some, bytes_eq, if◌then◌else◌}
use Rattle.std.specs.Fmt.{decimal}
use Rattle.std.specs.Str.{all_ascii_digits}
use Rattle.std.specs.Str.Parse.{digits_value}

-- digits alone, without a zero before others
abbrev pub is_numeral : List ℕ → Bool
is_numeral [] = false
is_numeral (digit ∷ digits) = (length (digit ∷ digits) == 1 || not (digit == 48)) && all_ascii_digits (digit ∷ digits)

-- the number within its bounds that is written so in decimal, without leading zeros
unfoldable pub number_within : ℕ → ℕ → List ℕ → Option ℕ
number_within least most text =
    let number = digits_value 10 text in
    if nat_le least number && nat_le number most && bytes_eq text (decimal number) then Some number else None
