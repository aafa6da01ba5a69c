-- The bits of a vector as letters.
use Rattle.std.specs.Prelude.{ℕ, Bool, ◌||◌, ◌==◌, if◌then◌else◌}

-- 1 if the contract is made, and 0 if it isn't
abbrev pub bit_letter : Bool → ℕ
bit_letter bit = if bit then 49 else 48

-- a byte that is 0 or 1
abbrev pub is_bit : ℕ → Bool
is_bit byte = byte == 48 || byte == 49

-- a byte that is 1
abbrev pub is_one : ℕ → Bool
is_one byte = byte == 49
