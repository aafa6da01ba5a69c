-- A word that is made from its highest bit down.
use Rattle.std.proofs.Common.{◌≡◌, ℕ, zero, suc, ◌+◌, ◌-◌, ◌*◌, ◌^◌, ◌<◌, ◌≤◌, Bool, true, false, List, [], ◌∷◌, length, map, get_or, refl, sym, ap, ap₂, ◌∙◌, arith}
use Rattle.std.specs.Prelude.{if◌then◌else◌}
use Rattle.std.specs.List.{range_with_len}
use Rattle.bit_lists.specs.Bits.{number_of, below}
use Rattle.bit_lists.specs.Words.{word_from}

-- the number of some bits from a place on
pub tail_of : List Bool → ℕ → ℕ → ℕ → ℕ
tail_of bits start from count = number_of (map (λ place. get_or bits (start + place) false) (range_with_len from count))

-- none yet, and all 64
pub tail_none : (bits : List Bool) (start : ℕ) → 0 ≡ tail_of bits start 64 0
unfolding tail_of number_of
tail_none bits start = refl

pub tail_all : (bits : List Bool) (start : ℕ) → tail_of bits start 0 64 ≡ word_from bits start
unfolding tail_of word_from below
tail_all bits start = refl

-- one bit lower
pub tail_more : (bits : List Bool) (start from count lower : ℕ) → from ≡ lower + 1
    → tail_of bits start from count * 2 + (if get_or bits (start + lower) false then 1 else 0) ≡ tail_of bits start lower (suc count)
unfolding tail_of number_of
tail_more bits start from count lower next = rw next (omega arith)

-- a bit is at most 1
pub bit_small : (b : Bool) → (if b then 1 else 0) ≤ 1
bit_small true = omega arith
bit_small false = omega arith
