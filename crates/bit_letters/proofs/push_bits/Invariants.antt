use Rattle.std.proofs.Common.{◌≡◌, ◌++◌, map, take}
use Rattle.bit_letters.specs.Bits.{bit_letter}
use Rattle.bit_letters.proofs.push_bits.Given as goal

abbrev pub invariant-loop-place : goal.invariant-loop-place
invariant-loop-place l = l.text ≡ l.initial.text ++ map bit_letter (take l.place l.vector)
