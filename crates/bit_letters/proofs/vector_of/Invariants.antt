use Rattle.std.proofs.Common.{◌≡◌, ◌-◌, ◌++◌, false, length, map, take}
use Rattle.std.specs.Prelude.{replicate}
use Rattle.bit_letters.specs.Bits.{is_one}
use Rattle.bit_letters.proofs.vector_of.Given as goal

abbrev pub invariant-loop-place : goal.invariant-loop-place
invariant-loop-place l = record {
  wide : length l.vector ≡ length l.text;
  bits : l.vector ≡ map is_one (take l.place l.text) ++ replicate (length l.text - l.place) false;
}
