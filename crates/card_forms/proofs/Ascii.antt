-- The letters of vectors are ASCII.
use Rattle.std.proofs.Common.{◌<◌, Bool, true, false, List, [], ◌∷◌, map, IsAscii, IsUtf8, arith}
use Rattle.std.proofs.lemmas.Str.{IsUtf8-from_ascii}
use Rattle.std.proofs.lemmas.Str.Ascii.{IsAscii-nil, IsAscii-cons}
use Rattle.bit_letters.specs.Bits.{bit_letter}

bit_is_ascii : (bit : Bool) → bit_letter bit < 128
bit_is_ascii true = omega arith
bit_is_ascii false = omega arith

bits_are_ascii : (bits : List Bool) → IsAscii (map bit_letter bits)
bits_are_ascii [] = IsAscii-nil
bits_are_ascii (bit ∷ bits) = IsAscii-cons _ _ (bit_is_ascii bit) (bits_are_ascii bits)

pub bits_are_utf8 : (bits : List Bool) → IsUtf8 (map bit_letter bits)
bits_are_utf8 bits = IsUtf8-from_ascii _ (bits_are_ascii bits)
