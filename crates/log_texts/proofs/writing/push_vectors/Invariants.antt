use Rattle.std.proofs.Common.{◌≡◌, ◌++◌, map, take}
use Rattle.bit_letters.specs.Bits.{bit_letter}
use Rattle.log_texts.specs.LogText.{apart}
use Rattle.log_texts.proofs.writing.push_vectors.Given as goal

abbrev pub invariant-loop-place : goal.invariant-loop-place
invariant-loop-place l = l.text ≡ l.initial.text ++ apart 44 (map bit_letter) (take l.place l.vectors)
