use Rattle.std.proofs.Common.{◌≡◌, take}
use Rattle.std.specs.Prelude.{flat_map}
use Rattle.bit_lists.specs.Words.{words_of}
use Rattle.vector_words.proofs.words.front_words.Given as goal

abbrev pub invariant-loop-vector : goal.invariant-loop-vector
invariant-loop-vector l = l.words.items ≡ flat_map (words_of 4) (take l.vector-index l.front.vectors)
