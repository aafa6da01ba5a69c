use Rattle.std.proofs.Common.{refl}
use Rattle.bit_lists.specs.Bits.{below}
use Rattle.bit_lists.specs.Words.{words_of}
use Rattle.vector_words.proofs.words.words_of.Goals as goal

pub returns : goal.returns
unfolding words_of below
returns c = rw (c.word_from.ensures, c.word_from-2.ensures, c.word_from-3.ensures, c.word_from-4.ensures) refl
