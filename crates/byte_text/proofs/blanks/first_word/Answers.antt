use Rattle.std.proofs.Common.{arith, not}
use Rattle.std.proofs.lemmas.List.Sums.{prefix_len-le-length}
use Rattle.byte_text.specs.Blanks.{is_blank}
use Rattle.byte_text.proofs.Words.{words_none, words_more}
use Rattle.byte_text.proofs.blanks.first_word.Goals as goal

pub returns-then-is_empty : goal.returns-then-is_empty
returns-then-is_empty c = words_none c.args.text.now c.skip_blanks-start.result.now c.skip_blanks-start.ensures (cc)

pub split_at-requires : goal.split_at-requires
split_at-requires c = omega (arith, c.word_len.ensures, prefix_len-le-length (λ b. not (is_blank b)) c.skip_blanks-start.result.now)

pub returns : goal.returns
returns c = rw (c.split_at.ensures.front, c.split_at.ensures.back) (words_more c.args.text.now c.skip_blanks-start.result.now c.word_len.result c.skip_blanks-start.ensures (cc) c.word_len.ensures)
