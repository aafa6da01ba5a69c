use Rattle.std.proofs.lemmas.Slice.Eq.{strip_prefix_is}
use Rattle.std.proofs.lemmas.Bool.Decides.{Decides-eqb}
use Rattle.byte_text.proofs.ReadLines.{text_after-is}
use Rattle.byte_text.proofs.lines.text_after.Goals as goal

pub returns : goal.returns
returns c = text_after-is c.args.word.now c.args.text.now c.strip_prefix.result (strip_prefix_is Decides-eqb c.args.text.now c.args.word.now c.strip_prefix.result c.strip_prefix.ensures.cases)
