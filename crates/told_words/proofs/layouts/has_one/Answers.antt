use Rattle.std.proofs.Common.{◌∙◌, ap, nat_lt}
use Rattle.told_words.proofs.Numbered.{counted}
use Rattle.told_words.proofs.layouts.has_one.Goals as goal

pub returns : goal.returns
returns c = ap (λ n. nat_lt 0 n) c.count.ensures ∙ counted c.args.layouts
