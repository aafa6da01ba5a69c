use Rattle.std.proofs.Common.{length, sym, ap, ◌∙◌}
use Rattle.sure_tricks.specs.Sure.{trumps_of}
use Rattle.sure_tricks.proofs.Looking.{no_trumps}
use Rattle.sure_nodes.proofs.look.trumps_in.Goals as goal

pub returns-in-NoTrump : goal.returns-in-NoTrump
returns-in-NoTrump c = c.count.ensures.value ∙ ap length (c.empty.ensures.value ∙ no_trumps c.args.cards ∙ sym (ap (λ t. trumps_of t c.args.cards) c.in-NoTrump.is))
