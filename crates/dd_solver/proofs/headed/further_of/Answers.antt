use Rattle.std.proofs.Common.{sym, ◌∙◌}
use Rattle.dd_solver.proofs.HeadingHand.{further_is}
use Rattle.dd_solver.proofs.headed.further_of.Goals as goal

pub returns : goal.returns
returns c = further_is c.args.trump c.args.suit c.args.own c.args.others c.of_suit-cards.result c.of_suit.result c.after_each.result c.count.result
    c.of_suit-cards.ensures.value c.of_suit.ensures.value c.after_each.ensures.value c.count.ensures.value (sym c.is_beyond_ruffs.ensures ∙ c.if-not-is_beyond_ruffs.false)
