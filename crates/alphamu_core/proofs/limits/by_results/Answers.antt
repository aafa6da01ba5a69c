use Rattle.std.proofs.Common.{arith}
use Rattle.alphamu_core.proofs.MadeLayouts.{front_few}
use Rattle.alphamu_core.proofs.limits.by_results.Goals as goal

pub returns-then-count-lt2 : goal.returns-then-count-lt2
returns-then-count-lt2 c = λ alpha rules cuts.
    front_few c.args.node.now c.requires.a_node c.args.made c.requires.results c.in_ok-single.field-0 c.args.moves c.in_ok-single.ensures.vectors c.in_ok-single.ensures.width (omega (arith, c.count.ensures, c.if-count-lt2.true))

pub returns : goal.returns
returns c = λ alpha rules cuts. (record { results = c.requires.results; some = omega (arith, c.count.ensures, c.if-count-lt2.false); bound = c.requires.upper }, cuts)
