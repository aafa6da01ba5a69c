use Rattle.suit_problem.proofs.Lists.{dropped_more}
use Rattle.suit_problem.proofs.reading.above_lowest.Goals as goal

pub loop-preserved : goal.loop-preserved
loop-preserved c =
    dropped_more c.pop_first.result c.loop.rest c.pop_first.new.self c.args.cards c.loop.counter c.pop_first.ensures.value c.loop.invariant
