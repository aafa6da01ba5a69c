use Rattle.std.proofs.Common.{arith}
use Rattle.win_vectors.proofs.WordBits.{IsOnesBelow-full, IsOnesBelow-none, IsOnesBelow-part}
use Rattle.win_vectors.proofs.words.ones_below.Goals as goal

pub returns-then-start-width : goal.returns-then-start-width
returns-then-start-width c = IsOnesBelow-full c.args.width c.args.start (omega arith)

pub returns-then-width-start : goal.returns-then-width-start
returns-then-width-start c = IsOnesBelow-none c.args.width c.args.start (omega arith)

pub returns-else-width-start : goal.returns-else-width-start
returns-else-width-start c = IsOnesBelow-part c.args.width c.args.start (omega arith) (omega arith)
