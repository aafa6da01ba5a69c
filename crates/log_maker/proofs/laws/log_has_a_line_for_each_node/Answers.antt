use Rattle.std.proofs.Common.{[]}
use Rattle.log_maker.proofs.LogSizes.{lines-counted}
use Rattle.log_maker.proofs.laws.log_has_a_line_for_each_node.Goals as goal

pub returns : goal.returns
returns c n moves lines sound log = lines-counted n moves [] 0 lines log sound
