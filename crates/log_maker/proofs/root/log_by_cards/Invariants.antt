use Rattle.std.proofs.Common.{length}
use Rattle.log_maker.proofs.RootLogs.{RootSoFar}
use Rattle.log_maker.proofs.root.log_by_cards.Given as goal

abbrev pub invariant-cards : goal.invariant-cards
invariant-cards l = RootSoFar l.node l.moves l.nodes l.cards l.front l.from l.log

abbrev pub decreases-cards : goal.decreases-cards
decreases-cards l = length l.cards
