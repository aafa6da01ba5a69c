use Rattle.std.proofs.Common.{◌+◌, ◌*◌, length}
use Rattle.trick_rules.specs.Play.{cards_left}
use Rattle.plain_fronts.proofs.CardByCard.{IsFrontOver}
use Rattle.log_maker.specs.Steps.{IsSameWriter}
use Rattle.log_maker.proofs.CardsSoFar.{CardsSoFar}
use Rattle.log_maker.proofs.tree_writer.TreeWriter.+tree.Given as goal

abbrev pub decreases-write_node : goal.decreases-write_node
decreases-write_node l = 2 * cards_left l.node.now.position + 1

abbrev pub decreases-write_inner : goal.decreases-write_inner
decreases-write_inner l = 2 * cards_left l.node.now.position

abbrev pub invariant-write_inner-cards : goal.invariant-write_inner-cards
invariant-write_inner-cards l = record {
  so : CardsSoFar (IsFrontOver l.node l.left) l.node l.left l.path l.fn.self.log.now l.cards l.front l.from l.self.log.now;
  same : IsSameWriter l.fn.self l.self;
}

abbrev pub decreases-write_inner-cards : goal.decreases-write_inner-cards
decreases-write_inner-cards l = length l.cards
