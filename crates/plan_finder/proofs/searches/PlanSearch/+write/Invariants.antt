use Rattle.std.proofs.Common.{◌+◌, ◌*◌, length, IfSome}
use Rattle.trick_rules.specs.Play.{cards_left}
use Rattle.alphamu_core.specs.Costs.{IsWithin}
use Rattle.plan_finder.specs.PlanSearches.{IsSameSearch}
use Rattle.plan_finder.specs.Written.{AreRepliesWritten}
use Rattle.plan_finder.proofs.searches.PlanSearch.+write.Given as goal

-- each card is one fewer to play
abbrev pub decreases-write_play : goal.decreases-write_play
decreases-write_play g l = 3 * cards_left l.node.now.position

abbrev pub decreases-write_remembered : goal.decreases-write_remembered
decreases-write_remembered g l = 3 * cards_left l.node.now.position + 1

abbrev pub decreases-write_below : goal.decreases-write_below
decreases-write_below g l = 3 * cards_left l.node.now.position + 2

abbrev pub decreases-write_replies : goal.decreases-write_replies
decreases-write_replies g l = 3 * cards_left l.node.now.position + 1

abbrev pub invariant-write_replies-cards : goal.invariant-write_replies-cards
invariant-write_replies-cards g l = record {
  written : AreRepliesWritten l.node l.moves l.vector l.cards l.fn.out l.out;
  same : IsSameSearch g.S.FrontStore.grown l.fn.self l.self;
  most : IfSome l.most (IsWithin l.fn.self.nodes);
}

abbrev pub decreases-write_replies-cards : goal.decreases-write_replies-cards
decreases-write_replies-cards g l = length l.cards
