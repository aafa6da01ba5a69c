use Rattle.std.proofs.Common.{length}
use Rattle.alphamu_core.proofs.Paid.{HasPaid}
use Rattle.assured_fronts.specs.AssuredSearches.{IsSameSearch}
use Rattle.assured_fronts.proofs.ReplyByReply.{RepliesLeft}
use Rattle.assured_fronts.proofs.search.AssuredSearch.after_each.Given as goal

abbrev pub invariant-cards : goal.invariant-cards
invariant-cards l = record {
  left : RepliesLeft l.node l.moves l.cards l.found.items;
  paid : HasPaid ⊥ l.node l.moves l.cards l.fn.self.budget.now.left l.self.budget.now.left;
  same : IsSameSearch l.fn.self l.self;
}

abbrev pub decreases-cards : goal.decreases-cards
decreases-cards l = length l.cards
