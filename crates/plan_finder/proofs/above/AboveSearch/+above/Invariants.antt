use Rattle.std.proofs.Common.{◌+◌, ◌-◌, ◌*◌, length}
use Rattle.trick_rules.specs.Play.{cards_left}
use Rattle.alphamu_core.proofs.Paid.{HasPaid}
use Rattle.plan_finder.specs.AboveSearches.{IsSameAbove}
use Rattle.plan_finder.proofs.AboveSoFar.{OursAbove, TheirsAbove}
use Rattle.plan_finder.proofs.above.AboveSearch.+above.Given as goal

-- each card is one fewer to play
abbrev pub decreases-visit : goal.decreases-visit
decreases-visit g l = 4 * cards_left l.node.position + 3

abbrev pub decreases-find : goal.decreases-find
decreases-find g l = 4 * cards_left l.node.now.position + 2

abbrev pub decreases-open : goal.decreases-open
decreases-open g l = 4 * cards_left l.node.now.position + 1

abbrev pub decreases-at_declarer : goal.decreases-at_declarer
decreases-at_declarer g l = 4 * cards_left l.node.now.position

abbrev pub decreases-at_defender : goal.decreases-at_defender
decreases-at_defender g l = 4 * cards_left l.node.now.position

abbrev pub invariant-at_declarer-cards : goal.invariant-at_declarer-cards
invariant-at_declarer-cards g l = record {
  so : OursAbove l.node (l.moves - 1) l.target l.cards l.front;
  paid : HasPaid ⊥ l.node (l.moves - 1) l.cards l.fn.self.budget.now.left l.self.budget.now.left;
  same : IsSameAbove g.S.FrontStore.grown l.fn.self l.self;
}

abbrev pub decreases-at_declarer-cards : goal.decreases-at_declarer-cards
decreases-at_declarer-cards g l = length l.cards

abbrev pub invariant-at_defender-cards : goal.invariant-at_defender-cards
invariant-at_defender-cards g l = record {
  so : TheirsAbove l.node l.moves l.target l.cards l.joiner;
  paid : HasPaid ⊥ l.node l.moves l.cards l.fn.self.budget.now.left l.self.budget.now.left;
  same : IsSameAbove g.S.FrontStore.grown l.fn.self l.self;
}

abbrev pub decreases-at_defender-cards : goal.decreases-at_defender-cards
decreases-at_defender-cards g l = length l.cards
