use Rattle.std.proofs.Common.{◌+◌, ◌-◌, ◌*◌, ℕ, length, Contains}
use Rattle.trick_rules.specs.Play.{cards_left}
use Rattle.trick_rules.specs.Nodes.{child}
use Rattle.alphamu_core.specs.Costs.{EntersEach}
use Rattle.alphamu_core.specs.Judging.{IsKnown}
use Rattle.alphamu_core.specs.TreeSearches.{IsSameSearch}
use Rattle.alphamu_core.proofs.Paid.{HasPaid}
use Rattle.alphamu_core.proofs.OursSoFar.{OursSoFar}
use Rattle.alphamu_core.proofs.TheirsSoFar.{TheirsSoFar}
use Rattle.alphamu_core.proofs.tree_search.TreeSearch.+walk.Given as goal

-- each card is one fewer to play
abbrev pub decreases-visit : goal.decreases-visit
decreases-visit g l = 5 * cards_left l.node.position + 4

abbrev pub decreases-open : goal.decreases-open
decreases-open g l = 5 * cards_left l.question.now.node.now.position + 3

abbrev pub decreases-in_made : goal.decreases-in_made
decreases-in_made g l = 5 * cards_left l.question.now.node.now.position + 2

abbrev pub decreases-by_cards : goal.decreases-by_cards
decreases-by_cards g l = 5 * cards_left l.question.now.node.now.position + 1

abbrev pub decreases-at_declarer : goal.decreases-at_declarer
decreases-at_declarer g l = 5 * cards_left l.question.now.node.now.position

abbrev pub decreases-at_defender : goal.decreases-at_defender
decreases-at_defender g l = 5 * cards_left l.question.now.node.now.position

abbrev pub invariant-at_declarer-cards : goal.invariant-at_declarer-cards
invariant-at_declarer-cards g l = record {
  so : OursSoFar l.question.node.now (l.moves - 1) l.cards l.front;
  heirs : (card : ℕ) → Contains l.cards card → IsKnown (child l.question.node.now card) l.known;
  paid : HasPaid (EntersEach l.fn.self.rules g.S.FrontStore.blind) l.question.node.now (l.moves - 1) l.cards l.fn.self.budget.now.left l.self.budget.now.left;
  same : IsSameSearch g.S.FrontStore.grown l.fn.self l.self;
}

abbrev pub decreases-at_declarer-cards : goal.decreases-at_declarer-cards
decreases-at_declarer-cards g l = length l.cards

abbrev pub invariant-at_defender-cards : goal.invariant-at_defender-cards
invariant-at_defender-cards g l = record {
  so : TheirsSoFar l.question.node.now l.moves l.cards l.joiner;
  paid : HasPaid (EntersEach l.fn.self.rules g.S.FrontStore.blind) l.question.node.now l.moves l.cards l.fn.self.budget.now.left l.self.budget.now.left;
  same : IsSameSearch g.S.FrontStore.grown l.fn.self l.self;
}

abbrev pub decreases-at_defender-cards : goal.decreases-at_defender-cards
decreases-at_defender-cards g l = length l.cards
