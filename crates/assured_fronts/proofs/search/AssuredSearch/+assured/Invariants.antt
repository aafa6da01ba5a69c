use Rattle.std.proofs.Common.{ℕ, ◌+◌, ◌*◌, length, Contains, IsTrue}
use Rattle.trick_rules.specs.Nodes.{NodeValue, child}
use Rattle.trick_rules.specs.Play.{cards_left}
use Rattle.alphamu_core.proofs.Paid.{HasPaid}
use Rattle.assured_fronts.specs.AssuredAt.{AllMade}
use Rattle.assured_fronts.specs.AssuredSearches.{IsSameSearch}
use Rattle.assured_fronts.proofs.CardByCard.{CardsLeft}
use Rattle.assured_fronts.proofs.search.AssuredSearch.+assured.Given as goal

-- what a search of a node has yet to do: its cards, and for the same cards this many calls
abbrev pub yet_to_do : NodeValue → ℕ → ℕ
yet_to_do n calls = 4 * cards_left n.position + calls

abbrev pub decreases-visit : goal.decreases-visit
decreases-visit l = yet_to_do l.node.now 3

abbrev pub decreases-in_made : goal.decreases-in_made
decreases-in_made l = yet_to_do l.node.now 2

abbrev pub decreases-recall : goal.decreases-recall
decreases-recall l = yet_to_do l.node.now 1

abbrev pub decreases-by_cards : goal.decreases-by_cards
decreases-by_cards l = yet_to_do l.node.now 0

abbrev pub invariant-by_cards-cards : goal.invariant-by_cards-cards
invariant-by_cards-cards l = record {
  left : CardsLeft l.node l.left l.cards l.front;
  heirs : IsTrue l.all_made → (card : ℕ) → Contains l.cards card → AllMade (child l.node card);
  paid : HasPaid ⊥ l.node l.left l.cards l.fn.self.budget.now.left l.self.budget.now.left;
  same : IsSameSearch l.fn.self l.self;
}

abbrev pub decreases-by_cards-cards : goal.decreases-by_cards-cards
decreases-by_cards-cards l = length l.cards
