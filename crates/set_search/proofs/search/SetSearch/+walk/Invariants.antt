use Rattle.std.proofs.Common.{◌≡◌, ◌≤◌, ◌+◌, ◌-◌, ◌*◌, ℕ, List, length}
use Rattle.trick_rules.specs.Positions.{PositionValue}
use Rattle.trick_rules.specs.Play.{cards_left}
use Rattle.set_search.specs.LeftOut.{AreEnough}
use Rattle.set_search.proofs.OurCards.{IsCoreSoFar}
use Rattle.set_search.proofs.Replies.{AreWonSoFar}
use Rattle.set_search.proofs.search.SetSearch.+walk.Given as goal

-- what a search of a position has yet to do: its cards, and for the same cards this many calls
abbrev pub yet_to_do : PositionValue → ℕ → ℕ
yet_to_do t calls = 4 * cards_left t + calls

abbrev pub decreases-search : goal.decreases-search
decreases-search l = yet_to_do l.position.now 2

abbrev pub decreases-by_turn : goal.decreases-by_turn
decreases-by_turn l = yet_to_do l.position.now 1

abbrev pub decreases-by_card : goal.decreases-by_card
decreases-by_card l = yet_to_do l.position.now 0

abbrev pub decreases-core_first : goal.decreases-core_first
decreases-core_first l = yet_to_do l.after.now 3

abbrev pub decreases-by_reply : goal.decreases-by_reply
decreases-by_reply l = yet_to_do l.position.now 0

abbrev pub invariant-by_card-cards : goal.invariant-by_card-cards
invariant-by_card-cards l = record {
  so : (tried : List ℕ) × AreEnough l.position tried × IsCoreSoFar l.layouts l.position (l.moves - 1) l.set tried l.cards l.core;
  budget : l.self.budget.ghost_name ≡ l.fn.self.budget.ghost_name;
  solver : l.self.solver.ghost_name ≡ l.fn.self.solver.ghost_name;
  memo : l.self.memo.ghost_name ≡ l.fn.self.memo.ghost_name;
  known : l.self.memo.now ≡ l.layouts;
  paid : l.self.budget.now.left ≤ l.fn.self.budget.now.left;
  nodes : l.self.budget.now.nodes ≡ l.fn.self.budget.now.nodes;
}

abbrev pub decreases-by_card-cards : goal.decreases-by_card-cards
decreases-by_card-cards l = length l.cards

abbrev pub invariant-by_reply-cards : goal.invariant-by_reply-cards
invariant-by_reply-cards l = record {
  so : AreWonSoFar l.layouts l.position l.moves l.fn.set l.cards;
  budget : l.self.budget.ghost_name ≡ l.fn.self.budget.ghost_name;
  solver : l.self.solver.ghost_name ≡ l.fn.self.solver.ghost_name;
  memo : l.self.memo.ghost_name ≡ l.fn.self.memo.ghost_name;
  known : l.self.memo.now ≡ l.layouts;
  paid : l.self.budget.now.left ≤ l.fn.self.budget.now.left;
  nodes : l.self.budget.now.nodes ≡ l.fn.self.budget.now.nodes;
}

abbrev pub decreases-by_reply-cards : goal.decreases-by_reply-cards
decreases-by_reply-cards l = length l.cards
