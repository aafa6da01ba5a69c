use Rattle.std.proofs.Common.{◌≡◌, ◌+◌, ◌*◌, length}
use Rattle.trick_rules.specs.Play.{cards_left}
use Rattle.dd_solver.specs.Keys.{key_state}
use Rattle.dd_solver.specs.Turns.{turn_state}
use Rattle.dd_solver.proofs.Tried.{AreTried}
use Rattle.dd_solver.proofs.search.+search.Given as goal

abbrev pub decreases-search : goal.decreases-search
decreases-search l = 5 * cards_left l.position.now + 4

abbrev pub decreases-search_key : goal.decreases-search_key
decreases-search_key l = 5 * cards_left (key_state l.key.now).position + 3

abbrev pub decreases-search_turn : goal.decreases-search_turn
decreases-search_turn l = 5 * cards_left l.turn.now.position + 2

abbrev pub decreases-best_of : goal.decreases-best_of
decreases-best_of l = 5 * cards_left l.turn.now.position + 1

abbrev pub decreases-search_after : goal.decreases-search_after
decreases-search_after l = 5 * cards_left l.turn.now.position

abbrev pub invariant-best_of-loop-card : goal.invariant-best_of-loop-card
invariant-best_of-loop-card l = record { tried : AreTried (turn_state l.turn) l.fn.cards l.rest l.ours l.counting; limit : l.recall.own.most ≡ l.fn.recall.own.most }

abbrev pub decreases-best_of-loop-card : goal.decreases-best_of-loop-card
decreases-best_of-loop-card l = length l.rest
