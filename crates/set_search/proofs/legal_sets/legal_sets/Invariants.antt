use Rattle.std.proofs.Common.{◌<◌, ℕ, [], get_or}
use Rattle.set_nodes.specs.SetNodes.{legal_at}
use Rattle.set_nodes.proofs.Legal.{AreLegalBefore}
use Rattle.set_search.proofs.legal_sets.legal_sets.Given as goal

abbrev pub invariant-loop-place : goal.invariant-loop-place
invariant-loop-place l = (card : ℕ) → card < 52 → AreLegalBefore l.set (legal_at l.layouts l.position card) (get_or l.legal card []) l.place
