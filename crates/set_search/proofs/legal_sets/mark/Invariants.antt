use Rattle.std.proofs.Common.{length}
use Rattle.set_search.proofs.Marked.{AreMarked}
use Rattle.set_search.proofs.legal_sets.mark.Given as goal

abbrev pub invariant-loop-card : goal.invariant-loop-card
invariant-loop-card l = AreMarked l.fn.legal l.legal l.fn.cards l.rest l.place

abbrev pub decreases-loop-card : goal.decreases-loop-card
decreases-loop-card l = length l.rest
