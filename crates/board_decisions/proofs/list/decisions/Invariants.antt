use Rattle.board_decisions.proofs.Listed.{AreListedBelow}
use Rattle.board_decisions.proofs.list.decisions.Given as goal

abbrev pub invariant-loop-place : goal.invariant-loop-place
invariant-loop-place l = AreListedBelow l.board l.bytes l.from l.place l.found.items
