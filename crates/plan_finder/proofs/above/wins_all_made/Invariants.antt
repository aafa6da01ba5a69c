use Rattle.plan_finder.proofs.DoubleDummy.{WinsMadeBelow}
use Rattle.plan_finder.proofs.above.wins_all_made.Given as goal

abbrev pub invariant-loop-place : goal.invariant-loop-place
invariant-loop-place l = WinsMadeBelow l.node l.vector l.place
