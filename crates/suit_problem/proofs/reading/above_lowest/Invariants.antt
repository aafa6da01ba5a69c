use Rattle.std.proofs.Common.{◌≡◌, drop}
use Rattle.suit_problem.proofs.reading.above_lowest.Given as goal

abbrev pub invariant-loop : goal.invariant-loop
invariant-loop l = l.rest ≡ drop l.counter l.fn.cards
