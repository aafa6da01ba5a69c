use Rattle.std.proofs.Common.{◌≡◌, take}
use Rattle.layout_maker.specs.MadeProblem.{set_of}
use Rattle.suit_problem.proofs.sides.set_of.Given as goal

abbrev pub invariant-loop-card : goal.invariant-loop-card
invariant-loop-card l = l.set ≡ set_of (take l.card-index l.cards)
