use Rattle.std.proofs.Common.{take}
use Rattle.trick_rules.specs.Nodes.{choices}
use Rattle.card_brackets.proofs.HeavyVectors.{HeavySoFar}
use Rattle.card_brackets.proofs.heaviest.heavy_assured.Given as goal

abbrev pub invariant-loop-after : goal.invariant-loop-after
invariant-loop-after l = HeavySoFar l.node l.moves l.weights l.floor (take l.after-index (choices l.node)) l.kept
