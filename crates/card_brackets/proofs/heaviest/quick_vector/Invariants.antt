use Rattle.std.proofs.Common.{take}
use Rattle.trick_rules.specs.Nodes.{choices}
use Rattle.card_brackets.proofs.HeavyVectors.{QuickSoFar}
use Rattle.card_brackets.proofs.heaviest.quick_vector.Given as goal

abbrev pub invariant-loop-after : goal.invariant-loop-after
invariant-loop-after l = QuickSoFar l.node l.moves (take l.after-index (choices l.node)) l.quick
