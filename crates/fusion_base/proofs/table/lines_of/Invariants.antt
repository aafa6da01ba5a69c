use Rattle.std.proofs.Common.{◌≡◌, ◌++◌, length, map}
use Rattle.card_sets.specs.SetWords.{IsSubset}
use Rattle.trick_rules.specs.Nodes.{choices}
use Rattle.fusion_base.specs.Sampling.{card_vectors}
use Rattle.fusion_base.proofs.Sampled.{line_of}
use Rattle.fusion_base.proofs.table.lines_of.Given as goal

abbrev pub invariant-loop-card : goal.invariant-loop-card
invariant-loop-card l = record { listed : l.lines.items ++ map (line_of l.node) l.rest ≡ card_vectors l.node; legal : IsSubset l.rest (choices l.node) }

abbrev pub decreases-loop-card : goal.decreases-loop-card
decreases-loop-card l = length l.rest
