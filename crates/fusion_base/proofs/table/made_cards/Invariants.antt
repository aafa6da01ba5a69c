use Rattle.std.proofs.Common.{◌≡◌, length}
use Rattle.card_sets.specs.SetWords.{IsSubset}
use Rattle.trick_rules.specs.Nodes.{choices}
use Rattle.fusion_base.proofs.Sampled.{sifted}
use Rattle.fusion_base.proofs.table.made_cards.Given as goal

abbrev pub invariant-loop-card : goal.invariant-loop-card
invariant-loop-card l = record { made : l.made ≡ sifted l.node l.left l.rest; legal : IsSubset l.rest (choices l.node) }

abbrev pub decreases-loop-card : goal.decreases-loop-card
decreases-loop-card l = length l.rest
