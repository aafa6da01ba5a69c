use Rattle.std.proofs.Common.{◌≡◌}
use Rattle.trick_rules.proofs.NodeLemmas.{state_of}
use Rattle.trick_rules.proofs.KeptLayouts.{mask_upto}
use Rattle.layout_facts.specs.Facts.{holds_in}
use Rattle.layout_facts.proofs.judged.where_so.Given as goal

abbrev pub invariant-loop-place : goal.invariant-loop-place
invariant-loop-place l = l.vector ≡ mask_upto (λ left. holds_in l.fact (state_of l.node.position left)) l.node.lefts l.place
