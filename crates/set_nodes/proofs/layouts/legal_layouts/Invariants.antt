use Rattle.set_nodes.specs.SetNodes.{legal_at}
use Rattle.set_nodes.proofs.Legal.{AreLegalBefore}
use Rattle.set_nodes.proofs.layouts.legal_layouts.Given as goal

abbrev pub invariant-loop-place : goal.invariant-loop-place
invariant-loop-place l = AreLegalBefore l.set (legal_at l.layouts l.position l.card) l.legal l.place
