use Rattle.std.proofs.Common.{◌≡◌}
use Rattle.trick_rules.specs.Nodes.{is_legal}
use Rattle.trick_rules.proofs.KeptLayouts.{mask_upto, kept_upto}
use Rattle.trick_rules.proofs.node.Node.child.Given as goal

abbrev pub invariant-loop-place : goal.invariant-loop-place
invariant-loop-place l = record {
  kept : l.lefts.items ≡ kept_upto (is_legal l.self.position l.card) l.card l.self.lefts l.place;
  mask : l.mask ≡ mask_upto (is_legal l.self.position l.card) l.self.lefts l.place;
}
