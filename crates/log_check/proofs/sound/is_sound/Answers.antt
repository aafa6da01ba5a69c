use Rattle.std.proofs.Common.{length, subst}
use Rattle.log_check.specs.Steps.{AreNumbers}
use Rattle.log_check.proofs.Judged.{child_widths}
use Rattle.log_check.proofs.sound.is_sound.Goals as goal

pub keeps_rule-requires : goal.keeps_rule-requires
keeps_rule-requires c = record {
  numbers = subst (AreNumbers (length c.args.earlier.now)) c.as_slice-else-not-have_width.ensures (c.are_numbers.ensures.0 c.if-not-are_numbers.false);
  widths = child_widths c.args.root.now c.in-Some.node c.args.moves c.args.line.now.path c.args.earlier.now c.args.line.now.from
      (rw c.in-Some.is at c.in_ok-node.ensures).node_is c.requires;
}
