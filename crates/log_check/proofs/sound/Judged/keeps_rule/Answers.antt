use Rattle.std.proofs.Common.{◌↔◌, IsTrue, IfOk, sym, subst}
use Rattle.log_check.specs.declared.lines.Rule.{Rule}
use Rattle.log_check.specs.Logs.{cited_lines, KeepsRule}
use Rattle.log_check.proofs.sound.Judged.keeps_rule.Goals as goal

pub returns-in-Join : goal.returns-in-Join
returns-in-Join c =
    subst (λ (r : Rule). IfOk c.is_join.result (λ kept. IsTrue kept ↔ KeepsRule r c.args.self.now.node.now c.args.self.now.line.now (cited_lines c.args.self.now.earlier.now c.args.self.now.line.now.from)))
    (sym c.in-Join.is) c.is_join.ensures
