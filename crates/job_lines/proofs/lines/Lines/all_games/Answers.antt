use Rattle.std.proofs.Common.{◌++◌, ◌∙◌, ap, length}
use Rattle.job_lines.specs.LinesJob.{AreTexts, IsGameAt}
use Rattle.job_lines.proofs.Places.{one_text_more}
use Rattle.job_lines.proofs.lines.Lines.all_games.Goals as goal

pub loop-line-preserved : goal.loop-line-preserved
loop-line-preserved c =
    one_text_more (λ line. AreTexts (IsGameAt c.args.self.now.game.now c.args.self.now.root.now c.args.self.now.entries.now line) (length c.args.self.now.root.now.kept.node.lefts)) c.loop-line.line c.loop-line.text _ c.push.new.self
    c.loop-line.invariant c.in_ok-next.ensures (c.in_ok-push.ensures.appended ∙ ap (λ piece. c.loop-line.text ++ piece) c.bytes.ensures)
