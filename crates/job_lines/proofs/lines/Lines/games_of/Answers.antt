use Rattle.std.proofs.Common.{◌++◌, ◌∙◌, ap}
use Rattle.job_lines.specs.LinesJob.{IsGameAt}
use Rattle.job_lines.proofs.Places.{one_text_more}
use Rattle.job_lines.proofs.lines.Lines.games_of.Goals as goal

pub loop-place-preserved : goal.loop-place-preserved
loop-place-preserved c =
    one_text_more (IsGameAt c.args.self.now.game.now c.args.self.now.root.now c.args.self.now.entries.now c.args.line) c.loop-place.place c.loop-place.text _ c.push.new.self
    c.loop-place.invariant c.in_ok-next.ensures (c.in_ok-push.ensures.appended ∙ ap (λ piece. c.loop-place.text ++ piece) c.bytes.ensures)
