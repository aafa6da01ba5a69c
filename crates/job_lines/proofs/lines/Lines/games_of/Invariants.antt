use Rattle.job_lines.specs.LinesJob.{AreTexts, IsGameAt}
use Rattle.job_lines.proofs.lines.Lines.games_of.Given as goal

abbrev pub invariant-loop-place : goal.invariant-loop-place
invariant-loop-place l = AreTexts (IsGameAt l.self.game.now l.self.root.now l.self.entries.now l.line) l.place l.text
