use Rattle.std.proofs.Common.{length}
use Rattle.job_lines.specs.LinesJob.{AreTexts, IsGameAt}
use Rattle.job_lines.proofs.lines.Lines.all_games.Given as goal

abbrev pub invariant-loop-line : goal.invariant-loop-line
invariant-loop-line l = AreTexts (λ line. AreTexts (IsGameAt l.self.game.now l.self.root.now l.self.entries.now line) (length l.self.root.now.kept.node.lefts)) l.line l.text
