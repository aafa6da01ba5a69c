use Rattle.std.proofs.Common.{◌≡◌, take}
use Rattle.page_text.specs.Verdicts.{best_of}
use Rattle.page_text.proofs.verdict.best_of.Given as goal

abbrev pub invariant-loop-line : goal.invariant-loop-line
invariant-loop-line l = l.best ≡ best_of (take l.line-index l.lines)
