use Rattle.std.proofs.Common.{arith}
use Rattle.told_words.proofs.Numbered.{layout_get, layout_zero, layout_beyond}
use Rattle.told_words.proofs.layouts.has_layout.Goals.{then-number-eq0-via-then-number-eq0, then-number-eq0-via-else-number-eq0+then-number-width}
use Rattle.told_words.proofs.layouts.has_layout.Goals as goal

pub returns-then-number-eq0 : goal.returns-then-number-eq0
returns-then-number-eq0 c =
    elim c.then-number-eq0.branch [
      | then-number-eq0-via-then-number-eq0 w ↦ layout_zero c.args.layouts c.args.number w.if-number-eq0.true
      | then-number-eq0-via-else-number-eq0+then-number-width w ↦ layout_beyond c.args.layouts c.args.number (omega arith)
    ]

pub returns : goal.returns
returns c = layout_get c.args.layouts c.args.number c.get.result c.if-number-eq0.false c.get.ensures
