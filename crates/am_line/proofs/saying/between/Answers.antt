use Rattle.std.proofs.Common.{◌∙◌, ap, take, drop}
use Rattle.std.proofs.lemmas.Result.{IfOk-weaker}
use Rattle.am_line.proofs.Between.{between-ends}
use Rattle.am_line.proofs.saying.between.Goals as goal

pub returns : goal.returns
returns c =
    IfOk-weaker c.from_bytes.result _ _
    (λ text is. is ∙ (between-ends c.args.line.now 9 c.min-start.result c.saturating_sub-end.result c.min-start.ensures
    ∙ ap (λ n. drop 9 (take n c.args.line.now)) c.saturating_sub-end.ensures)) c.from_bytes.ensures
