use Rattle.std.proofs.Common.{sym, ◌∙◌}
use Rattle.std.proofs.lemmas.Slice.Eq.{bytes_eq-Decides}
use Rattle.dd_solver.proofs.Keyed.{same_counting}
use Rattle.dd_solver.proofs.key.are_same.Goals as goal

pub returns : goal.returns
returns c h = same_counting c.args.counting c.args.these c.args.those
    (sym c.both.ensures.value ∙ (bytes_eq-Decides c.both.result c.both-2.result).0 (sym c.eq.ensures ∙ h) ∙ c.both-2.ensures.value)
