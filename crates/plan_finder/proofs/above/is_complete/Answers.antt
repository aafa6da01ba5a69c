use Rattle.std.proofs.Common.{◌∙◌, false, length, ap}
use Rattle.std.proofs.lemmas.List.{length-replicate}
use Rattle.win_vectors.specs.Fronts.{Vector}
use Rattle.alphamu_core.proofs.Judging.{dominates-length}
use Rattle.plan_finder.proofs.above.is_complete.Goals as goal

pub wins_all_made_by-requires : goal.wins_all_made_by-requires
wins_all_made_by-requires c =
    dominates-length c.in-Some.first c.none.result c.in-Some.ensures.first.above ∙ ap (λ (v : Vector). length v) c.none.ensures ∙ length-replicate c.width.result false ∙ c.width.ensures.value

pub returns : goal.returns
returns c = λ yes. (c.in-Some.first, c.in-Some.ensures.first.member, c.wins_all_made_by.ensures yes)
