use Rattle.std.proofs.Common.{Bool, ◌||◌, ap, ap₂, ◌∙◌}
use Rattle.sure_nodes.specs.SureNodes.{is_sure}
use Rattle.assured_fronts.proofs.ends.claims.Goals as goal

pub returns : goal.returns
returns c = c.either.ensures ∙ ap₂ (λ (a b : Bool). a || b) c.stops.ensures (c.is_sure.ensures ∙ ap is_sure c.position.ensures.value)
