use Rattle.std.proofs.Common.{ap, subst, ◌∙◌}
use Rattle.strategy_games.specs.Plans.{Stop}
use Rattle.strategy_tree.specs.PlanMeaning.{plan_of, replies_of}
use Rattle.strategy_tree.proofs.Meanings.{plan_of-Play, plan_of-Hear}
use Rattle.told_plans.specs.Follows.{Agree}
use Rattle.told_plans.proofs.Boths.{stop_or_play, stop_or_hear}
use Rattle.told_plans.proofs.merging.both_stop.Goals as goal

pub returns-in-Play-clause-value : goal.returns-in-Play-clause-value
returns-in-Play-clause-value c agree =
    let is = ap plan_of c.in-Play.is ∙ plan_of-Play c.in-Play.field-0 c.in-Play.field-1 in
    stop_or_play c.in-Play.field-0 (plan_of c.in-Play.field-1.value) (subst (λ p. Agree Stop p) is agree)

pub returns-in-Hear-clause-value : goal.returns-in-Hear-clause-value
returns-in-Hear-clause-value c agree =
    let is = ap plan_of c.in-Hear.is ∙ plan_of-Hear c.in-Hear.field-0 in
    stop_or_hear (replies_of c.in-Hear.field-0.items) (subst (λ p. Agree Stop p) is agree)
