use Rattle.std.proofs.Common.{◌∙◌, ap, subst}
use Rattle.trick_rules.specs.Positions.{State}
use Rattle.strategy_tree.specs.PlanMeaning.{plan_of}
use Rattle.strategy_tree.proofs.Meanings.{plan_of-Play}
use Rattle.strategy_check.specs.Following.{CanFollow}
use Rattle.strategy_check.proofs.Followed.{followed_state, follow_Play}
use Rattle.am_match.proofs.OneCard.{keeping_is_legal}
use Rattle.am_match.proofs.following.card_by_plan.Goals as goal

pub returns-in-Play-clause-legal : goal.returns-in-Play-clause-legal
returns-in-Play-clause-legal c = λ _.
    let s : State = record { position = c.args.position.now; left = c.args.left } in
    let is = ap plan_of c.in-Play.is ∙ plan_of-Play c.in-Play.card c.in-Play.field-1 in
    (follow_Play c.in-Play.card (plan_of c.in-Play.field-1.value) s (subst (λ p. CanFollow p s) is c.requires.follow)).0

pub keep_result-requires-clause-state : goal.keep_result-requires-clause-state
keep_result-requires-clause-state c =
    followed_state (plan_of c.args.plan.now) (record { position = c.args.position.now; left = c.args.left }) c.requires.follow

pub keep_result-requires-in-Hear-clause-state : goal.keep_result-requires-in-Hear-clause-state
keep_result-requires-in-Hear-clause-state c =
    followed_state (plan_of c.args.plan.now) (record { position = c.args.position.now; left = c.args.left }) c.requires.follow

pub returns-in-Stop-clause-legal : goal.returns-in-Stop-clause-legal
returns-in-Stop-clause-legal c = λ _. keeping_is_legal (record { position = c.args.position.now; left = c.args.left }) c.keep_result.result c.keep_result.ensures

pub returns-in-Hear-clause-legal : goal.returns-in-Hear-clause-legal
returns-in-Hear-clause-legal c = λ _. keeping_is_legal (record { position = c.args.position.now; left = c.args.left }) c.keep_result-in-Hear.result c.keep_result-in-Hear.ensures
