use Rattle.std.proofs.Common.{◌≡◌, ◌∙◌, ◌&&◌, true, not, sym, ap, subst}
use Rattle.trick_rules.specs.Positions.{State}
use Rattle.trick_rules.specs.Play.{after, makes}
use Rattle.trick_rules.proofs.PlayLaws as play
use Rattle.strategy_tree.specs.PlanMeaning.{plan_of}
use Rattle.strategy_tree.proofs.Meanings.{plan_of-Play}
use Rattle.strategy_check.specs.Following.{CanFollow}
use Rattle.strategy_check.proofs.Followed.{followed_state, follow_Play}
use Rattle.told_layouts.specs.Looking.{gives_up}
use Rattle.told_layouts.proofs.standing.standing_here.Goals as goal

pub makes-requires : goal.makes-requires
makes-requires c = (followed_state (plan_of c.args.plan.now) (record { position = c.args.position.now; left = c.args.left }) c.requires).fits

pub play-requires : goal.play-requires
play-requires c =
    let s : State = record { position = c.args.position.now; left = c.args.left } in
    let is = ap plan_of c.in-Play.is ∙ plan_of-Play c.in-Play.card c.in-Play.field-1 in
    let follow = follow_Play c.in-Play.card (plan_of c.in-Play.field-1.value) s (subst (λ p. CanFollow p s) is c.requires) in
    play.a_legal_card_can_be_played s c.in-Play.card (followed_state (plan_of c.args.plan.now) s c.requires) follow.0

pub makes-requires-then-makes : goal.makes-requires-then-makes
makes-requires-then-makes c =
    let s : State = record { position = c.args.position.now; left = c.args.left } in
    let is = ap plan_of c.in-Play.is ∙ plan_of-Play c.in-Play.card c.in-Play.field-1 in
    let follow = follow_Play c.in-Play.card (plan_of c.in-Play.field-1.value) s (subst (λ p. CanFollow p s) is c.requires) in
    let fits = (followed_state (plan_of c.in-Play.field-1.value) (after s c.in-Play.card) follow.1).fits in
    rw (c.play.ensures.value, c.without.ensures.value) fits

pub returns-then-makes-clause-given_up : goal.returns-then-makes-clause-given_up
returns-then-makes-clause-given_up c =
    let s : State = record { position = c.args.position.now; left = c.args.left } in
    let is = ap plan_of c.in-Play.is ∙ plan_of-Play c.in-Play.card c.in-Play.field-1 in
    let before : makes s ≡ true = sym c.makes.ensures.answer ∙ c.if-makes.true in
    let after_it : c.makes-then-makes.result ≡ makes (after s c.in-Play.card) = rw (c.play.ensures.value, c.without.ensures.value) at c.makes-then-makes.ensures.answer in
    ap not after_it
    ∙ sym (ap (λ b. b && not (makes (after s c.in-Play.card))) before)
    ∙ sym (ap (λ p. gives_up p s) is)
