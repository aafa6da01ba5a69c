use Rattle.std.proofs.Common.{◌<◌, ◌==◌, ◌∙◌, sym, ap, arith}
use Rattle.trick_rules.specs.Positions.{PositionValue, State}
use Rattle.trick_rules.specs.Play.{cards_left}
use Rattle.trick_rules.proofs.PlayLaws as play
use Rattle.strategy_tree.specs.PlanMeaning.{plan_of}
use Rattle.strategy_check.proofs.Followed.{followed_state}
use Rattle.am_match.proofs.OneCard.{replied_to}
use Rattle.line_plays.proofs.Shown.{sets_out, goes_on, room, ended}
use Rattle.line_plays.proofs.playing.play_against_best_defence.Goals as goal

pub loop-rest-init : goal.loop-rest-init
loop-rest-init c =
    rw (c.new-cards.ensures, c.copy-at.ensures) (sets_out (plan_of c.args.plan.now) (record { position = c.args.position.now; left = c.args.left }) c.requires)

pub rest_after-rest-requires : goal.rest_after-rest-requires
rest_after-rest-requires c = λ replies is.
    let s : State = record { position = c.loop-rest.at; left = c.loop-rest.held } in
    replied_to (plan_of c.loop-rest.rest.now) s c.next_card-card.result c.loop-rest.invariant.follow c.next_card-card.ensures.legal replies is

pub play-at-requires : goal.play-at-requires
play-at-requires c =
    let s : State = record { position = c.loop-rest.at; left = c.loop-rest.held } in
    play.a_legal_card_can_be_played s c.next_card-card.result (followed_state (plan_of c.loop-rest.rest.now) s c.loop-rest.invariant.follow) c.next_card-card.ensures.legal

pub push-requires : goal.push-requires
push-requires c = room _ _ _ _ _ c.next_card-card.result c.loop-rest.invariant c.next_card-card.ensures.legal

pub loop-rest-smaller : goal.loop-rest-smaller
loop-rest-smaller c =
    let s : State = record { position = c.loop-rest.at; left = c.loop-rest.held } in
    let state = followed_state (plan_of c.loop-rest.rest.now) s c.loop-rest.invariant.follow in
    let fewer = play.a_card_leaves_one_fewer s.position c.next_card-card.result state.sound (play.a_legal_card_can_be_played s c.next_card-card.result state c.next_card-card.ensures.legal) in
    let less : cards_left c.play-at.result < cards_left c.loop-rest.at = omega (arith, ap (λ t. cards_left t) c.play-at.ensures.value, fewer) in
    less

pub loop-rest-preserved : goal.loop-rest-preserved
loop-rest-preserved c =
    rw (c.push.ensures, c.rest_after-rest.ensures, c.play-at.ensures.value, c.without-held.ensures.value)
    (goes_on _ _ _ _ _ c.next_card-card.result c.loop-rest.invariant (sym c.over.ensures.value ∙ c.loop-rest-test.true) c.next_card-card.ensures)

pub returns-clause-cards : goal.returns-clause-cards
returns-clause-cards c = (ended _ _ _ _ _ c.loop-rest.invariant (sym c.over.ensures.value ∙ c.loop-rest-test.false)).0

pub returns-clause-made : goal.returns-clause-made
returns-clause-made c =
    ap (λ (t : PositionValue). t.need == 0) c.at.view_is
    ∙ (ended _ _ _ _ _ c.loop-rest.invariant (sym c.over.ensures.value ∙ c.loop-rest-test.false)).1
