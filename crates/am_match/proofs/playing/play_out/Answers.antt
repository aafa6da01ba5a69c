use Rattle.std.proofs.Common.{◌<◌, ◌-◌, ◌==◌, ◌∙◌, refl, sym, ap, arith}
use Rattle.trick_rules.specs.Positions.{PositionValue, State}
use Rattle.trick_rules.specs.Play.{cards_left}
use Rattle.trick_rules.proofs.PlayLaws as play
use Rattle.strategy_games.specs.Plans.{wins}
use Rattle.strategy_tree.specs.Bridge.{bridge}
use Rattle.strategy_tree.specs.PlanMeaning.{plan_of}
use Rattle.strategy_check.proofs.Followed.{followed_state}
use Rattle.am_match.specs.PlayOuts.{state_after}
use Rattle.am_match.proofs.OneCard.{replied_to}
use Rattle.am_match.proofs.UnderWay.{sets_out, goes_on, room, followed, made_as_won, state_at_place}
use Rattle.am_match.proofs.playing.play_out.Goals as goal

pub loop-rest-init : goal.loop-rest-init
loop-rest-init g c = record {
  way = sets_out (plan_of c.args.plan.now) c.args.node.now c.args.moves (c.args.layout - 1) c.left-left.result c.copy-position.result _ _ c.new-cards.result
      c.position.ensures.a_node c.requires.fits c.left-left.ensures (c.copy-position.ensures ∙ c.position.ensures.value) c.new-cards.ensures c.requires.change;
  seats = refl;
}

pub rest_after-rest-requires : goal.rest_after-rest-requires
rest_after-rest-requires g c = λ replies is.
    let s : State = record { position = c.loop-rest.position; left = c.loop-rest.left } in
    replied_to (plan_of c.loop-rest.rest.now) s c.next_card-card.result c.loop-rest.invariant.way.follow c.next_card-card.ensures.next.legal replies is

pub play-position-requires : goal.play-position-requires
play-position-requires g c =
    let s : State = record { position = c.loop-rest.position; left = c.loop-rest.left } in
    play.a_legal_card_can_be_played s c.next_card-card.result (followed_state (plan_of c.loop-rest.rest.now) s c.loop-rest.invariant.way.follow) c.next_card-card.ensures.next.legal

pub push-requires : goal.push-requires
push-requires g c = room _ _ _ _ _ _ _ _ _ c.next_card-card.result c.loop-rest.invariant.way c.next_card-card.ensures.next.legal

pub tell_both-requires : goal.tell_both-requires
tell_both-requires g c = record { seats = omega (arith, c.next_card-card.ensures.length, c.in_ok-waiting.ensures.length, c.loop-rest.invariant.seats, c.requires.seats) }

pub loop-rest-smaller : goal.loop-rest-smaller
loop-rest-smaller g c =
    let s : State = record { position = c.loop-rest.position; left = c.loop-rest.left } in
    let state = followed_state (plan_of c.loop-rest.rest.now) s c.loop-rest.invariant.way.follow in
    let fewer = play.a_card_leaves_one_fewer s.position c.next_card-card.result state.sound (play.a_legal_card_can_be_played s c.next_card-card.result state c.next_card-card.ensures.next.legal) in
    let less : cards_left c.play-position.result < cards_left c.loop-rest.position = omega (arith, ap (λ t. cards_left t) c.play-position.ensures.value, fewer) in
    less

pub loop-rest-preserved : goal.loop-rest-preserved
loop-rest-preserved g c = record {
  way = goes_on _ _ _ _ c.loop-rest.cards c.push.new.self _ _ _ c.play-position.result c.without-left.result _ _ _ _ _ _ c.next_card-card.result
      c.loop-rest.invariant.way (sym c.over.ensures.value ∙ c.loop-rest-test.true)
      c.in_ok-waiting.ensures.table c.in_ok-waiting.ensures.waiting c.next_card-card.ensures.next c.next_card-card.ensures.same
      c.rest_after-rest.ensures c.play-position.ensures.value c.without-left.ensures.value c.push.ensures c.in_ok-tell_both.ensures.told;
  seats = c.tell_both.ensures.length ∙ c.next_card-card.ensures.length ∙ c.in_ok-waiting.ensures.length ∙ c.loop-rest.invariant.seats;
}

pub returns-in_err-tell_both-clause-seats : goal.returns-in_err-tell_both-clause-seats
returns-in_err-tell_both-clause-seats g c = c.tell_both.ensures.length ∙ c.next_card-card.ensures.length ∙ c.in_ok-waiting.ensures.length ∙ c.loop-rest.invariant.seats

pub returns-clause-follows : goal.returns-clause-follows
returns-clause-follows g c = λ s is.
    let start_is = ap (λ (t : PositionValue). let start : State = record { position = t; left = c.left-left.result } in start) (c.copy-position.ensures ∙ c.position.ensures.value)
    ∙ state_at_place c.args.node.now (c.args.layout - 1) c.left-left.result s c.left-left.ensures is in
    followed _ _ s _ _ _ _ _ _ _ c.loop-rest.invariant.way (sym c.over.ensures.value ∙ c.loop-rest-test.false) start_is

pub returns-clause-made : goal.returns-clause-made
returns-clause-made g c = λ s is.
    let start_is = ap (λ (t : PositionValue). let start : State = record { position = t; left = c.left-left.result } in start) (c.copy-position.ensures ∙ c.position.ensures.value)
    ∙ state_at_place c.args.node.now (c.args.layout - 1) c.left-left.result s c.left-left.ensures is in
    ap (λ (t : PositionValue). t.need == 0) c.position-in-loop-rest.view_is
    ∙ sym (ap (λ (t : State). t.position.need == 0) (ap (λ (t : State). state_after t c.loop-rest.cards) (sym start_is) ∙ c.loop-rest.invariant.way.state_is))

pub returns-clause-kept : goal.returns-clause-kept
returns-clause-kept g c = λ s is won.
    let start_is = ap (λ (t : PositionValue). let start : State = record { position = t; left = c.left-left.result } in start) (c.copy-position.ensures ∙ c.position.ensures.value)
    ∙ state_at_place c.args.node.now (c.args.layout - 1) c.left-left.result s c.left-left.ensures is in
    ap (λ (t : PositionValue). t.need == 0) c.position-in-loop-rest.view_is
    ∙ made_as_won _ _ _ _ _ _ _ _ _ c.loop-rest.invariant.way (sym c.over.ensures.value ∙ c.loop-rest-test.false)
    (ap (λ (t : State). wins bridge (plan_of c.args.plan.now) t) start_is ∙ won)
