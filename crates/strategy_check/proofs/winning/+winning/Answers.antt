use Rattle.std.proofs.Common.{◌≡◌, ◌∙◌, true, false, sym, ap, subst, arith}
use Rattle.card_sets.specs.SetWords.{has_card}
use Rattle.trick_rules.specs.Positions.{State}
use Rattle.trick_rules.specs.Play.{after}
use Rattle.trick_rules.proofs.PlayLaws as play
use Rattle.strategy_games.specs.Misfits.{node_count, node_counts}
use Rattle.strategy_games.specs.Plans.{Play, Hear, wins}
use Rattle.strategy_tree.specs.Bridge.{bridge}
use Rattle.strategy_tree.specs.PlanMeaning.{plan_of, replies_of}
use Rattle.strategy_tree.proofs.Meanings.{plan_of-Play, plan_of-Hear, replies_of-drop}
use Rattle.strategy_check.specs.Following.{CanFollow, CanFollowEach}
use Rattle.strategy_check.proofs.Followed.{followed_state, followed_states, follow_Play, follow_Hear, follow_Reply, follow_later}
use Rattle.strategy_check.proofs.Won.{lost_here, won_here, not_legal}
use Rattle.strategy_check.proofs.winning.+winning.Goals as goal
use Rattle.strategy_check.proofs.winning.+winning.Goals.{win_against_each-else-has-via-then-has+else-not-wins_by, win_against_each-else-has-via-else-has}

-- ---- one plan

pub wins_by-makes-requires : goal.wins_by-makes-requires
wins_by-makes-requires g t c = followed_state (plan_of c.args.plan.now) (record { position = c.args.position.now; left = c.args.left }) c.requires

pub wins_by-play-requires : goal.wins_by-play-requires
wins_by-play-requires g t c =
    let s : State = record { position = c.args.position.now; left = c.args.left } in
    let is = ap plan_of c.in-Play.is ∙ plan_of-Play c.in-Play.card c.in-Play.rest in
    let follow = follow_Play c.in-Play.card (plan_of c.in-Play.rest.value) s (subst (λ p. CanFollow p s) is c.requires) in
    play.a_legal_card_can_be_played s c.in-Play.card (followed_state (plan_of c.args.plan.now) s c.requires) follow.0

pub wins_by-wins_by-requires : goal.wins_by-wins_by-requires
wins_by-wins_by-requires g t c κs within =
    let s : State = record { position = c.args.position.now; left = c.args.left } in
    let is = ap plan_of c.in-Play.is ∙ plan_of-Play c.in-Play.card c.in-Play.rest ∙ ap (λ p. Play c.in-Play.card (plan_of p)) (sym c.deref.ensures) in
    let follow = follow_Play c.in-Play.card (plan_of c.deref.result.now) s (subst (λ p. CanFollow p s) is c.requires) in
    (omega (arith, ap node_count is, c.decreases), (within, rw (c.play.ensures.value, c.without.ensures.value) follow.1))

pub wins_by-win_against_each-requires : goal.wins_by-win_against_each-requires
wins_by-win_against_each-requires g t c κs within =
    let s : State = record { position = c.args.position.now; left = c.args.left } in
    let is = ap plan_of c.in-Hear.is ∙ plan_of-Hear c.in-Hear.replies ∙ ap (λ rs. Hear (replies_of rs)) (sym c.deref-in-Hear.ensures.value) in
    (omega (arith, ap node_count is, c.decreases), (within, follow_Hear (replies_of c.deref-in-Hear.result.now) s (subst (λ p. CanFollow p s) is c.requires)))

-- ---- the replies

pub win_against_each-play-requires : goal.win_against_each-play-requires
win_against_each-play-requires g t c =
    let s : State = record { position = c.args.position.now; left = c.args.left } in
    let card = c.reply-item.result.card in
    let legal = sym (c.has.ensures.value ∙ ap (λ cards. has_card cards card) c.legal_in-legal.ensures) ∙ c.if-has.true in
    play.a_legal_card_can_be_played s card (followed_states (replies_of c.args.replies.now) s c.requires) legal

pub win_against_each-wins_by-requires : goal.win_against_each-wins_by-requires
win_against_each-wins_by-requires g t c κs within =
    let s : State = record { position = c.args.position.now; left = c.args.left } in
    let card = c.reply-item.result.card in
    let next = replies_of-drop c.args.replies.now c.loop-reply.reply-index c.reply-item.result c.loop-reply-test.true c.reply-item.is in
    let legal = sym (c.has.ensures.value ∙ ap (λ cards. has_card cards card) c.legal_in-legal.ensures) ∙ c.if-has.true in
    let follow = follow_Reply card (plan_of c.reply-item.result.plan) _ s (subst (λ rs. CanFollowEach rs s) next c.loop-reply.invariant.follow) legal in
    (omega (arith, ap node_counts next, c.loop-reply.invariant.fewer, c.decreases), (within, rw (c.play.ensures.value, c.without.ensures.value) follow))

pub win_against_each-returns-then-not-wins_by : goal.win_against_each-returns-then-not-wins_by
win_against_each-returns-then-not-wins_by g t c =
    let s : State = record { position = c.args.position.now; left = c.args.left } in
    let card = c.reply-item.result.card in
    let plan = plan_of c.reply-item.result.plan in
    let next = replies_of-drop c.args.replies.now c.loop-reply.reply-index c.reply-item.result c.loop-reply-test.true c.reply-item.is in
    let legal = sym (c.has.ensures.value ∙ ap (λ cards. has_card cards card) c.legal_in-legal.ensures) ∙ c.if-has.true in
    let lost : wins bridge plan (after s card) ≡ false = sym (rw (c.play.ensures.value, c.without.ensures.value) at c.wins_by.ensures) ∙ c.if-not-wins_by.true in
    sym (c.loop-reply.invariant.so_far ∙ lost_here _ card plan _ next s legal lost)

pub win_against_each-loop-reply-preserved : goal.win_against_each-loop-reply-preserved
win_against_each-loop-reply-preserved g t c =
    let s : State = record { position = c.args.position.now; left = c.args.left } in
    let card = c.reply-item.result.card in
    let plan = plan_of c.reply-item.result.plan in
    let next = replies_of-drop c.args.replies.now c.loop-reply.reply-index c.reply-item.result c.loop-reply-test.true c.reply-item.is in
    let told = sym (c.has.ensures.value ∙ ap (λ cards. has_card cards card) c.legal_in-legal.ensures) in
    record {
      follow = follow_later card plan _ s (subst (λ rs. CanFollowEach rs s) next c.loop-reply.invariant.follow);
      so_far = c.loop-reply.invariant.so_far ∙ elim c.else-has.branch [
        | win_against_each-else-has-via-then-has+else-not-wins_by w ↦
            (let won : wins bridge plan (after s card) ≡ true = sym (rw (w.play.ensures.value, w.without.ensures.value) at w.wins_by.ensures) ∙ w.if-not-wins_by.false in
            won_here _ card plan _ next s (told ∙ w.if-has.true) won)
        | win_against_each-else-has-via-else-has w ↦ not_legal _ card plan _ next s (told ∙ w.if-has.false)
      ];
      fewer = omega (arith, ap node_counts next, c.loop-reply.invariant.fewer);
    }
