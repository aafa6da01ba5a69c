use Rattle.std.proofs.Common.{◌≡◌, ◌≤◌, ◌∙◌, ◌&&◌, ◌+◌, true, false, drop, sym, ap, subst, arith}
use Rattle.std.proofs.lemmas.Bool.{and_from, and_left, and_right}
use Rattle.card_sets.specs.SetWords.{has_card}
use Rattle.trick_rules.specs.Positions.{State}
use Rattle.trick_rules.specs.Play.{legal_in}
use Rattle.trick_rules.proofs.PlayLaws as play
use Rattle.strategy_games.specs.Misfits.{node_count, node_counts}
use Rattle.strategy_games.specs.Plans.{Play, Hear}
use Rattle.strategy_tree.specs.PlanMeaning.{plan_of, replies_of}
use Rattle.strategy_tree.proofs.Meanings.{plan_of-Play, plan_of-Hear, replies_of-drop}
use Rattle.strategy_check.specs.Following.{CanFollowEach}
use Rattle.strategy_check.proofs.Followed.{followed_state, followed_states, follow_Reply, follow_later}
use Rattle.told_layouts.proofs.Looked.{follow_play, follow_hear, heard, looked, skipped}
use Rattle.told_layouts.proofs.reaching.+reaching.Goals as goal
use Rattle.told_layouts.proofs.reaching.+reaching.Goals.{reaches_below-then-has+then-has-2, reaches_below-else-has, reaches_below-else-has-via-then-has+else-has-2, reaches_below-else-has-via-else-has}

-- ---- one plan

pub reaches-play-requires : goal.reaches-play-requires
reaches-play-requires t c =
    let s : State = record { position = c.args.position.now; left = c.args.left } in
    let is = ap plan_of c.in-Play.is ∙ plan_of-Play c.in-Play.card c.in-Play.rest in
    play.a_legal_card_can_be_played s c.in-Play.card (followed_state (plan_of c.args.plan.now) s c.requires) (follow_play _ _ _ s is c.requires).0

pub reaches-reaches-requires : goal.reaches-reaches-requires
reaches-reaches-requires t c =
    let is = ap plan_of c.in-Play.is ∙ plan_of-Play c.in-Play.card c.in-Play.rest ∙ ap (λ p. Play c.in-Play.card (plan_of p)) (sym c.deref.ensures) in
    (omega (arith, ap node_count is, c.decreases), rw (c.play.ensures.value, c.without.ensures.value) (follow_play _ _ _ _ is c.requires).1)

pub reaches-reaches_below-requires : goal.reaches-reaches_below-requires
reaches-reaches_below-requires t c =
    let is = ap plan_of c.in-Hear.is ∙ plan_of-Hear c.in-Hear.replies ∙ ap (λ rs. Hear (replies_of rs)) (sym c.deref-in-Hear.ensures.value) in
    (omega (arith, ap node_count is, c.decreases), follow_hear _ _ _ is c.requires)

pub reaches-returns-in-Hear : goal.reaches-returns-in-Hear
reaches-returns-in-Hear t c =
    let is = ap plan_of c.in-Hear.is ∙ plan_of-Hear c.in-Hear.replies ∙ ap (λ rs. Hear (replies_of rs)) (sym c.deref-in-Hear.ensures.value) in
    heard (λ rest place. true) _ _ _ _ _ _ _ c.in-Some.ensures.cases.0 is c.reaches_below.ensures

-- ---- the replies

pub reaches_below-play-after-requires : goal.reaches_below-play-after-requires
reaches_below-play-after-requires t c =
    let s : State = record { position = c.args.position.now; left = c.args.left } in
    let card = c.reply-item.result.card in
    let legal = sym (c.has-then-has.ensures.value ∙ ap (λ cards. has_card cards card) c.legal_in-legal.ensures) ∙ c.if-has-2.true in
    play.a_legal_card_can_be_played s card (followed_states (replies_of c.args.replies.now) s c.requires) legal

pub reaches_below-reaches-one-requires : goal.reaches_below-reaches-one-requires
reaches_below-reaches-one-requires t c =
    let s : State = record { position = c.args.position.now; left = c.args.left } in
    let card = c.reply-item.result.card in
    let next = replies_of-drop c.args.replies.now c.loop-reply.reply-index c.reply-item.result c.loop-reply-test.true c.reply-item.is in
    let legal = sym (c.has-then-has.ensures.value ∙ ap (λ cards. has_card cards card) c.legal_in-legal.ensures) ∙ c.if-has-2.true in
    let follow = follow_Reply card (plan_of c.reply-item.result.plan) _ s (subst (λ rs. CanFollowEach rs s) next c.loop-reply.invariant.follow) legal in
    (omega (arith, ap node_counts next, c.loop-reply.invariant.fewer, c.decreases), rw (c.play-after.ensures.value, c.without.ensures.value) follow)

pub reaches_below-loop-reply-preserved : goal.reaches_below-loop-reply-preserved
reaches_below-loop-reply-preserved t c =
    let s : State = record { position = c.args.position.now; left = c.args.left } in
    let card = c.reply-item.result.card in
    let plan = plan_of c.reply-item.result.plan in
    let later = replies_of (drop (c.loop-reply.reply-index + 1) c.args.replies.now) in
    let next = replies_of-drop c.args.replies.now c.loop-reply.reply-index c.reply-item.result c.loop-reply-test.true c.reply-item.is in
    let so_far = c.loop-reply.invariant in
    let follow = follow_later card plan _ s (subst (λ rs. CanFollowEach rs s) next so_far.follow) in
    let fewer : node_counts later ≤ node_counts (replies_of c.args.replies.now) = omega (arith, ap node_counts next, so_far.fewer) in
    elim c.if-has.branch [
      | reaches_below-then-has+then-has-2 w ↦
          (let in_set = sym c.has.ensures.value ∙ w.if-has.true in
          let legal = sym (w.has-then-has.ensures.value ∙ ap (λ cards. has_card cards card) c.legal_in-legal.ensures) ∙ w.if-has-2.true in
          let can = and_from (has_card c.args.set card) (has_card (legal_in s) card) in_set legal in
          record {
            follow = follow;
            reached = so_far.reached ∙ looked (λ rest place. true) c.args.set c.args.later.now _ card plan later next s c.loop-reply.found w.reaches-one.result _ can
                (rw (w.play-after.ensures.value, w.without.ensures.value) at w.reaches-one.ensures) w.found-is;
            fewer = fewer;
          })
      | reaches_below-else-has w ↦
          (let not_so : (has_card c.args.set card && has_card (legal_in s) card) ≡ false = elim w.else-has.branch [
            | reaches_below-else-has-via-then-has+else-has-2 v ↦
                and_right (has_card c.args.set card) (has_card (legal_in s) card)
                (sym (v.has-then-has.ensures.value ∙ ap (λ cards. has_card cards card) c.legal_in-legal.ensures) ∙ v.if-has-2.false)
            | reaches_below-else-has-via-else-has v ↦ and_left (has_card c.args.set card) (has_card (legal_in s) card) (sym c.has.ensures.value ∙ v.if-has.false)
          ] in
          record {
            follow = follow;
            reached = so_far.reached ∙ skipped (λ rest place. true) c.args.set c.args.later.now _ card plan later next s c.loop-reply.found _ not_so w.found-is;
            fewer = fewer;
          })
    ]
