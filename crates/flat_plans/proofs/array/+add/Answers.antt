use Rattle.std.proofs.Common.{◌≡◌, ◌++◌, length, rules, append_assoc, arith, sym, ap, ◌∙◌, ◌∷◌, subst}
use Rattle.strategy_games.specs.Plans.{Play}
use Rattle.strategy_tree.specs.PlanMeaning.{plan_of, replies_of}
use Rattle.strategy_tree.proofs.Meanings.{plan_of-Play, plan_of-Hear, length-cards_of}
use Rattle.flat_plans.specs.Arrays.{ShowsAt, ShowEachAt}
use Rattle.flat_plans.proofs.Listed.{nodes_next, all_shown, card_shown}
use Rattle.flat_plans.proofs.array.+add.Goals as goal

pub add_replies-loop-reply-preserved : goal.add_replies-loop-reply-preserved
add_replies-loop-reply-preserved t c =
    let so_far = c.loop-reply.invariant.added in
    let more = c.in_ok-node.ensures.added in
    record {
      shown = λ first. nodes_next first c.loop-reply.later.items more.0 c.node_of.new.later.items c.args.replies.now c.loop-reply.nodes.items c.push.new.self.items c.loop-reply.reply-index c.reply-item.result c.in_ok-node.node
          more.1 c.in_ok-push.ensures.items c.loop-reply-test.true c.reply-item.is (c.loop-reply.invariant.shown first)
          (record { card = c.in_ok-node.ensures.card ∙ c.from.ensures ∙ c.number.ensures.value; plan = c.in_ok-node.ensures.shown first });
      added = (so_far.0 ++ more.0, more.1 ∙ ap (λ all. all ++ more.0) so_far.1 ∙ append_assoc c.args.later.now.items so_far.0 more.0);
    }

pub add_replies-returns-clause-shown : goal.add_replies-returns-clause-shown
add_replies-returns-clause-shown t c = λ first.
    let counted : c.len-place.result ≡ length c.loop-reply.later.items = search rules in
    all_shown first c.loop-reply.later.items c.loop-reply.nodes.items c.deref.result.now c.extend_from_slice.new.self.items c.args.replies.now c.loop-reply.reply-index c.len-place.result
    c.deref.ensures.value c.in_ok-extend_from_slice.ensures.items counted (omega (arith, c.loop-reply-test.false)) (c.loop-reply.invariant.shown first)

pub node_of-returns-in_ok-push-in-Play-clause-shown : goal.node_of-returns-in_ok-push-in-Play-clause-shown
node_of-returns-in_ok-push-in-Play-clause-shown t c = λ first.
    let counted : c.len-first_reply.result ≡ length c.node_of.new.later.items = search rules in
    card_shown first c.node_of.new.later.items c.push.new.self.items c.in_ok-node-in-Play.node c.in-Play.next (plan_of c.deref.result.now) (plan_of c.args.plan.now) c.len-first_reply.result
    (c.in_ok-node-in-Play.ensures.card ∙ c.from.ensures ∙ c.number.ensures.value) c.in_ok-push-in-Play.ensures.items counted
    (ap plan_of c.in-Play.is ∙ plan_of-Play c.in-Play.next c.in-Play.rest ∙ ap (λ plan. Play c.in-Play.next (plan_of plan)) (sym c.deref.ensures)) (c.in_ok-node-in-Play.ensures.shown first)

pub node_of-returns-in_ok-first_reply-in-Hear-clause-shown : goal.node_of-returns-in_ok-first_reply-in-Hear-clause-shown
node_of-returns-in_ok-first_reply-in-Hear-clause-shown t c = λ first.
    let nodes = first ∷ c.add_replies.new.later.items in
    let place = c.in_ok-first_reply-in-Hear.first_reply in
    let replies = c.in-Hear.replies in
    let count : c.len.result ≡ length replies.items = search rules in
    subst (λ plan. ShowsAt nodes plan place c.len.result) (sym (ap plan_of c.in-Hear.is ∙ plan_of-Hear replies))
    (count ∙ sym (length-cards_of replies.items), subst (λ all. ShowEachAt nodes (replies_of all) place) c.deref-in-Hear.ensures.value (c.in_ok-first_reply-in-Hear.ensures.shown first))
