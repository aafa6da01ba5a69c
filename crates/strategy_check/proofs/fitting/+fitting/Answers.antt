use Rattle.std.proofs.Common.{◌∙◌, sym, ap}
use Rattle.strategy_games.specs.Plans.{Play, Hear}
use Rattle.strategy_tree.specs.PlanMeaning.{plan_of, replies_of}
use Rattle.strategy_tree.proofs.Meanings.{plan_of-Play, plan_of-Hear, replies_of-drop}
use Rattle.strategy_check.proofs.Misfits.{count-Play, count-Hear, next_choice, later_choices, later_room, later_count}
use Rattle.strategy_check.proofs.fitting.+fitting.Goals as goal

pub count_fitting-returns-in-Play : goal.count_fitting-returns-in-Play
count_fitting-returns-in-Play t c =
    let is = ap plan_of c.in-Play.is ∙ plan_of-Play c.in-Play.card c.in-Play.rest ∙ ap (λ p. Play c.in-Play.card (plan_of p)) (sym c.deref.ensures) in
    count-Play (plan_of c.args.plan.now) c.in-Play.card (plan_of c.deref.result.now) c.args.node.now c.child.result c.args.moves c.args.before c.count_fitting.result is (sym c.belongs.ensures ∙ c.if-not-belongs.false) c.child.ensures c.count_fitting.ensures

pub count_fitting-returns-in-Hear : goal.count_fitting-returns-in-Hear
count_fitting-returns-in-Hear t c =
    let is = ap plan_of c.in-Hear.is ∙ plan_of-Hear c.in-Hear.replies ∙ ap (λ rs. Hear (replies_of rs)) (sym c.deref-in-Hear.ensures.value) in
    count-Hear (plan_of c.args.plan.now) (replies_of c.deref-in-Hear.result.now) c.args.node.now c.args.moves c.args.before c.count_fitting_replies.result is (sym c.belongs.ensures ∙ c.if-not-belongs.false) c.count_fitting_replies.ensures

pub count_fitting_replies-child-requires : goal.count_fitting_replies-child-requires
count_fitting_replies-child-requires t c =
    let next = replies_of-drop c.args.replies.now c.loop-reply.reply-index c.reply-item.result c.loop-reply-test.true c.reply-item.is in
    next_choice c.args.node.now c.args.moves _ c.reply-item.result.card (plan_of c.reply-item.result.plan) _ next c.loop-reply.invariant.cards

pub count_fitting_replies-loop-reply-preserved : goal.count_fitting_replies-loop-reply-preserved
count_fitting_replies-loop-reply-preserved t c =
    let next = replies_of-drop c.args.replies.now c.loop-reply.reply-index c.reply-item.result c.loop-reply-test.true c.reply-item.is in
    let card = c.reply-item.result.card in
    let plan = plan_of c.reply-item.result.plan in
    record {
      room = later_room c.args.node.now c.args.moves _ card plan _ next c.child.result c.loop-reply.last c.in_ok-last.last c.child.ensures c.in_ok-last.ensures c.loop-reply.invariant.room;
      cards = later_choices c.args.node.now c.args.moves _ card plan _ next c.loop-reply.invariant.cards;
      so_far = c.loop-reply.invariant.so_far ∙ later_count c.args.node.now c.args.moves _ card plan _ next c.child.result c.loop-reply.last c.in_ok-last.last c.child.ensures c.in_ok-last.ensures;
    }
