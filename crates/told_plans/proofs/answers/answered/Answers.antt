use Rattle.std.proofs.Common.{◌∙◌, ◌+◌, drop, sym, ap, arith}
use Rattle.std.specs.Prelude.{◌||◌, is_some}
use Rattle.std.proofs.lemmas.List.{drop_all}
use Rattle.card_sets.specs.SetWords.{has_card}
use Rattle.strategy_tree.specs.PlanMeaning.{plan_of, replies_of}
use Rattle.strategy_tree.proofs.Meanings.{replies_of-drop}
use Rattle.told_plans.specs.Follows.{answer_to}
use Rattle.told_plans.proofs.MergedReplies.{answered_more, answered_all}
use Rattle.told_plans.proofs.answers.answered.Goals as goal

pub loop-reply-preserved : goal.loop-reply-preserved
loop-reply-preserved c =
    let next = replies_of-drop c.args.replies.now c.loop-reply.reply-index c.reply-item.result c.loop-reply-test.true c.reply-item.is in
    record {
      a_set = c.with-cards.ensures.a_set;
      each = λ card. ap (λ cards. has_card cards card || is_some (answer_to (replies_of (drop (c.loop-reply.reply-index + 1) c.args.replies.now)) card)) c.with-cards.ensures.value
          ∙ answered_more c.loop-reply.cards (replies_of (drop c.loop-reply.reply-index c.args.replies.now)) c.reply-item.result.card (plan_of c.reply-item.result.plan) _ card c.loop-reply.invariant.a_set (omega (arith, c.number-number.ensures.below)) next
          ∙ c.loop-reply.invariant.each card;
    }

pub returns-clause-value : goal.returns-clause-value
returns-clause-value c =
    answered_all c.loop-reply.cards (replies_of c.args.replies.now) c.loop-reply.invariant.a_set
    (λ d. ap (λ rs. has_card c.loop-reply.cards d || is_some (answer_to (replies_of rs) d)) (sym (drop_all c.loop-reply.reply-index c.args.replies.now c.loop-reply-test.false)) ∙ c.loop-reply.invariant.each d)
