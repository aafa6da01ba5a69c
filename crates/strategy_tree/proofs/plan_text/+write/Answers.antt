use Rattle.std.proofs.Common.{◌≡◌, ℕ, List, ◌++◌, length, rules, sym, ap, ◌∙◌, append_assoc}
use Rattle.strategy_tree.specs.PlanMeaning.{plan_of}
use Rattle.strategy_tree.specs.PlanText.{stop_line, play_line, on_line, plan_text, replies_text}
use Rattle.strategy_tree.proofs.Meanings.{plan_of-Stop, plan_of-Play, plan_of-Hear, length-cards_of, replies_of-drop}
use Rattle.strategy_tree.proofs.plan_text.+write.Goals as goal

pub write_plan-returns-in-Stop-clause-appended : goal.write_plan-returns-in-Stop-clause-appended
unfolding stop_line
write_plan-returns-in-Stop-clause-appended t c = rw (c.in-Stop.is, plan_of-Stop) c.push.ensures.appended

pub write_plan-returns-in_ok-write_card-in-Play-clause-appended :
    goal.write_plan-returns-in_ok-write_card-in-Play-clause-appended
unfolding play_line
write_plan-returns-in_ok-write_card-in-Play-clause-appended t c =
    rw (c.in-Play.is, plan_of-Play, ← append_assoc, ← c.in_ok-write_card-in-Play.ensures.appended, ← c.deref.ensures) c.write_plan.ensures.appended

pub write_plan-returns-in_ok-write_hear-in-Hear-clause-appended :
    goal.write_plan-returns-in_ok-write_hear-in-Hear-clause-appended
write_plan-returns-in_ok-write_hear-in-Hear-clause-appended t c =
    let count : length c.in-Hear.replies.items ≡ c.len.result = search rules in
    rw (c.in-Hear.is, plan_of-Hear, length-cards_of, ← append_assoc, count, ← c.in_ok-write_hear-in-Hear.ensures, ← c.deref-in-Hear.ensures.value) c.write_replies.ensures.appended

-- one more piece of a text
written_turn : (out line text later all now end whole : List ℕ) → now ≡ out ++ line → end ≡ now ++ text → all ≡ line ++ text ++ later → out ++ all ≡ whole → end ++ later ≡ whole
written_turn out line text later all now end whole lined written is so_far =
    rw (written, lined) (append_assoc (out ++ line) text later ∙ append_assoc out line (text ++ later) ∙ ap (λ more. out ++ more) (sym (append_assoc line text later) ∙ sym is) ∙ so_far)

pub write_replies-loop-reply-preserved : goal.write_replies-loop-reply-preserved
unfolding on_line
write_replies-loop-reply-preserved t c =
    let next = replies_of-drop c.args.replies.now c.loop-reply.reply-index c.reply-item.result c.loop-reply-test.true c.reply-item.is in
    record {
      written = written_turn c.loop-reply.out (on_line c.reply-item.result.card) (plan_text (plan_of c.reply-item.result.plan)) _ _ c.write_card.new.out c.write_plan.new.out _
          c.in_ok-write_card.ensures.appended c.in_ok-write_plan.ensures.appended (ap replies_text next) c.loop-reply.invariant.written;
      cards = λ later. c.loop-reply.invariant.cards (rw next (c.in_ok-write_card.ensures.one_of_52, c.in_ok-write_plan.ensures.cards, later));
    }
