use Rattle.std.proofs.Common.{◌≡◌, ◌++◌, drop}
use Rattle.strategy_tree.specs.PlanMeaning.{replies_of}
use Rattle.strategy_tree.specs.PlanText.{replies_text, HaveCards}
use Rattle.strategy_tree.proofs.plan_text.+write.Given as goal

abbrev pub invariant-write_replies-loop-reply : goal.invariant-write_replies-loop-reply
invariant-write_replies-loop-reply l = record {
  written : l.out ++ replies_text (replies_of (drop l.reply-index l.replies)) ≡ l.initial.out ++ replies_text (replies_of l.replies);
  cards : HaveCards (replies_of (drop l.reply-index l.replies)) → HaveCards (replies_of l.replies);
}
