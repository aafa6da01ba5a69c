use Rattle.std.proofs.Common.{◌≡◌, drop}
use Rattle.strategy_tree.specs.PlanMeaning.{replies_of}
use Rattle.told_plans.specs.Follows.{answer_to}
use Rattle.told_plans.proofs.answers.answer.Given as goal

abbrev pub invariant-loop-reply : goal.invariant-loop-reply
invariant-loop-reply l =
    answer_to (replies_of l.replies) l.card ≡ answer_to (replies_of (drop l.reply-index l.replies)) l.card
