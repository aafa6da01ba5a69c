use Rattle.std.proofs.Common.{◌≡◌, map, take}
use Rattle.strategy_tree.specs.PlanMeaning.{answer_of}
use Rattle.strategy_tree.proofs.plan.+copy.Given as goal

abbrev pub invariant-copy_replies-loop-reply : goal.invariant-copy_replies-loop-reply
invariant-copy_replies-loop-reply l =
    map answer_of l.copies.items ≡ map answer_of (take l.reply-index l.replies)
