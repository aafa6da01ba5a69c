use Rattle.std.proofs.Common.{◌+◌, ◌*◌, drop}
use Rattle.strategy_games.specs.Misfits.{node_count, node_counts}
use Rattle.strategy_tree.specs.PlanMeaning.{plan_of, replies_of}
use Rattle.told_layouts.proofs.Looked.{IsLookedAt}
use Rattle.told_layouts.proofs.standing.+standing.Given as goal

abbrev pub decreases-standing_at : goal.decreases-standing_at
decreases-standing_at l = 2 * node_count (plan_of l.plan.now)

abbrev pub decreases-standing_below : goal.decreases-standing_below
decreases-standing_below l = 2 * node_counts (replies_of l.replies.now) + 1

abbrev pub invariant-standing_below-loop-reply : goal.invariant-standing_below-loop-reply
invariant-standing_below-loop-reply l = IsLookedAt l.set l.later (replies_of l.replies) (replies_of (drop l.reply-index l.replies)) (record { position = l.position; left = l.left }) l.all
