use Rattle.std.proofs.Common.{◌≡◌, ◌≤◌, ◌+◌, ◌*◌, ◌||◌, true, drop}
use Rattle.trick_rules.specs.Positions.{State}
use Rattle.strategy_games.specs.Misfits.{node_count, node_counts}
use Rattle.strategy_tree.specs.PlanMeaning.{plan_of, replies_of}
use Rattle.strategy_check.specs.Following.{CanFollowEach}
use Rattle.told_layouts.specs.Looking.{somewhere_below}
use Rattle.told_layouts.proofs.reaching.+reaching.Given as goal

abbrev pub decreases-reaches : goal.decreases-reaches
decreases-reaches l = 2 * node_count (plan_of l.plan.now)

abbrev pub decreases-reaches_below : goal.decreases-reaches_below
decreases-reaches_below l = 2 * node_counts (replies_of l.replies.now) + 1

abbrev pub invariant-reaches_below-loop-reply : goal.invariant-reaches_below-loop-reply
invariant-reaches_below-loop-reply l =
    let s : State = record { position = l.position; left = l.left } in
    let left = replies_of (drop l.reply-index l.replies) in
    record {
      follow : CanFollowEach left s;
      reached : somewhere_below (λ rest place. true) l.set l.later (replies_of l.replies) s ≡ (l.found || somewhere_below (λ rest place. true) l.set l.later left s);
      fewer : node_counts left ≤ node_counts (replies_of l.replies);
    }
