use Rattle.std.proofs.Common.{◌≡◌, ◌≤◌, ◌+◌, ◌*◌, drop}
use Rattle.trick_rules.specs.Positions.{State}
use Rattle.strategy_games.specs.Misfits.{node_count, node_counts}
use Rattle.strategy_tree.specs.PlanMeaning.{plan_of, replies_of}
use Rattle.strategy_check.specs.Following.{CanFollowEach, win_each}
use Rattle.strategy_check.proofs.winning.+winning.Given as goal

abbrev pub decreases-wins_by : goal.decreases-wins_by
decreases-wins_by g l = 2 * node_count (plan_of l.plan.now)

abbrev pub decreases-win_against_each : goal.decreases-win_against_each
decreases-win_against_each g l = 2 * node_counts (replies_of l.replies.now) + 1

abbrev pub invariant-win_against_each-loop-reply : goal.invariant-win_against_each-loop-reply
invariant-win_against_each-loop-reply g l =
    let s : State = record { position = l.position; left = l.left } in
    record {
      follow : CanFollowEach (replies_of (drop l.reply-index l.replies)) s;
      so_far : win_each (replies_of l.replies) s ≡ win_each (replies_of (drop l.reply-index l.replies)) s;
      fewer : node_counts (replies_of (drop l.reply-index l.replies)) ≤ node_counts (replies_of l.replies);
    }
