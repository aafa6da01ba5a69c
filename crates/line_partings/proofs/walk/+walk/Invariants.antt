use Rattle.std.proofs.Common.{◌≤◌, ◌+◌, ◌*◌, length, drop}
use Rattle.strategy_games.specs.Plans.{Hear}
use Rattle.strategy_tree.specs.PlanMeaning.{plan_of, replies_of}
use Rattle.strategy_tree.specs.PlanText.{levels_of, levels_below}
use Rattle.line_partings.specs.Partings.{IsWhereTheyPart}
use Rattle.line_partings.proofs.walk.+walk.Given as goal

abbrev pub decreases-first_parting : goal.decreases-first_parting
decreases-first_parting l = 2 * levels_of (plan_of l.plan.now)

abbrev pub decreases-parting_replies : goal.decreases-parting_replies
decreases-parting_replies l = 2 * levels_below (replies_of l.replies.now) + 1

-- where the two part behind the replies from a place on
abbrev pub invariant-parting_replies-replies : goal.invariant-parting_replies-replies
invariant-parting_replies-replies l = record {
  within : l.place ≤ length l.replies;
  nearest : IsWhereTheyPart (Hear (replies_of (drop l.place l.replies))) (Hear (replies_of (drop l.place l.others))) l.found;
}

abbrev pub decreases-parting_replies-replies : goal.decreases-parting_replies-replies
decreases-parting_replies-replies l = l.place
