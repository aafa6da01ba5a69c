use Rattle.std.proofs.Common.{◌≡◌, drop, Contains}
use Rattle.strategy_games.specs.Plans.{cards_of}
use Rattle.strategy_tree.specs.PlanMeaning.{replies_of}
use Rattle.am_match.specs.PlayOuts.{reply_to as reply_in}
use Rattle.am_match.proofs.following.reply_to.Given as goal

abbrev pub invariant-loop-reply : goal.invariant-loop-reply
invariant-loop-reply l = record {
  among : Contains (cards_of (replies_of (drop l.reply-index l.replies))) l.card;
  same : reply_in (replies_of l.replies) l.card ≡ reply_in (replies_of (drop l.reply-index l.replies)) l.card;
}
