use Rattle.std.proofs.Common.{◌≡◌, ◌+◌, ◌<◌, ◌^◌, ◌==◌, ℕ, Contains, drop}
use Rattle.trick_rules.specs.Nodes.{choices}
use Rattle.strategy_games.specs.Plans.{cards_of}
use Rattle.strategy_games.specs.Misfits.{node_counts, first_misfit_each}
use Rattle.strategy_tree.specs.Bridge.{bridge}
use Rattle.strategy_tree.specs.PlanMeaning.{replies_of}
use Rattle.strategy_check.specs.Counting.{counted_nodes}
use Rattle.strategy_check.proofs.fitting.+fitting.Given as goal

abbrev pub invariant-count_fitting_replies-loop-reply : goal.invariant-count_fitting_replies-loop-reply
invariant-count_fitting_replies-loop-reply l = record {
  room : l.last + node_counts (replies_of (drop l.reply-index l.replies)) < 2 ^ 32;
  cards : (card : ℕ) → Contains (cards_of (replies_of (drop l.reply-index l.replies))) card → Contains (choices l.node) card;
  so_far : counted_nodes l.before (node_counts (replies_of l.replies)) (first_misfit_each bridge ◌==◌ (replies_of l.replies) l.node l.moves)
      ≡ counted_nodes l.last (node_counts (replies_of (drop l.reply-index l.replies))) (first_misfit_each bridge ◌==◌ (replies_of (drop l.reply-index l.replies)) l.node l.moves);
}
