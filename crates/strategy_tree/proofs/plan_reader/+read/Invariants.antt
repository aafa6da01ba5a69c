use Rattle.std.proofs.Common.{◌≡◌, ◌≤◌, ◌+◌, ◌-◌, ◌*◌, length, map}
use Rattle.strategy_tree.specs.PlanMeaning.{answer_of}
use Rattle.strategy_tree.specs.PlanRead.{node_read, replies_read}
use Rattle.strategy_tree.proofs.ReadingNodes.{after_answers}
use Rattle.strategy_tree.proofs.plan_reader.+read.Given as goal

abbrev pub decreases-read_node : goal.decreases-read_node
decreases-read_node l = 2 * l.levels

abbrev pub decreases-read_replies : goal.decreases-read_replies
decreases-read_replies l = 2 * l.levels + 1

abbrev pub invariant-read_replies-loop : goal.invariant-read_replies-loop
invariant-read_replies-loop l = record {
  within : l.at ≤ length l.bytes;
  so_far : replies_read (λ at. node_read l.levels l.bytes at) l.count l.bytes l.start
      ≡ after_answers (map answer_of l.replies.items) (replies_read (λ at. node_read l.levels l.bytes at) (l.count - l.counter) l.bytes l.at);
}
