use Rattle.std.proofs.Common.{◌≡◌, ◌++◌, ◌∷◌, List, take}
use Rattle.flat_plans.specs.declared.node.PlanNode.{PlanNode}
use Rattle.flat_plans.proofs.Listed.{AreNodesOf}
use Rattle.flat_plans.proofs.array.+add.Given as goal

abbrev pub invariant-add_replies-loop-reply : goal.invariant-add_replies-loop-reply
invariant-add_replies-loop-reply l = record {
  shown : (first : PlanNode) → AreNodesOf (first ∷ l.later.items) (take l.reply-index l.replies) l.nodes.items;
  added : (added : List PlanNode) × (l.later.items ≡ l.initial.later.items ++ added);
}
