-- Fronts under the keys of nodes, which are equivalent nodes.
use Rattle.std.proofs.Common.{ℕ, sym, ◌∙◌}
use Rattle.pareto_fronts.specs.FrontValue.{FrontValue}
use Rattle.trick_rules.specs.Nodes.{NodeValue}
use Rattle.front_table.specs.Proven.{IsFrontAt}
use Rattle.equivalent_nodes.specs.Ranks.{AreEquivalent}

-- what the store has under the key is the front of the node
pub front_from_key : (n key : NodeValue) (moves : ℕ) (front : FrontValue) → AreEquivalent n key → IsFrontAt key moves front → IsFrontAt n moves front
front_from_key n key moves front same at = record { front = (same.one_front moves front.vectors).1 at.front; width = at.width ∙ sym same.layouts }

-- and the front of the node may be stored under the key
pub front_to_key : (n key : NodeValue) (moves : ℕ) (front : FrontValue) → AreEquivalent n key → IsFrontAt n moves front → IsFrontAt key moves front
front_to_key n key moves front same at = record { front = (same.one_front moves front.vectors).0 at.front; width = at.width ∙ same.layouts }
