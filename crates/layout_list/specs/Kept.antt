-- What is kept of a layout file, and what the play has ruled out.
use Rattle.std.specs.Prelude.{ℕ, List}
use Rattle.trick_rules.specs.Nodes.{NodeValue}
use Rattle.layout_list.specs.declared.kept.Dropped.{Dropped}

-- the numbers of the kept layouts, the dropped layouts, the position after the plays with the kept layouts, and the weight of
-- each kept layout
pub record KeptValue : Type 0 where
  pub numbers : List ℕ
  pub dropped : List Dropped
  pub node : NodeValue
  pub weights : List ℕ
