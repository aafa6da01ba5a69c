-- What the searches at the node of a question need.
use Rattle.std.specs.Prelude.{◌≡◌, ⊤, length}
use Rattle.strategy_tree.specs.RootTrees.{IsSpentAt}
use Rattle.strategy_tree.specs.declared.root_fault.RootFault.{RootFault}
use Rattle.strategy_tree.specs.declared.root_fault.RootFault.TheVariants.{Spent, Memory}
use Rattle.bit_questions.specs.declared.asked.Asked.{Asked}
use Rattle.bit_questions.specs.Causes.{CanChoose}
use Rattle.bit_questions.specs.Numbers.{AreMoves}

-- declarer's side is to play, each layout has a weight, and there are 1 to 26 moves
pub record IsReady (asked : Asked) : Type 0 where
  pub turn : CanChoose asked.node.position
  pub weighed : length asked.weights ≡ length asked.node.lefts
  pub moves : AreMoves asked.moves

-- why a search there may end with no answer: a root card's tree is too large, or no memory
abbrev pub IsSearchFault : Asked → RootFault → Type 0
IsSearchFault asked (Spent card) = IsSpentAt asked.node asked.moves asked.nodes card
IsSearchFault asked Memory = ⊤
