-- A search for what is assured, under way.
use Rattle.std.specs.Prelude.{◌≡◌, ◌+◌, ◌<◌, ℕ, false, Result}
use Rattle.trick_rules.specs.Nodes.{NodeValue}
use Rattle.strategy_games.specs.Plans.{tree_size}
use Rattle.strategy_tree.specs.Bridge.{bridge}
use Rattle.alphamu_core.specs.declared.answers.SearchFault.{SearchFault}
use Rattle.alphamu_core.specs.Costs.{Costs}
use Rattle.assured_fronts.specs.AssuredAt.{AllMade, claims}
use Rattle.assured_fronts.specs.declared.search.AssuredSearch.{AssuredSearch}

-- play goes on at a node with these moves, and double dummy makes each of its layouts
pub record GoesOnMade (n : NodeValue) (moves : ℕ) : Type 0 where
  pub goes_on : claims n ≡ false
  pub some : 0 < moves
  pub made : AllMade n

-- it goes on with the same budget
pub record IsSameSearch (before after : AssuredSearch) : Type 0 where
  pub budget : after.budget.ghost_name ≡ before.budget.ghost_name
  pub nodes : after.budget.now.nodes ≡ before.budget.now.nodes

-- what it pays for a node: for one at least, and for no more than the tree of αμ has,
abbrev pub Pays : {T : Type 0} → NodeValue → ℕ → AssuredSearch → AssuredSearch → Result T SearchFault → Type 0
Pays n moves before after result = Costs ⊥ (tree_size bridge n moves) before.budget.now.left after.budget.now.left result

-- and what for a node for which it has paid already
abbrev pub PaysBelow : {T : Type 0} → NodeValue → ℕ → AssuredSearch → AssuredSearch → Result T SearchFault → Type 0
PaysBelow n moves before after result = Costs ⊥ (tree_size bridge n moves) (before.budget.now.left + 1) after.budget.now.left result
