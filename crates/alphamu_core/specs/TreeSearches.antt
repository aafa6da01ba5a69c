-- A search under way.
use Rattle.std.specs.Prelude.{◌≡◌, ◌+◌, ℕ, Bool, Result}
use Rattle.trick_rules.specs.Nodes.{NodeValue}
use Rattle.strategy_games.specs.Plans.{tree_size}
use Rattle.strategy_tree.specs.Bridge.{bridge}
use Rattle.alphamu_core.specs.declared.answers.RaceFault.{RaceFault}
use Rattle.alphamu_core.specs.declared.answers.RaceFault.TheVariants.{Spent}
use Rattle.alphamu_core.specs.declared.tree_search.TreeSearch.{TreeSearch}
use Rattle.alphamu_core.specs.Costs.{CostsBy, EntersEach}

module _ {S : Type 0} where
  -- a search goes on with the same store and budget, as the same runner and by the same rules; its store may have grown
  pub record IsSameSearch (grows : S → S → Type 0) (before after : TreeSearch S) : Type 0 where
    pub store : after.store.ghost_name ≡ before.store.ghost_name
    pub budget : after.budget.ghost_name ≡ before.budget.ghost_name
    pub nodes : after.budget.now.nodes ≡ before.budget.now.nodes
    pub runner : after.runner.now ≡ before.runner.now
    pub rules : after.rules ≡ before.rules
    pub grown : grows before.store.now after.store.now

  -- what it pays for a node,
  abbrev pub Pays : {T : Type 0} → Bool → NodeValue → ℕ → TreeSearch S → TreeSearch S → Result T RaceFault → Type 0
  Pays blind n moves before after result = CostsBy Spent (EntersEach before.rules blind) (tree_size bridge n moves)
      before.budget.now.left after.budget.now.left result

  -- and what for a node for which it has paid already
  abbrev pub PaysBelow : {T : Type 0} → Bool → NodeValue → ℕ → TreeSearch S → TreeSearch S → Result T RaceFault → Type 0
  PaysBelow blind n moves before after result = CostsBy Spent (EntersEach before.rules blind) (tree_size bridge n moves)
      (before.budget.now.left + 1) after.budget.now.left result
