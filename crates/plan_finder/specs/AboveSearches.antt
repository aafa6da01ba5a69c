-- A search above a target that is under way.
use Rattle.std.specs.Prelude.{◌≡◌}
use Rattle.plan_finder.specs.declared.above.AboveSearch.{AboveSearch}

-- it goes on with the same store and budget; the store may have grown
pub record IsSameAbove {S : Type 0} (grows : S → S → Type 0) (before after : AboveSearch S) : Type 0 where
  pub store : after.store.ghost_name ≡ before.store.ghost_name
  pub budget : after.budget.ghost_name ≡ before.budget.ghost_name
  pub nodes : after.budget.now.nodes ≡ before.budget.now.nodes
  pub grown : grows before.store.now after.store.now
