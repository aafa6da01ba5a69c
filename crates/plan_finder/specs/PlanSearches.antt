-- The searches for a plan.
use Rattle.std.specs.Prelude.{◌≡◌}
use Rattle.plan_finder.specs.declared.searches.PlanSearch.{PlanSearch}

-- they go on with the same store, with as many nodes for each and by the same rules; the store may have grown
pub record IsSameSearch {S : Type 0} (grows : S → S → Type 0) (before after : PlanSearch S) : Type 0 where
  pub store : after.store.ghost_name ≡ before.store.ghost_name
  pub nodes : after.nodes ≡ before.nodes
  pub rules : after.rules ≡ before.rules
  pub grown : grows before.store.now after.store.now
