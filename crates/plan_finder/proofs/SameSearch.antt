-- Searches for a plan that go on.
use Rattle.std.proofs.Common.{◌∙◌, ◌<◌, ℕ, Option, IfSome, refl, subst}
use Rattle.alphamu_core.specs.Costs.{IsWithin}
use Rattle.alphamu_core.specs.declared.budget.Entered.{Entered}
use Rattle.plan_finder.specs.declared.searches.PlanSearch.{PlanSearch}
use Rattle.plan_finder.specs.PlanSearches.{IsSameSearch}

module _ {S : Type 0} {grows : S → S → Type 0} where
  pub same_none : ((store : S) → grows store store) → (now : PlanSearch S) → IsSameSearch grows now now
  same_none none now = record { store = refl; nodes = refl; rules = refl; grown = none now.store.now }

  pub same_more : ((early middle late : S) → grows early middle → grows middle late → grows early late) → {early middle late : PlanSearch S} → IsSameSearch grows early middle → IsSameSearch grows middle late → IsSameSearch grows early late
  same_more more {early} {middle} {late} a b = record {
    store = b.store ∙ a.store;
    nodes = b.nodes ∙ a.nodes;
    rules = b.rules ∙ a.rules;
    grown = more early.store.now middle.store.now late.store.now a.grown b.grown;
  }

  module _ {before after : PlanSearch S} (same : IsSameSearch grows before after) where
    pub still_within : (entered : Entered) → IsWithin after.nodes entered → IsWithin before.nodes entered
    still_within entered within = subst (λ nodes. IsWithin nodes entered) same.nodes within

    pub most_within : (most : Option Entered) → IfSome most (IsWithin after.nodes) → IfSome most (IsWithin before.nodes)
    most_within most within = subst (λ nodes. IfSome most (IsWithin nodes)) same.nodes within

    pub still_larger : (size : ℕ) → after.nodes < size → before.nodes < size
    still_larger size larger = subst (λ nodes. nodes < size) same.nodes larger
