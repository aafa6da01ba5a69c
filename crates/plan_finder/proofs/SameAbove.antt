-- Searches above a target that go on.
use Rattle.std.proofs.Common.{◌∙◌, refl}
use Rattle.plan_finder.specs.declared.above.AboveSearch.{AboveSearch}
use Rattle.plan_finder.specs.AboveSearches.{IsSameAbove}

module _ {S : Type 0} {grows : S → S → Type 0} where
  pub above_none : ((store : S) → grows store store) → (now : AboveSearch S) → IsSameAbove grows now now
  above_none none now = record { store = refl; budget = refl; nodes = refl; grown = none now.store.now }

  pub above_more : ((early middle late : S) → grows early middle → grows middle late → grows early late) → {early middle late : AboveSearch S} → IsSameAbove grows early middle → IsSameAbove grows middle late → IsSameAbove grows early late
  above_more more {early} {middle} {late} a b = record {
    store = b.store ∙ a.store;
    budget = b.budget ∙ a.budget;
    nodes = b.nodes ∙ a.nodes;
    grown = more early.store.now middle.store.now late.store.now a.grown b.grown;
  }
