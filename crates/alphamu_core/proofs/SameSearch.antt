-- A search that goes on.
use Rattle.std.proofs.Common.{◌≡◌, ◌∙◌, ℕ, Bool, true, Result, refl, sym, ap, subst}
use Rattle.cut_rules.specs.declared.CutRules.{CutRules}
use Rattle.alphamu_core.specs.declared.tree_search.TreeSearch.{TreeSearch}
use Rattle.alphamu_core.specs.Costs.{CostsBy, EntersEach}
use Rattle.alphamu_core.specs.TreeSearches.{IsSameSearch}

module _ {S : Type 0} {grows : S → S → Type 0} where
  pub same_none : ((store : S) → grows store store) → (now : TreeSearch S) → IsSameSearch grows now now
  same_none none now = record {
    store = refl;
    budget = refl;
    nodes = refl;
    runner = refl;
    rules = refl;
    grown = none now.store.now;
  }

  pub same_more : ((early middle late : S) → grows early middle → grows middle late → grows early late) → {early middle late : TreeSearch S} → IsSameSearch grows early middle → IsSameSearch grows middle late → IsSameSearch grows early late
  same_more more {early} {middle} {late} a b = record {
    store = b.store ∙ a.store;
    budget = b.budget ∙ a.budget;
    nodes = b.nodes ∙ a.nodes;
    runner = b.runner ∙ a.runner;
    rules = b.rules ∙ a.rules;
    grown = more early.store.now middle.store.now late.store.now a.grown b.grown;
  }

  pub still_early : {before after : TreeSearch S} → IsSameSearch grows before after → after.rules.early ≡ true → before.rules.early ≡ true
  still_early same on = sym (ap (λ (rules : CutRules). rules.early) same.rules) ∙ on

-- what it costs by the rules that it has from the start
pub costs_by : {T E : Type 0} {spent : E} {rules other : CutRules} {blind : Bool} {size before after : ℕ} {result : Result T E} → other ≡ rules → CostsBy spent (EntersEach other blind) size before after result → CostsBy spent (EntersEach rules blind) size before after result
costs_by {T} {E} {spent} {rules} {other} {blind} {size} {before} {after} {result} same costs = subst (λ r. CostsBy spent (EntersEach r blind) size before after result) same costs
