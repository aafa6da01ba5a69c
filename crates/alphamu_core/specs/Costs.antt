-- What a search pays.
use Rattle.std.specs.Prelude.{◌≡◌, ◌+◌, ◌<◌, ◌≤◌, ℕ, Bool, true, Result, IfOk, IsErrOf}
use Rattle.cut_rules.specs.declared.CutRules.{CutRules}
use Rattle.cut_rules.specs.Rules.{no_cuts}
use Rattle.alphamu_core.specs.declared.answers.SearchFault.{SearchFault}
use Rattle.alphamu_core.specs.declared.answers.SearchFault.TheVariants.{Spent}
use Rattle.alphamu_core.specs.declared.budget.Entered.{Entered}

-- a search that makes no cut, over a store that never has a front, enters each node of the tree
abbrev pub EntersEach : CutRules → Bool → Type 0
EntersEach rules blind = (rules ≡ no_cuts) × (blind ≡ true)

-- a search of a tree of this size pays for one node at least and for each node at most, and ends with the fault that says that it
-- is spent only where the tree is larger than the budget; where it enters each node it pays for each
pub record CostsBy {T E : Type 0} (spent_fault : E) (Each : Type 0) (size before after : ℕ) (result : Result T E) : Type 0 where
  pub counts : Each → IfOk result (λ _. after + size ≡ before)
  pub spent : IsErrOf result spent_fault → before < size
  pub entered : IfOk result (λ _. after < before)
  pub never_rises : after ≤ before
  pub falls : before ≤ after + size

-- the same of a search in no race
abbrev pub Costs : {T : Type 0} → Type 0 → ℕ → ℕ → ℕ → Result T SearchFault → Type 0
Costs Each size before after result = CostsBy Spent Each size before after result

-- a search with this budget entered one node at least, and no more nodes than the budget allows
pub record IsWithin (nodes : ℕ) (entered : Entered) : Type 0 where
  pub budget : entered.nodes ≡ nodes
  pub some : 1 ≤ entered.count
  pub most : entered.count ≤ nodes
