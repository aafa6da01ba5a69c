-- What a search for one strategy pays.
use Rattle.std.specs.Prelude.{◌≡◌, ◌<◌, ◌≤◌, Result, IfOk, IsErrOf}
use Rattle.alphamu_core.specs.Budgets.{BudgetValue}
use Rattle.alphamu_core.specs.declared.answers.SearchFault.{SearchFault}
use Rattle.alphamu_core.specs.declared.answers.SearchFault.TheVariants.{Spent}

-- a search pays for one node at least, and is spent only if nothing is left to pay with
pub record Pays {T : Type 0} (before after : BudgetValue) (result : Result T SearchFault) : Type 0 where
  pub spent : IsErrOf result Spent → after.left ≡ 0
  pub entered : IfOk result (λ _. after.left < before.left)
  pub never_rises : after.left ≤ before.left
  pub nodes : after.nodes ≡ before.nodes

-- the same below a node that was paid for
pub record PaysBelow {T : Type 0} (before after : BudgetValue) (result : Result T SearchFault) : Type 0 where
  pub spent : IsErrOf result Spent → after.left ≡ 0
  pub never_rises : after.left ≤ before.left
  pub nodes : after.nodes ≡ before.nodes
