-- What a search may enter, and what it has entered.
use Rattle.std.specs.Prelude.{ℕ}

-- how many nodes a budget allows, and how many of them may still be entered
pub record BudgetValue : Type 0 where
  pub nodes : ℕ
  pub left : ℕ
