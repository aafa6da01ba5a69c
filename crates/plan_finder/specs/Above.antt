-- The vectors of a front that dominate a target.
use Rattle.std.specs.Prelude.{◌≡◌, ℕ, List, length, Contains}
use Rattle.win_vectors.specs.Fronts.{Vector, Dominates, IsFrontOf}
use Rattle.trick_rules.specs.Nodes.{NodeValue}
use Rattle.pareto_fronts.specs.FrontValue.{FrontValue}
use Rattle.front_table.specs.Proven.{IsFrontAt}

-- the list is the front of those vectors of another that dominate the target
abbrev pub IsPartAbove : Vector → List Vector → List Vector → Type 0
IsPartAbove target front part = IsFrontOf (λ v. Contains front v × Dominates v target) part

-- they are the vectors of the node's front that dominate the target
pub record AreAbove (n : NodeValue) (moves : ℕ) (target : Vector) (found : FrontValue) : Type 0 where
  pub whole : FrontValue
  pub front : IsFrontAt n moves whole
  pub part : IsPartAbove target whole.vectors found.vectors
  pub width : found.width ≡ length n.lefts
