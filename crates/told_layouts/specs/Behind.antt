-- The layouts behind a step.
use Rattle.std.specs.Prelude.{◌≡◌, ◌↔◌, ℕ, true, List}
use Rattle.std.specs.List.{AllZip}
use Rattle.win_vectors.specs.Fronts.{Vector}
use Rattle.trick_rules.specs.Positions.{State}
use Rattle.trick_rules.specs.Nodes.{NodeValue, states}
use Rattle.strategy_games.specs.Plans.{Plan}
use Rattle.told_layouts.specs.declared.steps.StepLayouts.{StepLayouts}
use Rattle.told_layouts.specs.Places.{CanReach, IsWonFrom, IsLostFrom, IsGivenUpAt}

-- a 1 at exactly those layouts of which this is so
abbrev pub AreThose : (State → Type 0) → List State → Vector → Type 0
AreThose IsSo layouts bits = AllZip (λ s bit. (bit ≡ true) ↔ IsSo s) layouts bits

-- the layouts that can reach the step and are won from there, those that are lost from there, and those that its card gives up
pub record AreBehind (sets : List (List ℕ)) (plan : Plan ℕ) (n : NodeValue) (layouts : StepLayouts) : Type 0 where
  pub won : AreThose (λ s. CanReach sets plan s × IsWonFrom sets plan s) (states n) layouts.won
  pub lost : AreThose (λ s. IsLostFrom sets plan s) (states n) layouts.lost
  pub given_up : AreThose (λ s. IsGivenUpAt sets plan s) (states n) layouts.given_up
