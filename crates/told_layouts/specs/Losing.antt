-- How a strategy loses a layout that double dummy makes.
use Rattle.std.specs.Prelude.{◌≡◌, ◌↔◌, ℕ, true, false, List, Contains}
use Rattle.trick_rules.specs.Positions.{State}
use Rattle.trick_rules.specs.Play.{makes}
use Rattle.trick_rules.specs.Nodes.{NodeValue, IsNode, states}
use Rattle.strategy_games.specs.Plans.{Plan, Fits, wins}
use Rattle.strategy_tree.specs.Bridge.{bridge}
use Rattle.told_layouts.specs.Places.{CanReach, IsGivenUpAt}
use Rattle.told_layouts.specs.Looking.{step_layouts, reached}
use Rattle.told_layouts.specs.Behind.{AreThose, AreBehind}

-- of the layouts that double dummy makes, a strategy loses exactly those that its card gives up at some step
abbrev pub LosesWhatItGivesUp : Type 0
LosesWhatItGivesUp =
    (plan : Plan ℕ) (n : NodeValue) (moves : ℕ) (s : State) → IsNode n → Fits bridge plan n moves → Contains (states n) s → makes s ≡ true
    → (wins bridge plan s ≡ false) ↔ ((sets : List (List ℕ)) × IsGivenUpAt sets plan s)

-- of every step of a strategy, those looked up are the layouts behind it
abbrev pub StepLayoutsAreBehind : Type 0
StepLayoutsAreBehind =
    (plan : Plan ℕ) (n : NodeValue) (moves : ℕ) (sets : List (List ℕ)) → IsNode n → Fits bridge plan n moves
    → AreBehind sets plan n (step_layouts plan n sets)

-- of every step of a strategy, those that are looked up are the layouts that can reach it
abbrev pub ReachedCanReach : Type 0
ReachedCanReach =
    (plan : Plan ℕ) (n : NodeValue) (moves : ℕ) (sets : List (List ℕ)) → IsNode n → Fits bridge plan n moves
    → AreThose (λ s. CanReach sets plan s) (states n) (reached plan n sets)
