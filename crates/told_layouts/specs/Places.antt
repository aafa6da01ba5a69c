-- A step of a told plan, and the places that it stands for in a layout.
use Rattle.std.specs.Prelude.{◌≡◌, ℕ, true, false, Some, List, [], ◌∷◌}
use Rattle.card_sets.specs.SetWords.{has_card}
use Rattle.trick_rules.specs.Positions.{State}
use Rattle.trick_rules.specs.Play.{legal_in, after, makes}
use Rattle.strategy_games.specs.Plans.{Plan, Stop, Play, Hear, wins}
use Rattle.strategy_tree.specs.Bridge.{bridge}
use Rattle.told_plans.specs.Follows.{rest_after}

-- A step comes after one card of each of these sets. A place of the step is what such cards lead to: a state of the
-- layout, and the rest of the plan there. Each of the cards is legal, and the plan foresees it
abbrev pub IsPlace : List (List ℕ) → Plan ℕ → State → Plan ℕ → State → Type 0
IsPlace [] plan s rest place = (plan ≡ rest) × (s ≡ place)
IsPlace (set ∷ sets) plan s rest place =
    (card : ℕ) × (next : Plan ℕ) × (has_card set card ≡ true) × (has_card (legal_in s) card ≡ true)
    × (rest_after plan card ≡ Some next) × IsPlace sets next (after s card) rest place

-- the layout can reach the step
abbrev pub CanReach : List (List ℕ) → Plan ℕ → State → Type 0
CanReach sets plan s = (rest : Plan ℕ) × (place : State) × IsPlace sets plan s rest place

-- it is won from every place of the step
abbrev pub IsWonFrom : List (List ℕ) → Plan ℕ → State → Type 0
IsWonFrom sets plan s = (rest : Plan ℕ) (place : State) → IsPlace sets plan s rest place → wins bridge rest place ≡ true

-- it is lost from one of the places
abbrev pub IsLostFrom : List (List ℕ) → Plan ℕ → State → Type 0
IsLostFrom sets plan s = (rest : Plan ℕ) × (place : State) × IsPlace sets plan s rest place × (wins bridge rest place ≡ false)

-- the plan plays a card before which double dummy makes, and after which it doesn't
abbrev pub GivesUp : Plan ℕ → State → Type 0
GivesUp Stop s = ⊥
GivesUp (Play card rest) s = (makes s ≡ true) × (makes (after s card) ≡ false)
GivesUp (Hear replies) s = ⊥

-- the card that is played at the step gives the layout up at one of the places
abbrev pub IsGivenUpAt : List (List ℕ) → Plan ℕ → State → Type 0
IsGivenUpAt sets plan s = (rest : Plan ℕ) × (place : State) × IsPlace sets plan s rest place × GivesUp rest place
