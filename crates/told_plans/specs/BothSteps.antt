-- Two plans in one, after a card.
use Rattle.std.specs.Prelude.{◌≡◌, ◌⊎◌, ◌↔◌, ℕ, Option, Some, option_and_then, List}
use Rattle.strategy_games.specs.Plans.{Plan}
use Rattle.told_plans.specs.Follows.{Action, does_after}

-- what follows does exactly what one of the two does, if there are any
abbrev pub IsBothAfter : Option (Plan ℕ) → Option (Plan ℕ) → Option (Plan ℕ) → Type 0
IsBothAfter plan other both =
    (cards : List ℕ) (a : Action)
    → option_and_then (does_after cards) both ≡ Some a ↔ ((option_and_then (does_after cards) plan ≡ Some a) ⊎ (option_and_then (does_after cards) other ≡ Some a))
