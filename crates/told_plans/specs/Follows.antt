-- What a plan does after each series of cards, and plans that agree.
use Rattle.std.specs.Prelude.{◌≡◌, ◌⊎◌, ◌↔◌, ◌==◌, ℕ, Option, Some, None, option_and_then, List, [], ◌∷◌, if◌then◌else◌}
use Rattle.strategy_games.specs.Plans.{Plan, Replies, Stop, Play, Hear, NoReply, Reply}

-- what a plan does first: it stops, plays a card, or waits for a defender's
pub data Action : Type 0 where
  Stops : Action
  Plays : ℕ → Action
  Waits : Action

abbrev pub action : Plan ℕ → Action
action Stop = Stops
action (Play card rest) = Plays card
action (Hear replies) = Waits

-- the plan that answers a card
abbrev pub answer_to : Replies ℕ → ℕ → Option (Plan ℕ)
answer_to NoReply card = None
answer_to (Reply c plan later) card = if c == card then Some plan else answer_to later card

-- the rest of a plan after a card
abbrev pub rest_after : Plan ℕ → ℕ → Option (Plan ℕ)
rest_after Stop card = None
rest_after (Play c rest) card = if c == card then Some rest else None
rest_after (Hear replies) card = answer_to replies card

-- what the plan does after these cards, if it foresees them
abbrev pub does_after : List ℕ → Plan ℕ → Option Action
does_after [] plan = Some (action plan)
does_after (card ∷ cards) plan = option_and_then (does_after cards) (rest_after plan card)

-- whatever cards both foresee, they do the same after them
abbrev pub Agree : Plan ℕ → Plan ℕ → Type 0
Agree plan other = (cards : List ℕ) (a b : Action) → does_after cards plan ≡ Some a → does_after cards other ≡ Some b → a ≡ b

-- a plan that does exactly what one of the two does
abbrev pub IsBoth : Plan ℕ → Plan ℕ → Plan ℕ → Type 0
IsBoth plan other both = (cards : List ℕ) (a : Action) → does_after cards both ≡ Some a ↔ ((does_after cards plan ≡ Some a) ⊎ (does_after cards other ≡ Some a))
