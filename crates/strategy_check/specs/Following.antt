-- A strategy that is followed in one layout.
use Rattle.std.specs.Prelude.{ℕ, Bool, Contains}
use Rattle.std.specs.List.{list_all}
use Rattle.trick_rules.specs.Positions.{State}
use Rattle.trick_rules.specs.Play.{makes}
use Rattle.trick_rules.specs.Nodes.{NodeValue, IsNode, states, choices}
use Rattle.strategy_games.specs.Plans.{Plan, Replies, Fits, FitEach, cards_of, ends_each}
use Rattle.strategy_tree.specs.Bridge.{bridge}

-- the plan is a strategy at some node that has this layout
pub record CanFollow (plan : Plan ℕ) (s : State) : Type 0 where
  pub node : NodeValue
  pub moves : ℕ
  pub sound : IsNode node
  pub among : Contains (states node) s
  pub fits : Fits bridge plan node moves

-- the replies are strategies after their cards, which may be played at some node that has this layout
pub record CanFollowEach (replies : Replies ℕ) (s : State) : Type 0 where
  pub node : NodeValue
  pub moves : ℕ
  pub sound : IsNode node
  pub among : Contains (states node) s
  pub cards : (card : ℕ) → Contains (cards_of replies) card → Contains (choices node) card
  pub fits : FitEach bridge replies node moves

-- whether the contract is made wherever the replies end in this layout
abbrev pub win_each : Replies ℕ → State → Bool
win_each replies s = list_all (λ e. makes e) (ends_each bridge replies s)
