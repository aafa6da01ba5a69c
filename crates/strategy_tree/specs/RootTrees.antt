-- How large the trees after a root's cards are.
use Rattle.std.specs.Prelude.{◌<◌, ◌≤◌, ◌-◌, ℕ, Contains}
use Rattle.trick_rules.specs.Nodes.{NodeValue, choices, child}
use Rattle.strategy_games.specs.Plans.{tree_size}
use Rattle.strategy_games.specs.Choosing.{IsFirstOf}
use Rattle.strategy_tree.specs.Bridge.{bridge}

-- the tree after the card, which uses one of the moves, has more nodes than a search may enter
abbrev pub IsTooLarge : NodeValue → ℕ → ℕ → ℕ → Type 0
IsTooLarge n moves nodes card = nodes < tree_size bridge (child n card) (moves - 1)

-- a root card whose tree is too large
abbrev pub IsSpentAt : NodeValue → ℕ → ℕ → ℕ → Type 0
IsSpentAt n moves nodes card = Contains (choices n) card × IsTooLarge n moves nodes card

-- the first root card whose tree is too large
abbrev pub IsFirstSpentAt : NodeValue → ℕ → ℕ → ℕ → Type 0
IsFirstSpentAt n moves nodes card = IsFirstOf (IsTooLarge n moves nodes) (choices n) card

-- no root card's tree is too large
abbrev pub AllFit : NodeValue → ℕ → ℕ → Type 0
AllFit n moves nodes = (card : ℕ) → Contains (choices n) card → tree_size bridge (child n card) (moves - 1) ≤ nodes
