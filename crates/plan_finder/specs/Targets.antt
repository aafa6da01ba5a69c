-- What a plan is asked to win.
use Rattle.std.specs.Prelude.{ℕ, List, Contains}
use Rattle.win_vectors.specs.Fronts.{Vector}
use Rattle.trick_rules.specs.Nodes.{NodeValue}
use Rattle.strategy_games.specs.Plans.{IsFront}
use Rattle.strategy_tree.specs.Bridge.{bridge}

-- the vector is one of the front of the node with these moves
abbrev pub IsOfFront : NodeValue → ℕ → Vector → Type 0
IsOfFront n moves vector = (front : List Vector) × IsFront bridge n moves front × Contains front vector
