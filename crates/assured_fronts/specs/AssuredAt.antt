-- A front that is proved to be what is assured at its node.
use Rattle.std.specs.Prelude.{◌≡◌, ◌⊎◌, ◌<◌, ℕ, Bool, true, is_some, ◌&&◌, ◌||◌, nat_eq, List, map, length, All}
use Rattle.std.specs.Cmp.Lexicographic.{pointwise}
use Rattle.win_vectors.specs.Vectors.{ones_of}
use Rattle.win_vectors.specs.Fronts.{Vector}
use Rattle.trick_rules.specs.Play.{decided, makes}
use Rattle.trick_rules.specs.Nodes.{NodeValue, states}
use Rattle.pareto_fronts.specs.FrontValue.{FrontValue}
use Rattle.strategy_tree.specs.Bridge.{bridge}
use Rattle.assured_games.specs.Assured.{IsAssuredFront}
use Rattle.sure_nodes.specs.SureNodes.{is_sure_node}

-- what is assured at a node with these moves, with a bit for each of the node's layouts
pub record IsAssuredAt (n : NodeValue) (moves : ℕ) (found : FrontValue) : Type 0 where
  pub front : IsAssuredFront bridge is_sure_node n moves found.vectors
  pub width : found.width ≡ length n.lefts

-- a node, a number of moves, and what was found to be assured there
pub record KeptFrontValue : Type 0 where
  pub node : NodeValue
  pub moves : ℕ
  pub front : FrontValue

-- declarer's side claims here: the result is decided, or sure
abbrev pub claims : NodeValue → Bool
claims n = is_some (decided n.position) || is_sure_node n

-- double dummy makes each layout
abbrev pub AllMade : NodeValue → Type 0
AllMade n = All (λ s. makes s ≡ true) (states n)

-- what double dummy makes is what is assured: declarer's side claims, or one layout at most is made
abbrev pub Settles : NodeValue → Vector → Type 0
Settles n made = (claims n ≡ true) ⊎ (ones_of made < 2)

-- the layouts that are won if the one in which Left holds these cards is played for
abbrev pub won_playing_for : NodeValue → List ℕ → Vector
won_playing_for n left = map (λ s. pointwise nat_eq left s.left && makes s) (states n)
