-- A node without some of its layouts, and what is won there.
use Rattle.std.specs.Prelude.{◌≡◌, ◌≤◌, ℕ, List, length, map}
use Rattle.std.specs.List.{items_where_true}
use Rattle.win_vectors.specs.Vectors.{ones_of, meet_of, spread_of, restrict_of}
use Rattle.win_vectors.specs.Fronts.{Vector, Dominates, IsReduced}
use Rattle.trick_rules.specs.Play.{makes}
use Rattle.trick_rules.specs.Nodes.{NodeValue, IsNode, states}
use Rattle.strategy_games.specs.Plans.{IsFront}
use Rattle.strategy_tree.specs.Bridge.{bridge}

-- the node with the layouts at which the vector has 1, in order
abbrev pub part_of : NodeValue → Vector → NodeValue
part_of n kept = record { position = n.position; lefts = items_where_true kept n.lefts }

-- the bits of the layouts that are kept, in order, and 0 at those that are left out
abbrev pub filled_of : Vector → Vector → Vector
filled_of v kept = meet_of (spread_of v kept) kept

-- some of the layouts of a node, one at least
pub record AreSomeLayouts (n : NodeValue) (kept : Vector) : Type 0 where
  pub a_node : IsNode n
  pub width : length kept ≡ length n.lefts
  pub some : 1 ≤ ones_of kept

-- What can be won at a node, cut down to some of its layouts, is what can be won there if those are all the layouts.
abbrev pub PartsHaveTheirFront : Type 0
PartsHaveTheirFront = (n : NodeValue) (moves : ℕ) (kept : Vector) (front part : List Vector) → AreSomeLayouts n kept
    → IsFront bridge n moves front → IsReduced (map (λ v. restrict_of v kept) front) part
    → IsFront bridge (part_of n kept) moves part

-- No strategy wins a layout that double dummy loses. So if only such layouts are left out, the front of the node is that
-- of the rest, with 0 at the layouts that are left out.
abbrev pub LostLayoutsMayBeLeftOut : Type 0
LostLayoutsMayBeLeftOut = (n : NodeValue) (moves : ℕ) (kept : Vector) (part front : List Vector) → AreSomeLayouts n kept
    → Dominates kept (map makes (states n))
    → IsFront bridge (part_of n kept) moves part → IsReduced (map (λ v. filled_of v kept) part) front
    → IsFront bridge n moves front
