-- The log of a node: the lines that prove its front complete, each behind those of its children.
use Rattle.std.specs.Prelude.{◌≡◌, ◌+◌, ◌-◌, ℕ, true, false, List, [], ◌∷◌, ◌++◌, length}
use Rattle.win_vectors.specs.Fronts.{Vector}
use Rattle.trick_rules.specs.Positions.{to_play}
use Rattle.trick_rules.specs.Play.{is_declarers}
use Rattle.trick_rules.specs.Nodes.{NodeValue, stops, choices, child}
use Rattle.strategy_games.specs.Plans.{IsFront}
use Rattle.strategy_tree.specs.Bridge.{bridge}
use Rattle.log_check.specs.declared.lines.Rule.{Rule}
use Rattle.log_check.specs.declared.lines.Rule.TheVariants.{Leaf, Union, Join}
use Rattle.log_check.specs.declared.lines.LogLine.{LogLine}

-- a line by this rule behind this path, with these moves, these numbers and these vectors
abbrev pub line_of : Rule → List ℕ → ℕ → List ℕ → List Vector → LogLine
line_of rule path moves from vectors = record {
  rule = rule;
  path = path;
  moves = moves;
  from = from;
  vectors = vectors;
}

mutual
  -- the lines of a node with this many moves, after this path and after this many earlier lines
  pub data IsLogFrom : NodeValue → ℕ → List ℕ → ℕ → List LogLine → Type 0 where
    -- Where no move is left or the result is decided: a leaf.
    at_stop : (n : NodeValue) (moves : ℕ) (path : List ℕ) (earlier : ℕ) (front : List Vector)
        → stops n moves ≡ true → IsFront bridge n moves front
        → IsLogFrom n moves path earlier (line_of Leaf path moves [] front ∷ [])
    -- At declarer's side: the children's lines, with a move less, and a union of their last ones.
    at_declarer : (n : NodeValue) (moves : ℕ) (path : List ℕ) (earlier : ℕ) (numbers : List ℕ)
        (lines : List LogLine) (front : List Vector)
        → stops n moves ≡ false → is_declarers (to_play n.position) ≡ true
        → IsFront bridge n moves front
        → AreLogsFrom n (moves - 1) path earlier (choices n) numbers lines
        → IsLogFrom n moves path earlier (lines ++ line_of Union path moves numbers front ∷ [])
    -- At a defender: the children's lines, with the same moves, and a join of their last ones.
    at_defender : (n : NodeValue) (moves : ℕ) (path : List ℕ) (earlier : ℕ) (numbers : List ℕ)
        (lines : List LogLine) (front : List Vector)
        → stops n moves ≡ false → is_declarers (to_play n.position) ≡ false
        → IsFront bridge n moves front
        → AreLogsFrom n moves path earlier (choices n) numbers lines
        → IsLogFrom n moves path earlier (lines ++ line_of Join path moves numbers front ∷ [])

  -- the lines of a node's children by these cards in order, each with this many moves, and the
  -- numbers of each child's last line, which count from 1 through all lines
  pub data AreLogsFrom : NodeValue → ℕ → List ℕ → ℕ → List ℕ → List ℕ → List LogLine → Type 0 where
    no_child : (n : NodeValue) (moves : ℕ) (path : List ℕ) (earlier : ℕ)
        → AreLogsFrom n moves path earlier [] [] []
    child_first : (n : NodeValue) (moves : ℕ) (path : List ℕ) (earlier card : ℕ)
        (cards numbers : List ℕ) (first others : List LogLine)
        → IsLogFrom (child n card) moves (path ++ card ∷ []) earlier first
        → AreLogsFrom n moves path (earlier + length first) cards numbers others
        → AreLogsFrom n moves path earlier (card ∷ cards) ((earlier + length first) ∷ numbers)
        (first ++ others)

-- the log of a node with this many moves
abbrev pub IsLogFor : NodeValue → ℕ → List LogLine → Type 0
IsLogFor n moves lines = IsLogFrom n moves [] 0 lines
