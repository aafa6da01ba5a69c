-- What the checker has found out so far.
use Rattle.std.specs.Prelude.{◌≡◌, ◌<◌, ◌≤◌, ◌+◌, ◌++◌, ℕ, List, [], ◌∷◌, length, All, AllPairs, Contains}
use Rattle.std.specs.List.{AllZip}
use Rattle.win_vectors.specs.Fronts.{Vector, HaveWidth, CoversAll}
use Rattle.trick_rules.specs.Nodes.{NodeValue, child}
use Rattle.log_check.specs.declared.lines.LogLine.{LogLine}
use Rattle.log_check.specs.Logs.{IsPath, node_after, our_cards, StandBehind, cited_lines}

-- each number is that of one of this many lines
abbrev pub AreNumbers : ℕ → List ℕ → Type 0
AreNumbers count numbers = All (λ number. (1 ≤ number) × (number ≤ count)) numbers

-- the cards can be played from a node with this many moves
abbrev pub CanFollow : NodeValue → ℕ → List ℕ → Type 0
CanFollow n moves path = IsPath n path × (our_cards n path ≤ moves)

-- they lead to a node, with this many moves left
pub record IsFollowed (n : NodeValue) (moves : ℕ) (path : List ℕ) (node : NodeValue) (left : ℕ) : Type 0 where
  pub path_is : IsPath n path
  pub node_is : node ≡ node_after n path
  pub left_is : left + our_cards n path ≡ moves

-- the lines stand one card behind a path, by distinct cards of these in card order
pub record StandBehindSome (path choices : List ℕ) (low : ℕ) (lines : List LogLine) : Type 0 where
  pub cards : List ℕ
  pub in_order : AllPairs ◌<◌ cards
  pub are_choices : All (Contains choices) cards
  pub above : All (λ card. low ≤ card) cards
  pub behind : StandBehind path cards lines

-- the vectors of a line behind a path have a bit for each layout of its node
abbrev pub HaveChildWidths : NodeValue → List ℕ → List LogLine → Type 0
HaveChildWidths node path lines = (l : LogLine) (card : ℕ) → Contains lines l → l.path ≡ path ++ card ∷ [] → HaveWidth (length (child node card).lefts) l.vectors

-- a line at a node cites earlier lines by their numbers, and those behind a card have the width of the child
pub record CitesLines (node : NodeValue) (earlier : List LogLine) (line : LogLine) : Type 0 where
  pub numbers : AreNumbers (length earlier) line.from
  pub widths : HaveChildWidths node line.path (cited_lines earlier line.from)

-- each of two lists covers the other
abbrev pub CoverAlike : List Vector → List Vector → Type 0
CoverAlike vs ws = CoversAll vs ws × CoversAll ws vs

-- two lines alike: they differ at most in their vectors, which cover each other
pub record SayAlike (one other : LogLine) : Type 0 where
  pub rule : one.rule ≡ other.rule
  pub path : one.path ≡ other.path
  pub moves : one.moves ≡ other.moves
  pub from : one.from ≡ other.from
  pub vectors : CoverAlike one.vectors other.vectors

-- two lists of one length, alike line by line
abbrev pub SayAllAlike : List LogLine → List LogLine → Type 0
SayAllAlike ones others = AllZip SayAlike ones others
