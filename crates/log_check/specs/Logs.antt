-- Logs that prove a front complete: which lines are sound, and which logs are valid.
use Rattle.std.specs.Prelude.{◌≡◌, ◌≢◌, ◌<◌, ◌≤◌, ◌+◌, ◌-◌, ℕ, true, false, ⊤, List, [], ◌∷◌, ◌++◌, map, filter_map, length, take, slice_get, Some, All, AllPairs, Contains, if◌then◌else◌}
use Rattle.win_vectors.specs.Fronts.{Vector, HaveWidth, Covers, CoversAll}
use Rattle.trick_rules.specs.Positions.{to_play}
use Rattle.trick_rules.specs.Play.{is_declarers, makes}
use Rattle.trick_rules.specs.Nodes.{NodeValue, states, stops, choices, child, child_mask}
use Rattle.strategy_games.specs.Joins.{joins}
use Rattle.log_check.specs.declared.lines.Rule.{Rule}
use Rattle.log_check.specs.declared.lines.Rule.TheVariants.{Leaf, Union, Join}
use Rattle.log_check.specs.declared.lines.LogLine.{LogLine}

-- ---- where a line stands

-- each card is a choice where it is played
abbrev pub IsPath : NodeValue → List ℕ → Type 0
IsPath n [] = ⊤
IsPath n (card ∷ cards) = Contains (choices n) card × IsPath (child n card) cards

-- the node that the cards lead to
abbrev pub node_after : NodeValue → List ℕ → NodeValue
node_after n [] = n
node_after n (card ∷ cards) = node_after (child n card) cards

-- how many of the cards are those of declarer's side
abbrev pub our_cards : NodeValue → List ℕ → ℕ
our_cards n [] = 0
our_cards n (card ∷ cards) = (if is_declarers (to_play n.position) then 1 else 0) + our_cards (child n card) cards

-- ---- what a line follows from

-- the lines of these numbers, which count from 1
abbrev pub cited_lines : List LogLine → List ℕ → List LogLine
cited_lines lines numbers = filter_map (λ number. slice_get lines (number - 1)) numbers

-- the lines stand one card behind the path, by these cards in order
abbrev pub StandBehind : List ℕ → List ℕ → List LogLine → Type 0
StandBehind path cards lines = map (λ (l : LogLine). l.path) lines ≡ map (λ card. path ++ card ∷ []) cards

-- its vectors dominate double dummy's results
pub record IsLeaf (node : NodeValue) (line : LogLine) : Type 0 where
  pub cites_none : line.from ≡ []
  pub covered : Covers line.vectors (map (λ s. makes s) (states node))

-- it cites a line for each card of declarer's side, and dominates their vectors
pub record IsUnion (node : NodeValue) (line : LogLine) (cited : List LogLine) : Type 0 where
  pub goes_on : stops node line.moves ≡ false
  pub ours : is_declarers (to_play node.position) ≡ true
  pub behind : StandBehind line.path (choices node) cited
  pub covered : (l : LogLine) → Contains cited l → CoversAll line.vectors l.vectors

-- it cites a line for some of a defender's cards, and dominates each meet of one spread vector of each
pub record IsJoin (node : NodeValue) (line : LogLine) (cited : List LogLine) : Type 0 where
  pub goes_on : stops node line.moves ≡ false
  pub theirs : is_declarers (to_play node.position) ≡ false
  pub some : line.from ≢ []
  pub cards : List ℕ
  pub in_order : AllPairs ◌<◌ cards
  pub are_choices : All (Contains (choices node)) cards
  pub behind : StandBehind line.path cards cited
  pub covered : CoversAll line.vectors (joins (length node.lefts) (map (λ card. child_mask node card) cards) (map (λ (l : LogLine). l.vectors) cited))

-- what the line's rule asks
abbrev pub KeepsRule : Rule → NodeValue → LogLine → List LogLine → Type 0
KeepsRule Leaf node line cited = IsLeaf node line
KeepsRule Union node line cited = IsUnion node line cited
KeepsRule Join node line cited = IsJoin node line cited

-- ---- lines and logs

-- the line is sound for this node with this many moves, if these lines come before it
pub record IsSoundLine (n : NodeValue) (moves : ℕ) (earlier : List LogLine) (line : LogLine) : Type 0 where
  -- its path leads from the node to a node of its own
  pub path : IsPath n line.path
  -- its moves are those that the path leaves
  pub moves_left : line.moves + our_cards n line.path ≡ moves
  -- its vectors have a bit for each layout of its node
  pub width : HaveWidth (length (node_after n line.path).lefts) line.vectors
  -- it cites earlier lines alone
  pub cites : All (λ number. (1 ≤ number) × (number ≤ length earlier)) line.from
  -- its rule holds
  pub rule : KeepsRule line.rule (node_after n line.path) line (cited_lines earlier line.from)

-- each line is sound after those before it
abbrev pub AreSound : NodeValue → ℕ → List LogLine → Type 0
AreSound n moves lines = (place : ℕ) (line : LogLine) → slice_get lines place ≡ Some line → IsSoundLine n moves (take place lines) line

-- the last line stands at the node itself, and these vectors dominate its vectors
pub record EndsAtRoot (vectors : List Vector) (lines : List LogLine) : Type 0 where
  pub before : List LogLine
  pub last : LogLine
  pub is : lines ≡ before ++ last ∷ []
  pub at_root : last.path ≡ []
  pub covered : CoversAll vectors last.vectors

-- a log that proves the vectors complete
pub record IsValidLog (n : NodeValue) (moves : ℕ) (vectors : List Vector) (lines : List LogLine) : Type 0 where
  pub sound : AreSound n moves lines
  pub ends : EndsAtRoot vectors lines
