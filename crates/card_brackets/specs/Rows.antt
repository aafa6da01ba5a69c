-- A bracket round the weight that each card wins.
use Rattle.std.specs.Prelude.{◌≡◌, ◌<◌, ◌≤◌, ◌+◌, ◌-◌, ◌==◌, ℕ, Bool, true, false, Option, Some, None, List, Contains}
use Rattle.std.specs.List.{AllZip, list_all}
use Rattle.win_vectors.specs.Fronts.{Vector}
use Rattle.win_vectors.specs.Weights.{weight_of}
use Rattle.trick_rules.specs.Nodes.{NodeValue, IsNode, choices, child}
use Rattle.strategy_games.specs.Plans.{IsFront}
use Rattle.strategy_games.specs.Choosing.{IsBestWeight, IsNamedByWeight}
use Rattle.strategy_tree.specs.Bridge.{bridge}
use Rattle.strategy_tree.specs.RootTrees.{IsSpentAt, IsFirstSpentAt}
use Rattle.assured_games.specs.Assured.{IsLeastBy}
use Rattle.sure_nodes.specs.SureNodes.{is_sure_node}
use Rattle.fusion_base.specs.Sampling.{made_after}
use Rattle.vector_words.specs.Best.{IsFirstBest}
use Rattle.card_brackets.specs.declared.rows.CardRow.{CardRow}
use Rattle.card_brackets.specs.declared.table.CardTable.{CardTable}

-- what is known of a card of the node with this many moves, of which it is one: the first of the heaviest vectors of the front
-- after it, with its weight; the greatest weight that is assured after it; and the weight that sampling believes in
pub record IsRow (n : NodeValue) (weights : List ℕ) (moves card : ℕ) (row : CardRow) : Type 0 where
  pub card_is : row.card ≡ card
  pub front : List Vector
  pub is_front : IsFront bridge (child n card) (moves - 1) front
  pub is_first : IsFirstBest weights front row.vector
  pub most : row.most ≡ weight_of weights row.vector
  pub least : IsLeastBy bridge is_sure_node (weight_of weights) (child n card) (moves - 1) row.least
  pub sampled : row.sampled ≡ weight_of weights (made_after n card)

-- one row for each choice, in card order
abbrev pub AreRows : NodeValue → List ℕ → ℕ → List CardRow → Type 0
AreRows n weights moves rows = AllZip (IsRow n weights moves) (choices n) rows

-- whether the two bounds are equal
abbrev pub is_final : CardRow → Bool
is_final row = row.least == row.most

-- in each row
abbrev pub are_final : List CardRow → Bool
are_final rows = list_all is_final rows

-- the rows with this many moves, and the card that is named
pub record IsTableWith (n : NodeValue) (weights : List ℕ) (moves : ℕ) (table : CardTable) : Type 0 where
  pub moves_are : table.moves ≡ moves
  pub rows : AreRows n weights moves table.rows.items
  pub named : IsNamedByWeight bridge weights n moves table.named

-- with this many moves the row of some card isn't final
abbrev pub IsOpenWith : NodeValue → List ℕ → ℕ → Type 0
IsOpenWith n weights moves = (card : ℕ) × (row : CardRow) × Contains (choices n) card
    × IsRow n weights moves card row × (is_final row ≡ false)

-- what a round with this many moves comes to: a table; or none, if only a final one is wanted and some row isn't final
abbrev pub IsRoundWith : NodeValue → List ℕ → ℕ → Bool → Option CardTable → Type 0
IsRoundWith n weights moves only_final (Some table) = IsTableWith n weights moves table × (only_final ≡ true → are_final table.rows.items ≡ true)
IsRoundWith n weights moves only_final None = (only_final ≡ true) × IsOpenWith n weights moves

-- the rows with the least number of moves, up to a limit, with which each is final; or else with the limit
pub record IsTableUpTo (n : NodeValue) (weights : List ℕ) (limit : ℕ) (table : CardTable) : Type 0 where
  pub some : 1 ≤ table.moves
  pub few : table.moves ≤ limit
  pub is_table : IsTableWith n weights table.moves table
  pub enough : table.moves < limit → are_final table.rows.items ≡ true
  pub needed : (fewer : ℕ) → 1 ≤ fewer → fewer < table.moves → IsOpenWith n weights fewer

-- the round with this many moves, up to a limit, is begun: with each smaller number the row of some card isn't final
pub record IsRoundUpTo (n : NodeValue) (weights : List ℕ) (limit moves : ℕ) : Type 0 where
  pub some : 1 ≤ moves
  pub few : moves ≤ limit
  pub needed : (fewer : ℕ) → 1 ≤ fewer → fewer < moves → IsOpenWith n weights fewer

-- in such a round a root card's tree has more nodes than a search may enter
abbrev pub IsSpentUpTo : NodeValue → List ℕ → ℕ → ℕ → ℕ → Type 0
IsSpentUpTo n weights limit nodes card = (moves : ℕ) × IsRoundUpTo n weights limit moves × IsSpentAt n moves nodes card

-- it is the first such card of the round
abbrev pub IsFirstSpentUpTo : NodeValue → List ℕ → ℕ → ℕ → ℕ → Type 0
IsFirstSpentUpTo n weights limit nodes card = (moves : ℕ) × IsRoundUpTo n weights limit moves × IsFirstSpentAt n moves nodes card

-- with every greater number of moves the weight of the card lies between the bounds of a row
abbrev pub RowsBracket : Type 0
RowsBracket = (n : NodeValue) (weights : List ℕ) (moves extra card : ℕ) (row : CardRow) (best : ℕ)
    → IsNode n → Contains (choices n) card → IsRow n weights moves card row
    → IsBestWeight bridge weights (child n card) ((moves - 1) + extra) best
    → (row.least ≤ best) × (best ≤ row.most)

-- a limit of moves has one table
abbrev pub HasOneTable : Type 0
HasOneTable = (n : NodeValue) (weights : List ℕ) (limit : ℕ) (table other : CardTable)
    → IsTableUpTo n weights limit table → IsTableUpTo n weights limit other
    → (table.moves ≡ other.moves) × (table.rows.items ≡ other.rows.items) × (table.named ≡ other.named)
