-- Every card of a root with what one strategy wins after it, all moves planned.
use Rattle.std.specs.Prelude.{◌≡◌, ◌≤◌, ◌-◌, ℕ, false, List, Contains}
use Rattle.std.specs.List.{AllZip}
use Rattle.win_vectors.specs.Weights.{weight_of}
use Rattle.trick_rules.specs.Nodes.{NodeValue, most_moves, choices, child}
use Rattle.strategy_games.specs.Choosing.{IsFirstOf}
use Rattle.fusion_base.specs.Sampling.{made_after}
use Rattle.alphamu_core.specs.declared.budget.Entered.{Entered}
use Rattle.set_search.specs.Values.{IsBracket}
use Rattle.card_brackets.specs.declared.rows.CardRow.{CardRow}
use Rattle.card_brackets.specs.Rows.{is_final}
use Rattle.exact_cards.specs.declared.table.ExactTable.{ExactTable}

-- The moves after a card that plan everything: declarer's side has no more cards then.
abbrev pub moves_after : ℕ
moves_after = most_moves - 1

-- what is known of a card of the node, of which it is one: a set of layouts that one strategy wins after it, and what the set
-- weighs; a weight that no strategy exceeds; and the weight that sampling believes in
pub record IsExactRow (n : NodeValue) (weights : List ℕ) (card : ℕ) (row : CardRow) : Type 0 where
  pub card_is : row.card ≡ card
  pub bracket : IsBracket (child n card) moves_after weights row.vector row.least row.most
  pub sampled : row.sampled ≡ weight_of weights (made_after n card)

-- one row for each choice, in card order
abbrev pub AreExactRows : NodeValue → List ℕ → List CardRow → Type 0
AreExactRows n weights rows = AllZip (IsExactRow n weights) (choices n) rows

-- none of the rows has a greater least
abbrev pub IsSafest : List CardRow → CardRow → Type 0
IsSafest rows row = (other : CardRow) → Contains rows other → other.least ≤ row.least

-- the card of the first such row
abbrev pub IsSafestCard : List CardRow → ℕ → Type 0
IsSafestCard rows card = (row : CardRow) × IsFirstOf (IsSafest rows) rows row × (row.card ≡ card)

-- the rows, and the card that is named
pub record IsExactTable (n : NodeValue) (weights : List ℕ) (table : ExactTable) : Type 0 where
  pub rows : AreExactRows n weights table.rows.items
  pub named : IsSafestCard table.rows.items table.named

-- a search with a budget of this many nodes, which has entered all of them if its row isn't final
pub record IsFinalUnlessSpent (nodes : ℕ) (row : CardRow) (entered : Entered) : Type 0 where
  pub budget : entered.nodes ≡ nodes
  pub unless_spent : is_final row ≡ false → entered.count ≡ nodes

-- the search of each row has such a budget
abbrev pub AreFinalUnlessSpent : ℕ → ExactTable → Type 0
AreFinalUnlessSpent nodes table = AllZip (IsFinalUnlessSpent nodes) table.rows.items table.entered.items
