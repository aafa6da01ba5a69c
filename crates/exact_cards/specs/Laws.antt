-- What the rows say of the best, with every number of moves that plans everything.
use Rattle.std.specs.Prelude.{◌≡◌, ◌≤◌, ◌-◌, ◌↔◌, ℕ, true, false, List, Contains}
use Rattle.std.specs.List.{AllZip}
use Rattle.win_vectors.specs.Fronts.{Vector}
use Rattle.trick_rules.specs.Nodes.{NodeValue, IsNode, most_moves, choices, child}
use Rattle.strategy_games.specs.Choosing.{IsBestWeight, IsNamedByWeight}
use Rattle.strategy_tree.specs.Bridge.{bridge}
use Rattle.winnable_sets.specs.Sets.{IsWinnable}
use Rattle.card_brackets.specs.declared.rows.CardRow.{CardRow}
use Rattle.card_brackets.specs.Rows.{are_final}
use Rattle.exact_cards.specs.declared.table.ExactTable.{ExactTable}
use Rattle.exact_cards.specs.ExactRows.{moves_after, IsExactRow, IsExactTable}

-- a node at which declarer's side is to play
pub record IsOurNode (n : NodeValue) : Type 0 where
  pub a_node : IsNode n
  pub goes_on : bridge.is_over n ≡ false
  pub ours : bridge.is_ours n ≡ true

-- More moves than `most_moves` win nothing more after a card.
abbrev pub AllIsPlanned : Type 0
AllIsPlanned = (n : NodeValue) (card moves : ℕ) (set : Vector)
    → IsOurNode n → Contains (choices n) card → most_moves ≤ moves
    → IsWinnable bridge (child n card) (moves - 1) set ↔ IsWinnable bridge (child n card) moves_after set

-- The bounds of a row enclose the best weight after its card,
abbrev pub ExactRowsBracket : Type 0
ExactRowsBracket = (n : NodeValue) (weights : List ℕ) (card : ℕ) (row : CardRow) (moves best : ℕ)
    → IsOurNode n → Contains (choices n) card → IsExactRow n weights card row → most_moves ≤ moves
    → IsBestWeight bridge weights (child n card) (moves - 1) best
    → (row.least ≤ best) × (best ≤ row.most)

-- and if each row is final, they are the best weights, and the card that αμ names is named.
abbrev pub FinalRowsAreExact : Type 0
FinalRowsAreExact = (n : NodeValue) (weights : List ℕ) (table : ExactTable) (moves : ℕ)
    → IsOurNode n → IsExactTable n weights table → are_final table.rows.items ≡ true → most_moves ≤ moves
    → AllZip (λ card row. IsBestWeight bridge weights (child n card) (moves - 1) row.most) (choices n) table.rows.items
    × IsNamedByWeight bridge weights n moves table.named
