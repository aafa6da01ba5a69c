-- What is read from the numbers of a question.
use Rattle.std.specs.Prelude.{◌≡◌, ◌≤◌, ℕ, List, length}
use Rattle.trick_rules.specs.Positions.{seat_place}
use Rattle.bit_questions.specs.declared.question.Question.{Question}
use Rattle.bit_questions.specs.declared.table.Table.{Table}
use Rattle.bit_questions.specs.declared.asked.Asked.{Asked}
use Rattle.bit_questions.specs.Numbers.{cards_at, trump_place, IsAskedNode, AreMoves}
use Rattle.bit_questions.specs.Causes.{CanChoose}

-- the node of the numbers, at which declarer's side is to play; a weight for each layout; 1 to 26 moves, and 1 node or more
pub record IsAsked (q : Question) (lefts given : List ℕ) (asked : Asked) : Type 0 where
  pub node : IsAskedNode q lefts asked.node
  pub turn : CanChoose asked.node.position
  pub weights : asked.weights ≡ given
  pub weighed : length asked.weights ≡ length asked.node.lefts
  pub moves : (asked.moves ≡ q.moves) × AreMoves asked.moves
  pub nodes : (asked.nodes ≡ q.nodes) × (1 ≤ asked.nodes)

-- what the numbers say besides the trick
pub record IsAskedTable (q : Question) (table : Table) : Type 0 where
  pub declarer : table.declarer ≡ cards_at q.declarer
  pub dummy : table.dummy ≡ cards_at q.dummy
  pub unseen : table.unseen ≡ cards_at q.unseen
  pub leader : seat_place table.leader ≡ q.leader
  pub trump : trump_place table.trump ≡ q.trump
  pub need : (table.need ≡ q.need) × (table.need ≤ 13)
