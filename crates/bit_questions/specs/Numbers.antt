-- What the numbers of a question say.
use Rattle.std.specs.Prelude.{◌≡◌, ◌≤◌, ℕ, List, map, take}
use Rattle.bit_lists.specs.Bits.{has_bit}
use Rattle.card_sets.specs.Cards.{suit_place}
use Rattle.card_sets.specs.SetWords.{cards_where}
use Rattle.trick_rules.specs.declared.trump.Trump.{Trump}
use Rattle.trick_rules.specs.declared.trump.Trump.TheVariants.{NoTrump, Suit}
use Rattle.trick_rules.specs.Positions.{PositionValue, seat_place}
use Rattle.trick_rules.specs.Nodes.{NodeValue, most_moves}
use Rattle.bit_questions.specs.declared.question.Question.{Question}

-- the cards whose bits are set
abbrev pub cards_at : ℕ → List ℕ
cards_at bits = cards_where (has_bit bits)

-- trumps by their suit's place in card order, and 4 for none
abbrev pub trump_place : Trump → ℕ
trump_place (Suit suit) = suit_place suit
trump_place NoTrump = 4

-- the cards of the present trick
abbrev pub trick_of : Question → List ℕ
trick_of q = take q.played q.trick

-- the position that the numbers say
pub record IsAskedPosition (q : Question) (t : PositionValue) : Type 0 where
  pub declarer : t.declarer ≡ cards_at q.declarer
  pub dummy : t.dummy ≡ cards_at q.dummy
  pub unseen : t.unseen ≡ cards_at q.unseen
  pub trick : t.trick.cards ≡ trick_of q
  pub leader : seat_place t.trick.leader ≡ q.leader
  pub trump : trump_place t.trump ≡ q.trump
  pub need : t.need ≡ q.need

-- and the node, with Left's hand in each layout
pub record IsAskedNode (q : Question) (lefts : List ℕ) (n : NodeValue) : Type 0 where
  pub position : IsAskedPosition q n.position
  pub layouts : n.lefts ≡ map cards_at lefts

-- 1 to 26
abbrev pub AreMoves : ℕ → Type 0
AreMoves moves = (1 ≤ moves) × (moves ≤ most_moves)
