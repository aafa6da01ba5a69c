-- Equal cards of the hand that is to play: with a card played, its equals could have been played just as well.
use Rattle.std.specs.Prelude.{◌≡◌, ℕ, Bool, true, not, ◌&&◌, ◌||◌, ◌==◌, List, filter, nat_lt}
use Rattle.std.specs.List.{list_any}
use Rattle.card_sets.specs.Cards.{suit_of, same_suit}
use Rattle.card_sets.specs.SetWords.{has_card, cards_where}
use Rattle.trick_rules.specs.Nodes.{NodeValue, IsNode, choices}
use Rattle.double_dummy.specs.Equals.{in_play}
use Rattle.equal_cards.specs.Equals.{ComeToTheSame}
use Rattle.strategy_tree.specs.Bridge.{bridge}
use Rattle.card_brackets.specs.declared.rows.CardRow.{CardRow}

-- the cards in play that aren't choices
abbrev pub others_in_play : NodeValue → List ℕ
others_in_play n = filter (λ card. not (has_card (choices n) card)) (cards_where (in_play n.position))

-- whether a card stands between two in card order
abbrev pub stands_between : ℕ → ℕ → ℕ → Bool
stands_between card other it = (nat_lt card it && nat_lt it other) || (nat_lt other it && nat_lt it card)

-- whether two cards are different ones of a suit, and none of the others stands between them
abbrev pub are_equal : List ℕ → ℕ → ℕ → Bool
are_equal others card other = not (card == other) && same_suit (suit_of card) (suit_of other)
    && not (list_any (stands_between card other) others)

-- the rows of the cards that are equal to a card
abbrev pub equal_rows : List ℕ → List CardRow → ℕ → List CardRow
equal_rows others rows card = filter (λ row. are_equal others card row.card) rows

-- at declarer's turn such choices come to the same
abbrev pub EqualsComeToTheSame : Type 0
EqualsComeToTheSame = (n : NodeValue) (card other : ℕ) → IsNode n → bridge.is_ours n ≡ true
    → has_card (choices n) card ≡ true → has_card (choices n) other ≡ true
    → are_equal (others_in_play n) card other ≡ true → ComeToTheSame n card other
