-- Cards that count with higher ones, and with lower equals.
use Rattle.std.specs.Prelude.{◌≡◌, ◌⊎◌, ℕ, true, not, ◌&&◌, nat_lt, List}
use Rattle.card_sets.specs.Cards.{suit_of, same_suit}
use Rattle.card_sets.specs.SetWords.{has_card, cards_where}
use Rattle.trick_rules.specs.Positions.{State}
use Rattle.trick_rules.specs.Play.{legal_in}
use Rattle.double_dummy.specs.Equals.{AreEqual}

-- a card and all higher ones of its suit
abbrev pub up_from : ℕ → List ℕ
up_from card = cards_where (λ c. same_suit (suit_of c) (suit_of card) && not (nat_lt c card))

-- where a card counts, so does the lower card to which it is equal
abbrev pub IsClosedDown : State → List ℕ → Type 0
IsClosedDown s counting = (low high : ℕ) → AreEqual s low high
    → has_card counting high ≡ true → has_card counting low ≡ true

-- each legal card is kept, or equal to a higher one
abbrev pub AreSpokenFor : State → List ℕ → Type 0
AreSpokenFor s kept = (low : ℕ) → has_card (legal_in s) low ≡ true
    → (has_card kept low ≡ true) ⊎ ((high : ℕ) × AreEqual s low high)
