-- The cards of a suit below a place go up one place.
use Rattle.std.specs.Prelude.{ℕ, ◌+◌, Bool, not, ◌&&◌, ◌||◌, nat_lt, List, filter, map}
use Rattle.card_sets.specs.Cards.{suit_of, same_suit}
use Rattle.card_sets.specs.SetWords.{has_card, cards_where}

-- whether a card is of a place's suit and below it
abbrev pub is_below : ℕ → ℕ → Bool
is_below place card = same_suit (suit_of card) (suit_of place) && nat_lt card place

-- a set with its cards of a place's suit below it each one place higher
abbrev pub with_raised : ℕ → List ℕ → List ℕ
with_raised place cards = cards_where (λ card. has_card (filter (λ c. not (is_below place c)) cards) card
    || has_card (map (λ c. c + 1) (filter (is_below place) cards)) card)
