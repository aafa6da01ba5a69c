-- What the reader of hands keeps: the cards that it has seen.
use Rattle.std.specs.Prelude.{◌≡◌, ℕ, Bool, ◌||◌, List, [], ◌∷◌}
use Rattle.std.specs.List.{list_any}
use Rattle.card_sets.specs.SetWords.{has_card}
use Rattle.pbn_deal.specs.declared.hands.FourHands.{FourHands}
use Rattle.pbn_deal.specs.Deal.{has_repeat}

-- whether one of the cards was seen before, or stands twice among them
abbrev pub repeats : List ℕ → List ℕ → Bool
repeats seen cards = list_any (has_card seen) cards || has_repeat cards

-- the second set has the cards of the first and these
abbrev pub Adds : List ℕ → List ℕ → List ℕ → Type 0
Adds old new cards = (card : ℕ) → has_card new card ≡ (has_card old card || has_card cards card)

-- four hands as they are written
abbrev pub hands_of : FourHands → List (List ℕ)
hands_of four = four.first.now ∷ four.second.now ∷ four.third.now ∷ four.fourth.now ∷ []
