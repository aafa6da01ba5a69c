-- What a condition says of a hand.
use Rattle.std.specs.Prelude.{ℕ, ◌-◌, ◌%◌, Bool, not, ◌&&◌, ◌||◌, ◌==◌, nat_le, List, [], ◌∷◌, length, filter, sum_by, count_by}
use Rattle.std.specs.List.{list_all}
use Rattle.card_sets.specs.declared.card.Suit.{Suit}
use Rattle.card_sets.specs.declared.card.Suit.TheVariants.{Spades, Hearts, Diamonds, Clubs}
use Rattle.card_sets.specs.Cards.{suit_of, rank_of, same_suit}
use Rattle.card_sets.specs.SetWords.{has_card}
use Rattle.hand_conditions.specs.declared.span.Span.{Span}
use Rattle.hand_conditions.specs.declared.term.Measure.{Measure}
use Rattle.hand_conditions.specs.declared.term.Measure.TheVariants.{Points, Length}
use Rattle.hand_conditions.specs.declared.term.Term.{Term}
use Rattle.hand_conditions.specs.declared.term.Term.TheVariants.{Count, Balanced, Holds, Lacks}

-- ---- what is counted

-- 4, 3, 2 and 1 for the ace, king, queen and jack, whose ranks are 14, 13, 12 and 11
abbrev pub card_points : ℕ → ℕ
card_points card = rank_of card - 10

-- whether a card is at this place of its suit, where the two has place 0 and the ace place 12
abbrev pub is_at : ℕ → ℕ → Bool
is_at place card = card % 13 == place

-- the high-card points of a hand
unfoldable pub points : List ℕ → ℕ
points hand = sum_by card_points hand

-- how many cards of a suit a hand has
abbrev pub suit_length : Suit → List ℕ → ℕ
suit_length suit hand = length (filter (λ card. same_suit (suit_of card) suit) hand)

-- what a term counts of a hand
abbrev pub measured : Measure → List ℕ → ℕ
measured Points hand = points hand
measured (Length suit) hand = suit_length suit hand

-- from the least number to the greatest, both included
abbrev pub is_within : Span → ℕ → Bool
is_within span number = nat_le span.least number && nat_le number span.most

-- ---- balanced hands

-- how many cards of each suit a hand has
abbrev pub shape : List ℕ → List ℕ
shape hand = suit_length Spades hand ∷ suit_length Hearts hand ∷ suit_length Diamonds hand ∷ suit_length Clubs hand ∷ []

-- how many suits have this many cards
abbrev pub suits_of : ℕ → List ℕ → ℕ
suits_of count lengths = count_by (λ cards. cards == count) lengths

-- this many suits have five, four, three and two cards
abbrev pub has_suits : ℕ → ℕ → ℕ → ℕ → List ℕ → Bool
has_suits fives fours threes twos lengths = (suits_of 5 lengths == fives) && (suits_of 4 lengths == fours) && (suits_of 3 lengths == threes) && (suits_of 2 lengths == twos)

-- four suits of these lengths are 4333, 4432 or 5332 in some order
abbrev pub is_balanced_shape : List ℕ → Bool
is_balanced_shape lengths = has_suits 0 1 3 0 lengths || has_suits 0 2 1 1 lengths || has_suits 1 0 2 1 lengths

-- ---- terms

-- whether a hand meets a term
abbrev pub is_met_by : List ℕ → Term → Bool
is_met_by hand (Count measure span) = is_within span (measured measure hand)
is_met_by hand Balanced = is_balanced_shape (shape hand)
is_met_by hand (Holds cards) = list_all (has_card hand) cards
is_met_by hand (Lacks cards) = list_all (λ card. not (has_card hand card)) cards

-- whether a hand meets a condition: each of its terms
abbrev pub meets : List Term → List ℕ → Bool
meets condition hand = list_all (is_met_by hand) condition
