-- The Deal form as it is written: from North, ranks from the ace down, one space between hands.
use Rattle.std.specs.Prelude.{ℕ, List, [], ◌∷◌, map, filter, Option, Some, None}
use Rattle.std.specs.List.{join_with_byte}
use Rattle.card_sets.specs.declared.card.Suit.{Suit}
use Rattle.card_sets.specs.Cards.{card_of}
use Rattle.card_sets.specs.SetWords.{has_card}
use Rattle.card_sets.specs.declared.seat.Compass.TheVariants.{N}
use Rattle.card_letters.specs.Letters.{rank_letter, compass_letter}
use Rattle.pbn_deal.specs.Hands.{suit_order}

-- the ranks from the ace down to the two
abbrev pub ranks_down : List ℕ
ranks_down = 14 ∷ 13 ∷ 12 ∷ 11 ∷ 10 ∷ 9 ∷ 8 ∷ 7 ∷ 6 ∷ 5 ∷ 4 ∷ 3 ∷ 2 ∷ []

-- the letters of the ranks that a hand has in a suit, from the ace down
unfoldable pub suit_text : List ℕ → Suit → List ℕ
suit_text cards suit = map rank_letter (filter (λ rank. has_card cards (card_of suit rank)) ranks_down)

-- a hand that is shown: its four suits with full stops between them
unfoldable pub hand_text : List ℕ → List ℕ
hand_text cards = join_with_byte 46 (map (suit_text cards) suit_order)

-- a hand, or a dash for one that isn't shown
abbrev pub shown_text : Option (List ℕ) → List ℕ
shown_text None = 45 ∷ []
shown_text (Some cards) = hand_text cards

-- hands with one space between them
unfoldable pub hands_text : List (Option (List ℕ)) → List ℕ
hands_text hands = join_with_byte 32 (map shown_text hands)

-- the hands of North, East, South and West in the Deal form, from North
abbrev pub deal_text : List (Option (List ℕ)) → List ℕ
deal_text hands = compass_letter N ∷ 58 ∷ hands_text hands
