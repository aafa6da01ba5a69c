-- A hand in the Deal form: a dash if it isn't shown, or four suits with full stops between them.
use Rattle.std.specs.Prelude.{ℕ, Bool, false, ◌||◌, ◌==◌, List, [], ◌∷◌, length, map, filter_map, flat_map, zip, Option, Some, None, is_some, if◌then◌else◌}
use Rattle.std.specs.List.{slice_split, list_all}
use Rattle.card_sets.specs.declared.card.Suit.{Suit}
use Rattle.card_sets.specs.declared.card.Suit.TheVariants.{Spades, Hearts, Diamonds, Clubs}
use Rattle.card_sets.specs.Cards.{card_of}
use Rattle.card_sets.specs.SetWords.{has_card, cards_where}
use Rattle.card_letters.specs.Letters.{rank_read}

-- a dash: the hand isn't shown
abbrev pub is_hidden : List ℕ → Bool
is_hidden [] = false
is_hidden (byte ∷ []) = byte == 45
is_hidden (first ∷ second ∷ rest) = false

-- a full stop
abbrev pub is_full_stop : ℕ → Bool
is_full_stop byte = byte == 46

-- what stands between the full stops
abbrev pub suits_of : List ℕ → List (List ℕ)
suits_of hand = slice_split is_full_stop hand

-- four suits, or a dash
abbrev pub has_four_suits : List ℕ → Bool
has_four_suits hand = is_hidden hand || (length (suits_of hand) == 4)

-- each byte is a full stop or the letter of a rank, or the hand is a dash
abbrev pub has_rank_letters : List ℕ → Bool
has_rank_letters hand = is_hidden hand || list_all (λ byte. is_full_stop byte || is_some (rank_read byte)) hand

-- the four suits, in the order in which they are written
abbrev pub suit_order : List Suit
suit_order = Spades ∷ Hearts ∷ Diamonds ∷ Clubs ∷ []

-- the cards that the letters of a suit name
abbrev pub suit_cards : Suit → List ℕ → List ℕ
suit_cards suit letters = map (card_of suit) (filter_map rank_read letters)

-- the cards of these suits, as they are written
abbrev pub cards_in : List Suit → List (List ℕ) → List ℕ
cards_in suits parts = flat_map (λ part. suit_cards part.0 part.1) (zip suits parts)

-- the cards of a hand, as they are written; none if it isn't shown
unfoldable pub hand_cards : List ℕ → List ℕ
hand_cards hand = if is_hidden hand then [] else cards_in suit_order (suits_of hand)

-- a hand as it is read: the set of its cards, or `None` if it isn't shown
unfoldable pub hand_read : List ℕ → Option (List ℕ)
hand_read hand = if is_hidden hand then None else Some (cards_where (has_card (hand_cards hand)))
