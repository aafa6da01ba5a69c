-- The Deal form: a seat letter, a colon, and four hands clockwise from that seat.
use Rattle.std.specs.Prelude.{◌≡◌, ℕ, ◌≤◌, ◌-◌, Bool, true, false, not, ◌||◌, ◌&&◌, ◌==◌, nat_le, List, [], ◌∷◌, ◌++◌, length, take, drop, map, filter_map, flat_map, Option, Some, None, option_map, is_some, slice_index_or, Result, Ok, Err, if◌then◌else◌}
use Rattle.std.specs.List.{list_all, list_any}
use Rattle.bit_lists.specs.Bits.{among}
use Rattle.card_sets.specs.declared.seat.Compass.{Compass}
use Rattle.card_sets.specs.declared.seat.Compass.TheVariants.{N, E, S, W}
use Rattle.card_sets.specs.SetWords.{IsCardSet, Apart}
use Rattle.card_letters.specs.Letters.{compass_read}
use Rattle.byte_text.specs.Blanks.{after_blanks, words}
use Rattle.pbn_deal.specs.declared.deal.DealValue.{DealValue}
use Rattle.pbn_deal.specs.declared.deal.DealFault.{DealFault}
use Rattle.pbn_deal.specs.declared.deal.DealFault.TheVariants.{Seat, HandCount, SuitCount, RankLetter, Repeated, Sizes}
use Rattle.pbn_deal.specs.Hands.{has_four_suits, has_rank_letters, hand_cards, hand_read}

-- the seat whose letter and colon a value begins with, and what follows the colon
abbrev pub seat_ahead : List ℕ → Option (Compass × List ℕ)
seat_ahead [] = None
seat_ahead (letter ∷ []) = None
seat_ahead (letter ∷ colon ∷ rest) = if colon == 58 then option_map (λ seat. (seat, rest)) (compass_read letter) else None

-- whether a card stands twice in a list
abbrev pub has_repeat : List ℕ → Bool
has_repeat [] = false
has_repeat (card ∷ cards) = among cards card || has_repeat cards

-- whether there are sizes, and all are one size of 1 to 13
abbrev pub are_one_size : List ℕ → Bool
are_one_size [] = false
are_one_size (size ∷ sizes) = nat_le 1 size && nat_le size 13 && list_all (λ other. other == size) sizes

-- the sizes of the hands that are shown
abbrev pub shown_sizes : List (Option (List ℕ)) → List ℕ
shown_sizes hands = filter_map (option_map length) hands

-- how many seats clockwise from North
abbrev pub compass_place : Compass → ℕ
compass_place N = 0
compass_place E = 1
compass_place S = 2
compass_place W = 3

-- four hands clockwise from a seat, put in the order North, East, South, West
abbrev pub from_north : Compass → List (Option (List ℕ)) → List (Option (List ℕ))
from_north first hands = drop (4 - compass_place first) hands ++ take (4 - compass_place first) hands

-- the hands that these words show, clockwise from the first seat, or the first fault
unfoldable pub hands_read : Compass → List (List ℕ) → Result DealValue DealFault
hands_read first hands =
    if not (length hands == 4) then Err HandCount
    else if not (list_all has_four_suits hands) then Err SuitCount
    else if not (list_all has_rank_letters hands) then Err RankLetter
    else if has_repeat (flat_map hand_cards hands) then Err Repeated
    else if not (are_one_size (shown_sizes (map hand_read hands))) then Err Sizes
    else Ok (record { hands = from_north first (map hand_read hands) })

-- what a text begins with, read on
abbrev pub seat_read : Option (Compass × List ℕ) → Result DealValue DealFault
seat_read None = Err Seat
seat_read (Some ahead) = hands_read ahead.0 (words ahead.1)

-- the hands of a value in the Deal form, or its first fault; blanks at both ends don't count
unfoldable pub deal_read : List ℕ → Result DealValue DealFault
deal_read value = seat_read (seat_ahead (after_blanks value))

-- the hand of a seat; `None` if it isn't shown
abbrev pub hand_at : DealValue → Compass → Option (List ℕ)
hand_at deal seat = slice_index_or deal.hands (compass_place seat) None

-- some hand is shown; the shown hands are sets of one size from 1 to 13, and no card is in two of them
pub record IsSoundDeal (deal : DealValue) : Type 0 where
  pub four : length deal.hands ≡ 4
  pub shown : list_any is_some deal.hands ≡ true
  pub set : (seat : Compass) (hand : List ℕ) → hand_at deal seat ≡ Some hand → IsCardSet hand
  pub some : (seat : Compass) (hand : List ℕ) → hand_at deal seat ≡ Some hand → 1 ≤ length hand
  pub few : (seat : Compass) (hand : List ℕ) → hand_at deal seat ≡ Some hand → length hand ≤ 13
  pub one_size : (seat other : Compass) (hand cards : List ℕ) → hand_at deal seat ≡ Some hand → hand_at deal other ≡ Some cards → length hand ≡ length cards
  pub apart : (seat other : Compass) (hand cards : List ℕ) → (compass_place seat == compass_place other) ≡ false → hand_at deal seat ≡ Some hand → hand_at deal other ≡ Some cards → Apart hand cards
