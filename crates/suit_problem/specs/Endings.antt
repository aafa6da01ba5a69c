-- The ending in which a suit is played: the suit, and as many other cards as it takes.
use Rattle.std.specs.Prelude.{◌≡◌, ℕ, ◌+◌, ◌-◌, ◌*◌, ◌/◌, ◌%◌, ◌≤◌, Bool, not, ◌&&◌, ◌==◌, nat_lt, max, Result, Ok, Err, List, [], ◌∷◌, length, map, take, drop, filter, true, if◌then◌else◌}
use Rattle.std.specs.List.{range_with_len}
use Rattle.card_sets.specs.declared.card.Suit.{Suit}
use Rattle.card_sets.specs.declared.card.Suit.TheVariants.{Hearts, Diamonds, Clubs}
use Rattle.card_sets.specs.Cards.{suit_of, same_suit, card_of}
use Rattle.card_sets.specs.SetWords.{has_card, cards_where}
use Rattle.pbn_deal.specs.BoardRead.{together}
use Rattle.layout_maker.specs.Choosing.{without}
use Rattle.layout_maker.specs.MadeProblem.{set_of}
use Rattle.suit_problem.specs.declared.fault.SuitFault.{SuitFault}
use Rattle.suit_problem.specs.declared.fault.SuitFault.TheVariants.{TooMany, TooFew}
use Rattle.suit_problem.specs.declared.hands.SuitHands.{SuitHands}
use Rattle.suit_problem.specs.declared.ending.Ending.{Ending}
use Rattle.suit_problem.specs.Written.{suit_cards}

-- ---- how large it is

-- the most cards of the suit that the defenders may hold: eight lie in 256 ways
abbrev pub most_missing : ℕ
most_missing = 8

-- the cards of the suit that the defenders hold
abbrev pub missing_cards : SuitHands → List ℕ
missing_cards hands = without (together hands.dummy hands.south) suit_cards

-- the cards of the suit in the longer hand
abbrev pub longer : List ℕ → List ℕ → ℕ
longer dummy south = max (length dummy) (length south)

-- the entries of each hand: as many as are asked for, or more, if a defender couldn't hold all missing cards otherwise
abbrev pub entries_for : ℕ → ℕ → ℕ → ℕ
entries_for asked long missing = max asked ((missing - long + 1) / 2)

-- the ending of this many tricks
abbrev pub ending_of_size : SuitHands → List ℕ → ℕ → ℕ → Result Ending SuitFault
ending_of_size hands missing entries tricks =
    if nat_lt 13 tricks then Err TooMany
    else Ok (record { dummy = hands.dummy; south = hands.south; missing = missing; entries = entries; tricks = tricks })

-- the ending of a suit with at least this many entries in each hand
abbrev pub ending_made : SuitHands → ℕ → Result Ending SuitFault
ending_made hands asked =
    let missing = missing_cards hands in
    let long = longer hands.dummy hands.south in
    let entries = entries_for asked long (length missing) in
    if nat_lt most_missing (length missing) then Err TooFew
    else ending_of_size hands missing entries (long + 2 * entries)

-- an ending as it is made: each hand has room for its entries, and a defender for all missing cards
pub record IsEnding (ending : Ending) : Type 0 where
  pub few : length ending.missing ≤ most_missing
  pub some_entries : 1 ≤ ending.entries
  pub dummy_fits : length ending.dummy + 2 * ending.entries ≤ ending.tricks
  pub south_fits : length ending.south + 2 * ending.entries ≤ ending.tricks
  pub room : length ending.missing ≤ ending.tricks
  pub short : ending.tricks ≤ 13

-- ---- the other suits

-- a card and all higher ones of its suit
abbrev pub up_from : ℕ → List ℕ
up_from card = cards_where (λ c. same_suit (suit_of c) (suit_of card) && not (nat_lt c card))

-- the highest cards of a suit
abbrev pub tops : Suit → ℕ → List ℕ
tops suit count = up_from (card_of suit (15 - count))

-- the lowest cards of a suit
abbrev pub smalls : Suit → ℕ → List ℕ
smalls suit count = without (up_from (card_of suit (2 + count))) (filter (λ c. same_suit (suit_of c) suit) (cards_where (λ _. true)))

-- North, the dummy, has the suit, its entries in hearts, and small diamonds
abbrev pub north_hand : Ending → List ℕ
north_hand ending =
    together (together ending.dummy (tops Hearts ending.entries)) (smalls Diamonds (ending.tricks - length ending.dummy - ending.entries))

-- South, declarer, has the suit, its entries in diamonds, and small hearts
abbrev pub south_hand : Ending → List ℕ
south_hand ending =
    together (together ending.south (tops Diamonds ending.entries)) (smalls Hearts (ending.tricks - length ending.south - ending.entries))

-- hearts and diamonds in turn from the ace down, and then the clubs
abbrev pub side_card : ℕ → ℕ
side_card place =
    if nat_lt place 26 then card_of (if place % 2 == 0 then Hearts else Diamonds) (14 - place / 2)
    else card_of Clubs (40 - place)

-- the cards of the other suits that the defenders may hold, in that order
abbrev pub side_cards : Ending → List ℕ
side_cards ending =
    filter (λ card. not (has_card (together (north_hand ending) (south_hand ending)) card)) (map side_card (range_with_len 0 39))

-- West has these cards of the suit, and the first side cards
abbrev pub west_hand : Ending → List ℕ → List ℕ
west_hand ending cards = together cards (set_of (take (ending.tricks - length cards) (side_cards ending)))

-- East has the rest of the suit, and the next side cards
abbrev pub east_hand : Ending → List ℕ → List ℕ → List ℕ
east_hand ending west cards =
    together cards (set_of (take (ending.tricks - length cards) (drop (ending.tricks - length west) (side_cards ending))))
