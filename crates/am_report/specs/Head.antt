-- The head of a report: the table at the moment, and the layouts that the answer is about.
use Rattle.std.specs.Prelude.{ℕ, List, [], ◌∷◌, ◌++◌, flat_map, codes}
use Rattle.std.specs.Fmt.{decimal}
use Rattle.card_sets.specs.declared.seat.Seat.{Seat}
use Rattle.card_sets.specs.declared.seat.Seat.TheVariants.{Declarer, Dummy}
use Rattle.card_letters.specs.Letters.{letters_of, compass_letter, suit_letter}
use Rattle.trick_rules.specs.declared.trump.Trump.{Trump}
use Rattle.trick_rules.specs.declared.trump.Trump.TheVariants.{NoTrump, Suit as Suited}
use Rattle.trick_rules.specs.Positions.{TrickValue, PositionValue, to_play}
use Rattle.pbn_deal.specs.Boards.{BoardValue, compass_of}
use Rattle.pbn_deal.specs.Writing.{hand_text}
use Rattle.layout_list.specs.declared.kept.Cause.{Cause}
use Rattle.layout_list.specs.declared.kept.Cause.TheVariants.{NotHeld, Revoke}
use Rattle.layout_list.specs.declared.kept.Dropped.{Dropped}
use Rattle.layout_list.specs.Kept.{KeptValue}
use Rattle.byte_text.specs.Lines.{line_of}
use Rattle.am_report.specs.Lines.{spaced}
use Rattle.am_report.specs.Versions.{version_of, version_number, weights_line}

-- the letter of a seat's place at the table
abbrev pub seat_text : BoardValue → Seat → List ℕ
seat_text board seat = compass_letter (compass_of board.declarer seat) ∷ []

-- the trump suit's letter, or NT
abbrev pub trump_text : Trump → List ℕ
trump_text (Suited suit) = suit_letter suit ∷ []
trump_text NoTrump = codes "NT"

-- a seat with its hand
unfoldable pub hand_line : BoardValue → Seat → List ℕ → List ℕ
hand_line board seat hand = line_of (codes "hand " ++ seat_text board seat ++ codes " " ++ hand_text hand)

-- the cards of the present trick, or a dash if it has none
abbrev pub cards_text : List ℕ → List ℕ
cards_text [] = codes "-"
cards_text (card ∷ cards) = spaced letters_of (card ∷ cards)

-- the seat that led to the present trick, and the trick's cards
unfoldable pub trick_line : BoardValue → TrickValue → List ℕ
trick_line board trick = line_of (codes "trick " ++ seat_text board trick.leader ++ codes " " ++ cards_text trick.cards)

-- why a layout is dropped
abbrev pub cause_text : Cause → List ℕ
cause_text NotHeld = codes "notheld"
cause_text Revoke = codes "revoke"

-- a dropped layout's number, the cause, and the card by its number in order of play
unfoldable pub dropped_line : Dropped → List ℕ
dropped_line layout = line_of (codes "dropped " ++ decimal layout.number ++ codes " " ++ cause_text layout.cause ++ codes " " ++ decimal layout.play)

-- the contract, both hands, the trick and the seat to play
unfoldable pub position_text : BoardValue → PositionValue → List ℕ
position_text board table =
    line_of (codes "declarer " ++ seat_text board Declarer)
    ++ line_of (codes "trump " ++ trump_text table.trump)
    ++ line_of (codes "need " ++ decimal table.need)
    ++ hand_line board Declarer table.declarer
    ++ hand_line board Dummy table.dummy
    ++ trick_line board table.trick
    ++ line_of (codes "turn " ++ seat_text board (to_play table))

-- the numbers of the kept layouts
unfoldable pub kept_line : List ℕ → List ℕ
kept_line numbers = line_of (codes "kept " ++ spaced decimal numbers)

-- the whole head: the version, the table, the moves of declarer's side, the kept layouts with their weights, and a
-- line for each dropped one
unfoldable pub head_text : BoardValue → KeptValue → ℕ → List ℕ
head_text board kept moves =
    line_of (codes "alphamu report " ++ version_number (version_of kept.weights))
    ++ position_text board kept.node.position
    ++ line_of (codes "moves " ++ decimal moves)
    ++ kept_line kept.numbers
    ++ weights_line (version_of kept.weights) kept.weights
    ++ flat_map dropped_line kept.dropped
