-- Where the lines part: the first line compared with the later ones.
use Rattle.std.specs.Prelude.{ℕ, ◌==◌, Option, None, Some, List, [], ◌∷◌, ◌++◌, length, flat_map, nat_lt, codes, if◌then◌else◌}
use Rattle.std.specs.Fmt.{decimal}
use Rattle.card_sets.specs.declared.seat.Compass.{Compass}
use Rattle.card_sets.specs.declared.seat.Seat.{Seat}
use Rattle.card_sets.specs.declared.seat.Seat.TheVariants.{Declarer, Left, Dummy, Right}
use Rattle.card_sets.specs.Seats.{next_compass}
use Rattle.trick_rules.specs.declared.trump.Trump.{Trump}
use Rattle.trick_rules.specs.Positions.{TrickValue, PositionValue, seat_after}
use Rattle.trick_rules.specs.Play.{next_trick}
use Rattle.line_partings.specs.Partings.{PartingValue}
use Rattle.html_text.specs.declared.page.Piece.{Piece}
use Rattle.html_text.specs.Pages.{own, told}
use Rattle.page_text.specs.declared.markup.TheConstants.{SECTION_END, PARTINGS, NO_SECOND, BESIDE, BOTH_LINES, AND_LINE, ALIKE, PARTED, ONLY_SIX}
use Rattle.page_text.specs.declared.partings.Beside.{Beside}
use Rattle.page_text.specs.Signs.{card_pieces, compass_word}
use Rattle.page_text.specs.Verdicts.{from_hand}
use Rattle.page_text.specs.Lines.{link}

-- ---- the cards of a history

unfoldable pub name : Compass → List Piece
name place = own (compass_word place) ++ own (codes " ")

-- a defender by name; declarer's side isn't named
abbrev pub defender : Compass → Seat → List Piece
defender declarer Declarer = []
defender declarer Left = name (next_compass declarer)
defender declarer Dummy = []
defender declarer Right = name (next_compass (next_compass (next_compass declarer)))

-- a card with who plays it, as "West ♦A" or "♥2 from dummy"
unfoldable pub played : Compass → Seat → ℕ → List Piece
played declarer seat card = defender declarer seat ++ card_pieces card ++ own (from_hand seat)

-- the seat that plays to a trick
abbrev pub turn_in : TrickValue → Seat
turn_in trick = seat_after (length trick.cards) trick.leader

-- a semicolon after the card that ends a trick, and a comma after any other, by the trick that follows
abbrev pub sign_after : TrickValue → List ℕ
sign_after trick = if length trick.cards == 0 then codes "; " else codes ", "

unfoldable pub one_card : Compass → Trump → TrickValue → ℕ → List Piece
one_card declarer trump trick card = played declarer (turn_in trick) card ++ own (sign_after (next_trick trump trick card))

-- the cards, one after another, of which the first is played to this trick
abbrev pub history : Compass → Trump → TrickValue → List ℕ → List Piece
history declarer trump trick [] = []
history declarer trump trick (card ∷ cards) = one_card declarer trump trick card ++ history declarer trump (next_trick trump trick card) cards

-- the trick after them
abbrev pub trick_after : Trump → TrickValue → List ℕ → TrickValue
trick_after trump trick [] = trick
trick_after trump trick (card ∷ cards) = trick_after trump (next_trick trump trick card) cards

-- ---- two lines

abbrev pub opening : List ℕ → List ℕ
opening [] = codes ": at once "
opening (card ∷ cards) = codes ": after "

-- the first line and that of a number, as links to their words
unfoldable pub both_lines : ℕ → List Piece
both_lines number = own BOTH_LINES.now ++ link number

unfoldable pub other_line : ℕ → List Piece
other_line number = own AND_LINE.now ++ told (decimal number) ++ own (codes " ")

-- the card that the line of a number plays, and from which hand
unfoldable pub other_card : ℕ → ℕ → Seat → List Piece
other_card number card seat = other_line number ++ card_pieces card ++ own (from_hand seat) ++ own (codes ".</li>\n")

-- the cards after which they part, from a position on, and the card that each plays then
unfoldable pub parting : Compass → PositionValue → ℕ → PartingValue → List Piece
parting declarer t number place =
    own (opening place.history) ++ history declarer t.trump t.trick place.history
    ++ own PARTED.now ++ card_pieces place.card ++ other_card number place.other (turn_in (trick_after t.trump t.trick place.history))

-- where the two part, or that they are the same
abbrev pub where_apart : Compass → PositionValue → ℕ → Option PartingValue → List Piece
where_apart declarer t number None = own ALIKE.now
where_apart declarer t number (Some place) = parting declarer t number place

-- a line compared with the first
unfoldable pub beside : Compass → PositionValue → Beside → List Piece
beside declarer t line = both_lines line.number ++ where_apart declarer t line.number line.parting

-- ---- the list

-- of more than six lines the first six are compared
abbrev pub first_few : ℕ → List ℕ
first_few lines = if nat_lt 6 lines then ONLY_SIX.now else []

-- the lines compared with the first, if there are any
unfoldable pub list : Compass → PositionValue → List Beside → List Piece
list declarer t besides =
    if length besides == 0 then own NO_SECOND.now
    else own BESIDE.now ++ flat_map (beside declarer t) besides ++ own (codes "</ul>\n")

-- where the first line and each of the later ones part, in a report with this many lines
unfoldable pub partings : Compass → PositionValue → ℕ → List Beside → List Piece
partings declarer t lines besides = own PARTINGS.now ++ list declarer t besides ++ own (first_few lines) ++ own SECTION_END.now
