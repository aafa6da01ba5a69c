-- The four hands round the table, as far as they are known.
use Rattle.std.specs.Prelude.{ℕ, Bool, List, [], ◌++◌, length, flat_map, codes}
use Rattle.std.specs.List.{list_any, list_all}
use Rattle.std.specs.Fmt.{decimal}
use Rattle.card_sets.specs.declared.seat.Compass.{Compass}
use Rattle.card_sets.specs.declared.seat.Compass.TheVariants.{N, E, S, W}
use Rattle.card_sets.specs.declared.seat.Seat.{Seat}
use Rattle.card_sets.specs.declared.seat.Seat.TheVariants.{Declarer, Left, Dummy, Right}
use Rattle.card_sets.specs.Seats.{next_compass}
use Rattle.card_sets.specs.SetWords.{has_card, cards_where}
use Rattle.trick_rules.specs.declared.trump.Trump.{Trump}
use Rattle.trick_rules.specs.declared.trump.Trump.TheVariants.{NoTrump, Suit as Suited}
use Rattle.trick_rules.specs.Positions.{PositionValue, tricks_left}
use Rattle.trick_rules.specs.Play.{hand_of}
use Rattle.trick_rules.specs.Nodes.{NodeValue}
use Rattle.html_text.specs.declared.page.Piece.{Piece}
use Rattle.html_text.specs.Pages.{own, told}
use Rattle.page_text.specs.declared.markup.TheConstants.{TABLE_START, TABLE_END, HAND_IN, HAND_END, TRUMPS, CENTRE, NEEDED, CENTRE_END}
use Rattle.page_text.specs.Signs.{suit_sign, card_pieces, hand_pieces, compass_word}
use Rattle.page_text.specs.Picking.{picker}

-- whether a seat holds a card, if Left has this hand
abbrev pub is_held : PositionValue → Seat → ℕ → List ℕ → Bool
is_held position seat card left = has_card (hand_of (record { position = position; left = left }) seat) card

-- the cards that a seat holds in some layout
abbrev pub may_hold : NodeValue → Seat → List ℕ
may_hold n seat = cards_where (λ card. list_any (is_held n.position seat card) n.lefts)

-- the cards that it holds in every layout
abbrev pub must_hold : NodeValue → Seat → List ℕ
must_hold n seat = cards_where (λ card. list_all (is_held n.position seat card) n.lefts)

-- where a hand stands on the page
abbrev pub box_start : Compass → List ℕ
box_start N = codes "<div class='n'><h3>"
box_start E = codes "<div class='e'><h3>"
box_start S = codes "<div class='f'><h3>"
box_start W = codes "<div class='w'><h3>"

abbrev pub role : Seat → List ℕ
role Declarer = codes ", declarer</h3>\n<ul>\n"
role Left = codes "</h3>\n<ul class='any'>\n"
role Dummy = codes ", dummy</h3>\n<ul>\n"
role Right = codes "</h3>\n<ul class='any'>\n"

-- a seat's hand if Left has this one, in bold the cards that are sure
unfoldable pub hand_in : PositionValue → Seat → List ℕ → List ℕ → List Piece
hand_in position seat sure left = own HAND_IN.now ++ hand_pieces (hand_of (record { position = position; left = left }) seat) sure

-- a defender's hands by layouts, each to be shown if it is picked, in bold the cards that he holds in every layout
abbrev pub hands_in : NodeValue → Seat → List Piece
hands_in n Declarer = []
hands_in n Left = flat_map (hand_in n.position Left (must_hold n Left)) n.lefts
hands_in n Dummy = []
hands_in n Right = flat_map (hand_in n.position Right (must_hold n Right)) n.lefts

-- the hand of a seat: every card that may be in it; and a defender's in each layout
unfoldable pub seat_hands : Seat → NodeValue → List Piece
seat_hands seat n = hand_pieces (may_hold n seat) (must_hold n seat) ++ hands_in n seat

-- a seat with its hand
unfoldable pub seat_pieces : Compass → Seat → NodeValue → List Piece
seat_pieces place seat n =
    own (box_start place) ++ own (compass_word place) ++ own (role seat) ++ seat_hands seat n ++ own HAND_END.now

-- the four seats, clockwise from declarer
unfoldable pub seats : Compass → NodeValue → List Piece
seats declarer n =
    seat_pieces declarer Declarer n ++ seat_pieces (next_compass declarer) Left n
    ++ seat_pieces (next_compass (next_compass declarer)) Dummy n ++ seat_pieces (next_compass (next_compass (next_compass declarer))) Right n

-- the trump suit
abbrev pub trump_word : Trump → List ℕ
trump_word (Suited suit) = suit_sign suit
trump_word NoTrump = codes "No"

-- trumps, and the tricks that declarer's side needs of those that are left
unfoldable pub contract : PositionValue → List Piece
contract position =
    own (trump_word position.trump) ++ own TRUMPS.now ++ told (decimal position.need) ++ own (codes " of ")
    ++ told (decimal (tricks_left position))

-- a card of the trick
abbrev pub trick_card : ℕ → List Piece
trick_card card = card_pieces card ++ own (codes " ")

-- what lies in the middle: the contract, and the cards of the present trick
unfoldable pub centre : PositionValue → List Piece
centre position =
    own CENTRE.now ++ contract position ++ own NEEDED.now ++ flat_map trick_card position.trick.cards
    ++ own CENTRE_END.now

-- the table, with the picker of a layout
unfoldable pub table : Compass → NodeValue → List Piece
table declarer n = own TABLE_START.now ++ picker (length n.lefts) ++ seats declarer n ++ centre n.position ++ own TABLE_END.now
