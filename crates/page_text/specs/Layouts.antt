-- The layouts of a node, with the defenders' hands, and the lines that make each.
use Rattle.std.specs.Prelude.{ℕ, ◌+◌, Bool, false, List, [], ◌++◌, length, get_or, flat_map, codes, if◌then◌else◌}
use Rattle.std.specs.List.{list_any, range_with_len}
use Rattle.std.specs.Fmt.{decimal}
use Rattle.card_sets.specs.declared.seat.Compass.{Compass}
use Rattle.card_sets.specs.declared.seat.Seat.TheVariants.{Right}
use Rattle.card_sets.specs.Seats.{next_compass}
use Rattle.trick_rules.specs.Positions.{PositionValue}
use Rattle.trick_rules.specs.Play.{hand_of}
use Rattle.trick_rules.specs.Nodes.{NodeValue}
use Rattle.html_text.specs.declared.page.Piece.{Piece}
use Rattle.html_text.specs.Pages.{own, told}
use Rattle.page_text.specs.declared.markup.TheConstants.{HAND_END, LAYOUTS, ITEM, SIDE, SIDE_HAND, WEIGHS, NUMBERS, NUMBERS_END}
use Rattle.page_text.specs.declared.lines.Line.{Line}
use Rattle.page_text.specs.declared.plays.PlayedLine.{PlayedLine}
use Rattle.page_text.specs.declared.layouts.Layouts.{Layouts}
use Rattle.page_text.specs.Signs.{hand_pieces, compass_word}
use Rattle.page_text.specs.Lines.{link}
use Rattle.page_text.specs.Plays.{plays_at}

-- a defender with this hand
unfoldable pub side : Compass → List ℕ → List Piece
side place hand = own SIDE.now ++ own (compass_word place) ++ own SIDE_HAND.now ++ hand_pieces hand [] ++ own HAND_END.now

-- the hands of the defenders in the layout of a place, if Left has this one
unfoldable pub hands : ℕ → Compass → PositionValue → List ℕ → List Piece
hands place declarer position left =
    own ITEM.now ++ told (decimal (place + 1)) ++ own (codes "'>") ++ side (next_compass declarer) left
    ++ side (next_compass (next_compass (next_compass declarer))) (hand_of (record { position = position; left = left }) Right)

unfoldable pub weight_note : ℕ → List Piece
weight_note weight = own WEIGHS.now ++ told (decimal weight) ++ own (codes ". ")

-- what a layout weighs, if layouts are weighed
abbrev pub worth : Bool → ℕ → List Piece
worth by_weight weight = if by_weight then weight_note weight else own (codes "<p>")

-- whether a line makes the layout at a place, which is counted from 0
abbrev pub makes_at : ℕ → Line → Bool
makes_at place line = get_or line.vector place false

-- a line as a link to its words, if it makes the layout
abbrev pub maker : ℕ → Line → List Piece
maker place line = if makes_at place line then own (codes " ") ++ link line.number else []

-- the words before the lines that make a layout, or that none does
abbrev pub made_by : Bool → List ℕ
made_by is_made = if is_made then codes "Made by line" else codes "No line makes it"

-- the lines that make the layout
unfoldable pub makers : ℕ → List Line → List Piece
makers place lines = own (made_by (list_any (makes_at place) lines)) ++ flat_map (maker place) lines ++ own (codes ".</p>\n")

-- what a page shows of the layouts of a node: their weights, if they are weighed, the lines, and those that are played out
pub record LayoutsShown : Type 0 where
  pub declarer : Compass
  pub node : NodeValue
  pub by_weight : Bool
  pub weights : List ℕ
  pub lines : List Line
  pub played : List PlayedLine

abbrev pub shown_by : Layouts → LayoutsShown
shown_by shown = record {
  declarer = shown.declarer;
  node = shown.node.now;
  by_weight = shown.by_weight;
  weights = shown.weights.now;
  lines = shown.lines.now;
  played = shown.played.now;
}

-- the layout at a place: the hands, what it weighs, the lines that make it, and lines played out there
unfoldable pub layout_at : LayoutsShown → ℕ → List Piece
layout_at shown place =
    hands place shown.declarer shown.node.position (get_or shown.node.lefts place []) ++ worth shown.by_weight (get_or shown.weights place 0)
    ++ makers place shown.lines ++ plays_at (length shown.node.position.trick.cards) place shown.played

-- the layouts in order
unfoldable pub layouts : LayoutsShown → List Piece
layouts shown = own LAYOUTS.now ++ flat_map (layout_at shown) (range_with_len 0 (length shown.node.lefts))

-- a number after a blank
abbrev pub number_item : ℕ → List Piece
number_item number = own (codes " ") ++ told (decimal number)

-- the numbers of the layouts in the layout file
unfoldable pub file_numbers : List ℕ → List Piece
file_numbers numbers = own NUMBERS.now ++ flat_map number_item numbers ++ own NUMBERS_END.now
