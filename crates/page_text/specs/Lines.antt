-- The lines of a report side by side, and in words.
use Rattle.std.specs.Prelude.{ℕ, ◌==◌, Bool, Option, None, Some, List, ◌++◌, flat_map, codes, if◌then◌else◌}
use Rattle.std.specs.List.{range_with_len}
use Rattle.std.specs.Fmt.{decimal}
use Rattle.card_sets.specs.declared.seat.Compass.{Compass}
use Rattle.html_text.specs.declared.page.Piece.{Piece}
use Rattle.html_text.specs.Pages.{own, told}
use Rattle.page_text.specs.declared.markup.TheConstants.{TRADE_OFFS, DECIDED, LINES, COLUMN, LINK, ROW, FIRST_CARD, WEIGHT, ROWS, ROWS_END, LINE, SUMMARY, WORDS, WORDS_END, SECTION_END}
use Rattle.page_text.specs.declared.lines.Line.{Line}
use Rattle.page_text.specs.declared.verdict.Scale.{Scale}
use Rattle.page_text.specs.Shared.{numbered}
use Rattle.page_text.specs.Signs.{card_pieces}
use Rattle.page_text.specs.Verdicts.{share}
use Rattle.page_text.specs.Steps.{steps}
use Rattle.page_text.specs.Reasons.{decided}

-- ---- side by side

-- whether a layout is made, by a sign and, for those who hear the page, a word
abbrev pub cell : Bool → List Piece
cell made = own (if made then codes "<td class='y'>&#10003;<i>made</i></td>" else codes "<td class='x'>&#10007;<i>fails</i></td>")

-- the number of a layout above its column
abbrev pub column : ℕ → List Piece
column = numbered COLUMN.now (codes "</th>")

-- a line by its number, as a link to its words
unfoldable pub link : ℕ → List Piece
link number = own LINK.now ++ told (decimal number) ++ own (codes "'>") ++ told (decimal number) ++ own (codes "</a>")

-- the first card of a line, or a dash if it has none
abbrev pub first_card : Option ℕ → List Piece
first_card None = own (codes "&#8211;")
first_card (Some card) = card_pieces card

unfoldable pub row_start : Line → List Piece
row_start line = own ROW.now ++ link line.number ++ own FIRST_CARD.now ++ first_card line.begins ++ own WEIGHT.now

-- a line: its number, its first card, what it makes, and which layouts
unfoldable pub row : Line → List Piece
row line = row_start line ++ told (decimal line.weight) ++ own (codes "</td>") ++ flat_map cell line.vector ++ own (codes "</tr>\n")

-- the lines, each in a row, with this many columns, one for each layout
unfoldable pub trade_offs : ℕ → List Line → List Piece
trade_offs width lines =
    own TRADE_OFFS.now ++ flat_map column (range_with_len 1 width) ++ own ROWS.now ++ flat_map row lines
    ++ own ROWS_END.now

-- ---- in words

-- the first line is open
abbrev pub opening : ℕ → List ℕ
opening number = if number == 1 then codes "' open='open'>" else codes "'>"

unfoldable pub line_start : ℕ → List Piece
line_start number = own LINE.now ++ told (decimal number) ++ own (opening number) ++ own SUMMARY.now ++ told (decimal number)

-- what decides which layouts a line makes, and its words as nested lists
unfoldable pub line_words : Compass → Line → List Piece
line_words declarer line = own WORDS.now ++ decided DECIDED.now declarer line.reason ++ steps line.number line.reached line.words ++ own WORDS_END.now

-- a line with what it makes, and its words
unfoldable pub line_pieces : Compass → Scale → Line → List Piece
line_pieces declarer scale line = line_start line.number ++ own (codes " makes ") ++ share scale line.weight ++ line_words declarer line

-- the lines, one after another
unfoldable pub lines_pieces : Compass → Scale → List Line → List Piece
lines_pieces declarer scale lines = own LINES.now ++ flat_map (line_pieces declarer scale) lines ++ own SECTION_END.now
