-- Every legal card of a root, side by side.
use Rattle.std.specs.Prelude.{ℕ, ◌==◌, Bool, Option, None, Some, List, [], ◌++◌, flat_map, if◌then◌else◌}
use Rattle.std.specs.Fmt.{decimal}
use Rattle.card_brackets.specs.declared.rows.CardRow.{CardRow}
use Rattle.card_brackets.specs.declared.table.CardTable.{CardTable}
use Rattle.card_brackets.specs.Rows.{is_final}
use Rattle.html_text.specs.declared.page.Piece.{Piece}
use Rattle.html_text.specs.Pages.{own, told}
use Rattle.page_text.specs.declared.markup.TheConstants.{CARDS, CARDS_HEAD, FIGURES_OF, FIRST_CARD, OPEN, ROW, ROWS, ROWS_END, SETTLED, TO_PLAY, WEIGHT}
use Rattle.page_text.specs.declared.verdict.Scale.{Scale}
use Rattle.page_text.specs.Signs.{card_pieces}
use Rattle.page_text.specs.Verdicts.{unit}

-- the end of a card's cell, which says whether it is the one to play
abbrev pub card_end : Bool → List ℕ
card_end is_to_play = if is_to_play then TO_PLAY.now else FIRST_CARD.now

-- the end of a row, which says whether its bounds are equal
abbrev pub row_end : CardRow → List ℕ
row_end row = if is_final row then SETTLED.now else OPEN.now

-- a card, and whether it is the one to play
unfoldable pub card_cell : ℕ → ℕ → List Piece
card_cell to_play card = own ROW.now ++ card_pieces card ++ own (card_end (card == to_play))

-- the upper bound, the lower bound, what sampling believes, and whether the bounds are equal
unfoldable pub bounds : CardRow → List Piece
bounds row =
    told (decimal row.most) ++ (own WEIGHT.now ++ told (decimal row.least) ++ own WEIGHT.now)
    ++ told (decimal row.sampled) ++ own (row_end row)

-- a card with all that
unfoldable pub card_row : ℕ → CardRow → List Piece
card_row to_play row = card_cell to_play row.card ++ bounds row

-- with how many moves the cards are judged, and out of what
unfoldable pub cards_head : Scale → ℕ → List Piece
cards_head scale moves =
    (own CARDS.now ++ told (decimal moves) ++ own FIGURES_OF.now) ++ told (decimal scale.total) ++ own (unit scale) ++ own CARDS_HEAD.now

-- a row for each card, the one to play marked
unfoldable pub card_rows : Scale → ℕ → CardTable → List Piece
card_rows scale to_play table = cards_head scale table.moves ++ own ROWS.now ++ flat_map (card_row to_play) table.rows.items ++ own ROWS_END.now

-- every legal card, if that is known
abbrev pub cards : Scale → ℕ → Option CardTable → List Piece
cards scale to_play (Some table) = card_rows scale to_play table
cards scale to_play None = []
