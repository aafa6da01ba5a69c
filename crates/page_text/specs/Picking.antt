-- The picker of a layout, and the rules by which a page shows the layout that is picked.
use Rattle.std.specs.Prelude.{ℕ, ◌+◌, List, ◌++◌, flat_map, codes}
use Rattle.std.specs.List.{range_with_len}
use Rattle.std.specs.Fmt.{decimal}
use Rattle.html_text.specs.declared.page.Piece.{Piece}
use Rattle.html_text.specs.Pages.{own, told}
use Rattle.page_text.specs.declared.markup.TheConstants.{PICKER, CHOICE, CHOICE_END, PICKER_END, PICKED, HANDS, CELLS, HEADS, ITEMS, SHOWN, STEPS, HIDDEN}
use Rattle.page_text.specs.Shared.{numbered}

-- the number of a layout, which can be picked
abbrev pub choice : ℕ → List Piece
choice = numbered CHOICE.now CHOICE_END.now

-- the picker: any layout, or one of this many
unfoldable pub picker : ℕ → List Piece
picker width = own PICKER.now ++ flat_map choice (range_with_len 1 width) ++ own PICKER_END.now

-- a part of the page, by its kind and its place among its like, if the layout of this number is picked; the first choice is any
unfoldable pub part_if : ℕ → List ℕ → ℕ → List Piece
part_if number kind place = own PICKED.now ++ told (decimal (number + 1)) ++ own kind ++ told (decimal place) ++ own (codes ")")

-- the columns of the layout, with their heads; a row has three other cells before them
unfoldable pub columns_if : ℕ → List Piece
columns_if number = part_if number CELLS.now (number + 3) ++ own (codes ",") ++ part_if number HEADS.now (number + 3)

-- if the layout is picked, its hands are shown at the table, behind those of any, and its columns and its item in the list are framed
unfoldable pub shown_if : ℕ → List Piece
shown_if number =
    part_if number HANDS.now (number + 1) ++ own (codes ",") ++ columns_if number ++ own (codes ",") ++ part_if number ITEMS.now number ++ own SHOWN.now

-- and the steps that it can't reach are hidden: those that are marked, but not with this layout
unfoldable pub hidden_if : ℕ → List Piece
hidden_if number = part_if number STEPS.now number ++ own HIDDEN.now

abbrev pub rule : ℕ → List Piece
rule number = shown_if number ++ hidden_if number

-- a rule for each of this many layouts
abbrev pub rules : ℕ → List Piece
rules width = flat_map rule (range_with_len 1 width)
