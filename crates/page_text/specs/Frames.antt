-- What stands round the parts of a page: its head, facts of the deal file, and the report.
use Rattle.std.specs.Prelude.{ℕ, Option, None, Some, List, [], ◌++◌, codes}
use Rattle.std.specs.Option.{option_copied}
use Rattle.card_sets.specs.declared.seat.Compass.{Compass}
use Rattle.card_letters.specs.Letters.{letters_of}
use Rattle.html_text.specs.declared.page.Piece.{Piece}
use Rattle.html_text.specs.Pages.{own, told}
use Rattle.page_text.specs.declared.markup.TheConstants.{HEAD, STYLE, TITLE_END, HEAD_END, FACTS, EVENT, BOARD, CONTRACT, FACTS_END, REPORT, REPORT_END}
use Rattle.page_text.specs.declared.frame.Tags.{Tags}
use Rattle.page_text.specs.Signs.{compass_word}
use Rattle.page_text.specs.Picking.{rules}

-- the head, with the card to play as its title, and the style for a page of this many layouts
unfoldable pub start : ℕ → ℕ → List Piece
start card width = own HEAD.now ++ told (letters_of card) ++ own TITLE_END.now ++ own STYLE.now ++ rules width ++ own HEAD_END.now

-- what a tag of the deal file says, if it is there
unfoldable pub fact : List ℕ → Option (List ℕ) → List Piece
fact front None = []
fact front (Some value) = own front ++ told value ++ own (codes "</li>\n")

-- the event, the board and the contract of the deal file, if it has them
pub record TagValues : Type 0 where
  pub event : Option (List ℕ)
  pub board : Option (List ℕ)
  pub contract : Option (List ℕ)

-- the values of these tags
abbrev pub told_by : Tags → TagValues
told_by tags = record { event = option_copied tags.event; board = option_copied tags.board; contract = option_copied tags.contract }

-- the items of these
unfoldable pub tags : TagValues → List Piece
tags values = own FACTS.now ++ fact EVENT.now values.event ++ fact BOARD.now values.board ++ fact CONTRACT.now values.contract

-- these, and whose turn it is
unfoldable pub facts : TagValues → Compass → List Piece
facts values turn = tags values ++ own (codes "<li>") ++ own (compass_word turn) ++ own FACTS_END.now

-- the report itself, byte for byte
unfoldable pub report : List ℕ → List Piece
report bytes = own REPORT.now ++ told bytes ++ own REPORT_END.now
