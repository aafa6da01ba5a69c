-- A strategy played out in a layout, as a game in PBN.
use Rattle.std.specs.Prelude.{ℕ, ◌&&◌, ◌==◌, Option, None, Some, List, [], ◌∷◌, ◌++◌, codes, if◌then◌else◌}
use Rattle.std.specs.List.{list_any}
use Rattle.std.specs.Fmt.{decimal}
use Rattle.byte_text.specs.Lines.{line_of}
use Rattle.card_letters.specs.Letters.{compass_letter}
use Rattle.card_sets.specs.declared.seat.Seat.{Seat}
use Rattle.card_sets.specs.SetWords.{cards_where}
use Rattle.trick_rules.specs.Positions.{seat_place}
use Rattle.pbn_text.specs.Games.{TagValue, GameValue}
use Rattle.pbn_plain.specs.PlainText.{tag_text}
use Rattle.pbn_deal.specs.declared.board.Played.{Played}
use Rattle.pbn_deal.specs.Boards.{BoardValue, compass_of, tricks_of}
use Rattle.pbn_deal.specs.BoardRead.{together}
use Rattle.pbn_deal.specs.Tags.{tag_named}
use Rattle.pbn_deal.specs.Writing.{hands_text}
use Rattle.pbn_games.specs.declared.game.Shown.{Shown}
use Rattle.pbn_games.specs.PlayRows.{rows_text, tricks_won}

-- ---- tag pairs

-- a tag pair on a line of its own
abbrev pub tag_line : List ℕ → List ℕ → List ℕ
tag_line name value = line_of (tag_text (record { name = name; value = value; before_name = []; before_value = codes " "; before_end = [] }))

-- a tag pair as the deal file has it
abbrev pub copied_line : List ℕ → Option TagValue → List ℕ
copied_line name None = []
copied_line name (Some tag) = tag_line name tag.value

-- ---- the hands

-- the cards that a seat has played
abbrev pub played_by : List Played → Seat → List ℕ
played_by plays seat = cards_where (λ card. list_any (λ play. (seat_place play.seat == seat_place seat) && (card == play.card)) plays)

-- a hand, and the cards that its seat has played before
abbrev pub dealt_hand : List Played → Seat → List ℕ → List ℕ
dealt_hand plays seat hand = together hand (played_by plays seat)

-- the hands of declarer, Left, dummy and Right before the first card, clockwise from declarer
abbrev pub deal_value : BoardValue → Shown → List ℕ
deal_value board shown =
    compass_letter board.declarer ∷ 58 ∷ hands_text (Some board.declarer_hand ∷ Some shown.left ∷ Some board.dummy_hand ∷ Some shown.right ∷ [])

-- ---- the whole

-- which strategy is shown in which layout, and whether it is made
abbrev pub event_value : Shown → List ℕ
event_value shown =
    codes "Line " ++ decimal shown.line ++ codes " of " ++ decimal shown.lines ++ codes ", layout " ++ decimal shown.layout
    ++ (if shown.made then codes ": made" else codes ": down")

-- the tricks of declarer's side, if no card is missing from the deal
abbrev pub result_line : BoardValue → List ℕ → List ℕ
result_line board cards = if tricks_of board == 13 then tag_line (codes "Result") (decimal (tricks_won board.trump board.leader cards)) else []

-- the tags before the deal
unfoldable pub front_text : GameValue → Shown → List ℕ
front_text game shown =
    tag_line (codes "Event") (event_value shown) ++ tag_line (codes "Board") (decimal shown.board)
    ++ copied_line (codes "Dealer") (tag_named (codes "Dealer") game) ++ copied_line (codes "Vulnerable") (tag_named (codes "Vulnerable") game)

-- the deal, the contract, and what it comes to
unfoldable pub deal_text : GameValue → BoardValue → Shown → List ℕ → List ℕ
deal_text game board shown cards =
    tag_line (codes "Deal") (deal_value board shown) ++ tag_line (codes "Declarer") (compass_letter board.declarer ∷ [])
    ++ copied_line (codes "Contract") (tag_named (codes "Contract") game) ++ result_line board cards

-- the need, the first leader, and the play
unfoldable pub play_text : BoardValue → List ℕ → List ℕ
play_text board cards =
    let first = compass_letter (compass_of board.declarer board.leader) ∷ [] in
    tag_line (codes "EndNeed") (decimal board.need) ++ tag_line (codes "EndLead") first ++ tag_line (codes "Play") first
    ++ rows_text board.trump board.leader board.leader cards ++ line_of (codes "*")

-- a game, and a blank line after it
abbrev pub game_text : GameValue → BoardValue → Shown → List ℕ → List ℕ
game_text game board shown cards = front_text game shown ++ deal_text game board shown cards ++ play_text board cards ++ line_of []
