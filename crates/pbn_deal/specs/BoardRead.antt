-- The board of a game, or its first fault.
use Rattle.std.specs.Prelude.{ℕ, Bool, false, not, ◌&&◌, ◌||◌, ◌==◌, Option, None, Some, is_some, Result, Ok, Err, List, [], length, option_map, unwrap_or, codes, if◌then◌else◌}
use Rattle.std.specs.List.{list_any}
use Rattle.card_sets.specs.declared.seat.Seat.TheVariants.{Left, Dummy, Right}
use Rattle.card_sets.specs.declared.seat.Compass.{Compass}
use Rattle.card_sets.specs.SetWords.{has_card, cards_where}
use Rattle.pbn_text.specs.Games.{TagValue, GameValue}
use Rattle.pbn_deal.specs.declared.board.Played.{Played}
use Rattle.pbn_deal.specs.declared.deal.DealValue.{DealValue}
use Rattle.pbn_deal.specs.declared.fault.BoardFault.TheVariants.{Inherited, HandHidden, PlayLeader}
use Rattle.pbn_deal.specs.declared.fault.BoardRefusal.{BoardRefusal}
use Rattle.pbn_deal.specs.declared.fault.BoardRefusal.TheVariants.{Fault}
use Rattle.pbn_deal.specs.declared.section.Entry.{Entry}
use Rattle.pbn_deal.specs.declared.tags.Contract.{Contract}
use Rattle.pbn_deal.specs.Deal.{hand_at}
use Rattle.pbn_deal.specs.Boards.{BoardValue, same_place, compass_of, dealt_board, first_course, tricks_of}
use Rattle.byte_text.specs.Steps.{◌>>=◌}
use Rattle.pbn_deal.specs.Tags.{tag_named, inherited_line, deal_in, contract_in, declarer_in, seat_named, ending_read}
use Rattle.pbn_deal.specs.Sections.{section_read}
use Rattle.pbn_deal.specs.Rows.{rows_of, rows_played}

-- ---- the board before the first card

-- the line of the first tag of a name
abbrev pub line_named : List ℕ → GameValue → ℕ
line_named name game = unwrap_or (option_map (λ tag. tag.line) (tag_named name game)) 0

-- the cards of two hands together
abbrev pub together : List ℕ → List ℕ → List ℕ
together left right = cards_where (λ card. has_card left card || has_card right card)

-- the cards of two hands together, where both are shown
abbrev pub both_hands : Option (List ℕ) → Option (List ℕ) → Option (List ℕ)
both_hands None right = None
both_hands (Some left) None = None
both_hands (Some left) (Some right) = Some (together left right)

-- the cards that the two defenders hold together: what is left of the pack if no card is missing, and otherwise their hands if both are shown
abbrev pub unseen_in : DealValue → Compass → List ℕ → List ℕ → Option (List ℕ)
unseen_in deal declarer own dummy =
    if length own == 13 then Some (cards_where (λ card. not (has_card own card) && not (has_card dummy card)))
    else both_hands (hand_at deal (compass_of declarer Left)) (hand_at deal (compass_of declarer Right))

-- the board before the first card, if the hands of declarer's side are shown
abbrev pub dealt_of : GameValue → DealValue → Contract → Compass → Option (List ℕ) → Option (List ℕ) → Result BoardValue BoardRefusal
dealt_of game deal contract declarer (Some own) (Some dummy) = do
  ending ← ending_read (line_named (codes "Deal") game) declarer contract (length own) (tag_named (codes "EndNeed") game) (tag_named (codes "EndLead") game)
  Ok (dealt_board declarer contract.trump ending.need ending.leader own dummy (unseen_in deal declarer own dummy))
dealt_of game deal contract declarer (Some own) None = Err (Fault (line_named (codes "Deal") game) HandHidden)
dealt_of game deal contract declarer None dummy = Err (Fault (line_named (codes "Deal") game) HandHidden)

-- the board before the first card, where declarer is known
unfoldable pub dealt_in : GameValue → DealValue → Contract → Compass → Result BoardValue BoardRefusal
dealt_in game deal contract declarer = dealt_of game deal contract declarer (hand_at deal declarer) (hand_at deal (compass_of declarer Dummy))

-- ---- the play

-- a value names this place
abbrev pub is_place : Compass → Option Compass → Bool
is_place place None = false
is_place place (Some other) = same_place other place

-- a section with a card whose tag doesn't name the seat that leads first
abbrev pub is_led_wrongly : BoardValue → TagValue → List Entry → Bool
is_led_wrongly board tag entries = list_any (λ e. is_some e.card) entries && not (is_place (compass_of board.declarer board.leader) (seat_named tag.value))

-- the play of a board by the rows of these entries
abbrev pub section_played : BoardValue → List Entry → Result (List Played) BoardRefusal
section_played board entries = rows_played board.trump board.leader (tricks_of board) (first_course board) (rows_of entries)

-- the play of a board by these entries, if the tag names the seat that leads first
abbrev pub entries_played : BoardValue → TagValue → List Entry → Result (List Played) BoardRefusal
entries_played board tag entries = if is_led_wrongly board tag entries then Err (Fault tag.line PlayLeader) else section_played board entries

-- the play that the Play tag tells; none if there is no such tag
abbrev pub play_of : BoardValue → Option TagValue → Result (List Played) BoardRefusal
play_of board None = Ok []
play_of board (Some tag) = section_read tag.tokens >>= entries_played board tag

-- the play that the Play section tells
unfoldable pub plays_in : GameValue → BoardValue → Result (List Played) BoardRefusal
plays_in game board = play_of board (tag_named (codes "Play") game)

-- ---- the whole

-- the fault of an inherited value if there is one, and otherwise what was read
abbrev pub unless_inherited : Option ℕ → Result BoardValue BoardRefusal → Result BoardValue BoardRefusal
unless_inherited None board = board
unless_inherited (Some line) board = Err (Fault line Inherited)

-- the board that the tags and the play tell
abbrev pub board_told : GameValue → Result BoardValue BoardRefusal
board_told game = do
  deal ← deal_in game
  contract ← contract_in game
  declarer ← declarer_in game
  board ← dealt_in game deal contract declarer
  plays ← plays_in game board
  Ok (record board { plays = plays })

-- the board of a game, or the first fault with its line
unfoldable pub board_read : GameValue → Result BoardValue BoardRefusal
board_read game = unless_inherited (inherited_line game) (board_told game)
