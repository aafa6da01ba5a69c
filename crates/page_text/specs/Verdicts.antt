-- What a report comes to.
use Rattle.std.specs.Prelude.{ℕ, ◌+◌, ◌==◌, ◌||◌, Bool, true, false, Option, None, Some, List, [], ◌∷◌, ◌++◌, max, map, length, nat_le, codes, if◌then◌else◌}
use Rattle.std.specs.Fmt.{decimal}
use Rattle.card_sets.specs.declared.seat.Seat.{Seat}
use Rattle.card_sets.specs.declared.seat.Seat.TheVariants.{Declarer, Left, Dummy, Right}
use Rattle.trick_rules.specs.Positions.{PositionValue, to_play}
use Rattle.html_text.specs.declared.page.Piece.{Piece}
use Rattle.html_text.specs.Pages.{own, told}
use Rattle.page_text.specs.declared.markup.TheConstants.{HEADLINE, MOST_END, AT_LEAST, ALL_PLANNED, PLANNED, PLANNED_END, SURE_END}
use Rattle.page_text.specs.declared.lines.Line.{Line}
use Rattle.page_text.specs.declared.verdict.Rivals.{Rivals}
use Rattle.page_text.specs.declared.verdict.Rivals.TheVariants.{Reported, Planned, All}
use Rattle.page_text.specs.declared.verdict.Scale.{Scale}
use Rattle.page_text.specs.declared.verdict.Surety.{Surety}
use Rattle.page_text.specs.Signs.{card_pieces}

-- the hand that a seat of declarer's side plays from
abbrev pub from_hand : Seat → List ℕ
from_hand Declarer = codes " from hand"
from_hand Left = []
from_hand Dummy = codes " from dummy"
from_hand Right = []

-- the card to play, and from which hand
unfoldable pub headline : PositionValue → ℕ → List Piece
headline position card = own HEADLINE.now ++ card_pieces card ++ own (from_hand (to_play position)) ++ own (codes "</h1>\n")

-- layouts are counted, or weighed
abbrev pub unit : Scale → List ℕ
unit scale = if scale.by_weight then codes " by weight" else codes " layouts"

-- how many layouts of all, or what weight
unfoldable pub share : Scale → ℕ → List Piece
share scale weight = told (decimal weight) ++ own (codes " of ") ++ told (decimal scale.total) ++ own (unit scale)

-- a line that begins with the card, or that has stopped before it
abbrev pub begins_with : ℕ → Option ℕ → Bool
begins_with card None = true
begins_with card (Some first) = first == card

-- the weight of a line, if it begins with the card
abbrev pub weight_from : ℕ → Line → ℕ
weight_from card line = if begins_with card line.begins then line.weight else 0

-- the greatest of some numbers; 0 if there is none
abbrev pub greatest : List ℕ → ℕ
greatest [] = 0
greatest (n ∷ numbers) = max n (greatest numbers)

-- the greatest weight of the lines that begin with the card
abbrev pub best_from : ℕ → List Line → ℕ
best_from card lines = greatest (map (weight_from card) lines)

-- the greatest weight of all lines
abbrev pub best_of : List Line → ℕ
best_of lines = greatest (map (λ line. line.weight) lines)

-- whether another line of the report makes more, and if not, which lines make no more
abbrev pub others : Rivals → Bool → List ℕ
others rivals false = codes "Another line of this report makes more."
others Reported true = codes "No line of this report makes more."
others Planned true = codes "No line that plans as many cards makes more."
others All true = codes "No line makes more."

-- as much is the least that the card is known to win
abbrev pub is_least : Option ℕ → ℕ → Bool
is_least None kept = false
is_least (Some least) kept = least == kept

-- the card wins as much whatever the defenders do: all cards are planned, or it is the least that it is known to win
abbrev pub is_sure : Surety → ℕ → Bool
is_sure surety kept = surety.all || is_least surety.least kept

-- what the card keeps: as much, or at most as much
abbrev pub makes : Bool → List ℕ
makes true = codes "<p class='promise'>It keeps a line that makes <strong>"
makes false = codes "<p class='promise'>It keeps a line that makes at most <strong>"

-- how many cards are planned
unfoldable pub cards_planned : ℕ → List Piece
cards_planned moves = own MOST_END.now ++ told (decimal moves) ++ own (codes "). ")

-- whatever the defenders do, or how many cards are planned
abbrev pub how_sure : Bool → ℕ → List Piece
how_sure true moves = own (codes "</strong>, whatever the defenders do. ")
how_sure false moves = cards_planned moves

-- the least that a card is known to win
unfoldable pub known_least : ℕ → List Piece
known_least least = own AT_LEAST.now ++ told (decimal least) ++ own (codes ".")

-- the same, if it is known and the card may win less than it keeps
abbrev pub at_least : Bool → Option ℕ → List Piece
at_least true least = []
at_least false None = []
at_least false (Some least) = known_least least

-- what the card keeps, how sure that is, and which lines make no more
unfoldable pub promise : Scale → Surety → Rivals → ℕ → List Line → List Piece
promise scale surety rivals card lines =
    let kept = best_from card lines in
    own (makes (is_sure surety kept)) ++ share scale kept ++ how_sure (is_sure surety kept) surety.moves
    ++ own (others rivals (kept == best_of lines)) ++ at_least (is_sure surety kept) surety.least ++ own (codes "</p>\n")

-- lines with this many moves plan every card that declarer's side has left
abbrev pub plans_all : PositionValue → ℕ → Bool
plans_all position moves = nat_le (length position.declarer + length position.dummy) moves

-- how far the lines are planned, and whether planning more cards may change what the card keeps
unfoldable pub horizon : Surety → ℕ → List Piece
horizon surety kept =
    if surety.all
    then own ALL_PLANNED.now
    else own PLANNED.now ++ told (decimal surety.moves) ++ own (if is_sure surety kept then SURE_END.now else PLANNED_END.now)
