-- What decides which layouts a line makes, in words.
use Rattle.std.specs.Prelude.{ℕ, ◌==◌, ◌&&◌, Option, None, Some, List, [], ◌++◌, find, nat_le, codes, if◌then◌else◌}
use Rattle.std.specs.Fmt.{decimal}
use Rattle.card_sets.specs.declared.seat.Compass.{Compass}
use Rattle.card_sets.specs.declared.seat.Seat.{Seat}
use Rattle.card_sets.specs.declared.seat.Seat.TheVariants.{Declarer, Left, Dummy, Right}
use Rattle.card_sets.specs.Seats.{next_compass}
use Rattle.layout_facts.specs.declared.fact.Fact.{Fact}
use Rattle.layout_facts.specs.declared.fact.Fact.TheVariants.{Holds, Exactly, AtLeast}
use Rattle.layout_facts.specs.declared.deciding.Joint.{Joint}
use Rattle.layout_facts.specs.declared.deciding.Joint.TheVariants.{And, Or}
use Rattle.layout_facts.specs.declared.deciding.Reason.{Reason}
use Rattle.layout_facts.specs.declared.deciding.Reason.TheVariants.{One, Two}
use Rattle.html_text.specs.declared.page.Piece.{Piece}
use Rattle.html_text.specs.Pages.{own, told}
use Rattle.page_text.specs.declared.markup.TheConstants.{KEPT_DECIDED, DECIDED_END, HAS_EXACTLY, HAS_AT_LEAST}
use Rattle.page_text.specs.declared.lines.Line.{Line}
use Rattle.page_text.specs.Signs.{suit_sign, card_pieces, compass_word}
use Rattle.page_text.specs.Verdicts.{begins_with, best_from}

-- where a seat sits, clockwise from declarer
abbrev pub place_of : Compass → Seat → Compass
place_of declarer Declarer = declarer
place_of declarer Left = next_compass declarer
place_of declarer Dummy = next_compass (next_compass declarer)
place_of declarer Right = next_compass (next_compass (next_compass declarer))

-- how many cards are held exactly
unfoldable pub number_held : ℕ → List Piece
number_held count = if nat_le 1 count then own HAS_EXACTLY.now ++ told (decimal count) ++ own (codes " ") else own (codes " has no ")

-- how many cards are held at least
unfoldable pub least_held : ℕ → List Piece
least_held count = own HAS_AT_LEAST.now ++ told (decimal count) ++ own (codes " ")

-- a fact: who holds a card, or how many cards of a suit
unfoldable pub fact_pieces : Compass → Fact → List Piece
fact_pieces declarer (Holds seat card) = own (compass_word (place_of declarer seat)) ++ own (codes " holds ") ++ card_pieces card
fact_pieces declarer (Exactly seat suit count) = own (compass_word (place_of declarer seat)) ++ number_held count ++ own (suit_sign suit)
fact_pieces declarer (AtLeast seat suit count) = own (compass_word (place_of declarer seat)) ++ least_held count ++ own (suit_sign suit)

abbrev pub joint_word : Joint → List ℕ
joint_word And = codes " and "
joint_word Or = codes " or "

-- a reason: a fact, or two
abbrev pub reason_pieces : Compass → Reason → List Piece
reason_pieces declarer (One fact) = fact_pieces declarer fact
reason_pieces declarer (Two first joint second) = fact_pieces declarer first ++ own (joint_word joint) ++ fact_pieces declarer second

-- in which layouts a line makes, after the start of the sentence, if there is a reason
unfoldable pub decided : List ℕ → Compass → Option Reason → List Piece
decided start declarer None = []
decided start declarer (Some reason) = own start ++ reason_pieces declarer reason ++ own DECIDED_END.now

-- the first line that begins with the card, or has stopped before it, of those with this weight
abbrev pub kept_line : ℕ → ℕ → List Line → Option Line
kept_line card best lines = find (λ line. begins_with card line.begins && (line.weight == best)) lines

abbrev pub decided_by : Compass → Option Line → List Piece
decided_by declarer None = []
decided_by declarer (Some line) = decided KEPT_DECIDED.now declarer line.reason

-- in which layouts the line makes that the card keeps, the first of the best that begin with it
abbrev pub kept_reason : Compass → ℕ → List Line → List Piece
kept_reason declarer card lines = decided_by declarer (kept_line card (best_from card lines) lines)
