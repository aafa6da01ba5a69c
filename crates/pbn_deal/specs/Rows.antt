-- The rows of a Play section as the play of a board.
use Rattle.std.specs.Prelude.{ℕ, ◌-◌, not, ◌==◌, Option, None, Some, is_some, Result, Ok, Err, List, [], ◌∷◌, ◌++◌, take, drop, find, option_map, if◌then◌else◌}
use Rattle.std.specs.Option.{option_or}
use Rattle.card_sets.specs.declared.seat.Seat.{Seat}
use Rattle.card_sets.specs.declared.seat.Seat.TheVariants.{Declarer, Left, Dummy, Right}
use Rattle.card_sets.specs.SetWords.{has_card}
use Rattle.trick_rules.specs.declared.trump.Trump.{Trump}
use Rattle.trick_rules.specs.Positions.{places_on}
use Rattle.trick_rules.specs.Play.{legal_cards}
use Rattle.pbn_deal.specs.declared.board.Played.{Played}
use Rattle.pbn_deal.specs.declared.course.Course.{Course}
use Rattle.pbn_deal.specs.declared.fault.BoardFault.{BoardFault}
use Rattle.pbn_deal.specs.declared.fault.BoardFault.TheVariants.{PlayNotHeld, PlayRevoke, PlayGap}
use Rattle.pbn_deal.specs.declared.fault.BoardRefusal.{BoardRefusal}
use Rattle.pbn_deal.specs.declared.fault.BoardRefusal.TheVariants.{Fault}
use Rattle.pbn_deal.specs.declared.section.Entry.{Entry}
use Rattle.pbn_deal.specs.Boards.{turn_in, next_course, course_after}
use Rattle.pbn_deal.specs.Sections.{prepend}
use Rattle.byte_text.specs.Steps.{◌>>=◌}

-- ---- rows

-- an entry for which there is no token: no card yet, at the line of the row's first token
abbrev pub no_card_at : Entry → Entry
no_card_at first = record { card = None; line = first.line }

-- the entries by fours, the last row filled up
abbrev pub rows_of : List Entry → List (List Entry)
rows_of [] = []
rows_of (a ∷ []) = (a ∷ no_card_at a ∷ no_card_at a ∷ no_card_at a ∷ []) ∷ []
rows_of (a ∷ b ∷ []) = (a ∷ b ∷ no_card_at a ∷ no_card_at a ∷ []) ∷ []
rows_of (a ∷ b ∷ c ∷ []) = (a ∷ b ∷ c ∷ no_card_at a ∷ []) ∷ []
rows_of (a ∷ b ∷ c ∷ d ∷ rest) = (a ∷ b ∷ c ∷ d ∷ []) ∷ rows_of rest

-- the first entry of the rows
abbrev pub first_entry : List (List Entry) → Option Entry
first_entry [] = None
first_entry ([] ∷ rows) = None
first_entry ((entry ∷ row) ∷ rows) = Some entry

-- a row from the trick's leader on: its first column is that of the seat that leads first
abbrev pub in_turn : Seat → Seat → List Entry → List Entry
in_turn first leader row = drop (places_on first leader) row ++ take (places_on first leader) row

-- ---- gaps

-- the line of what stands after the row's first entry with no card: a later card of the row, or else the next entry
abbrev pub gap_line : List Entry → Option Entry → Option ℕ
gap_line [] next = None
gap_line (entry ∷ rest) next =
    if is_some entry.card then gap_line rest next else option_map (λ e. e.line) (option_or (find (λ e. is_some e.card) rest) next)

-- ---- cards

-- a card of declarer's side must be in its hand, and follow suit if the hand can
abbrev pub hand_fault : List ℕ → List ℕ → ℕ → Option BoardFault
hand_fault trick hand card =
    if not (has_card hand card) then Some PlayNotHeld else if not (has_card (legal_cards trick hand) card) then Some PlayRevoke else None

-- a defender may hold any card until the last trick is over
abbrev pub defender_fault : ℕ → Option BoardFault
defender_fault tricks = if tricks == 0 then Some PlayNotHeld else None

-- what is wrong with a card of a seat, with this many tricks left
abbrev pub card_fault : ℕ → Course → Seat → ℕ → Option BoardFault
card_fault tricks course Declarer card = hand_fault course.trick.cards course.declarer card
card_fault tricks course Left card = defender_fault tricks
card_fault tricks course Dummy card = hand_fault course.trick.cards course.dummy card
card_fault tricks course Right card = defender_fault tricks

-- no more plays if there is no card yet, and otherwise what is read with it
abbrev pub if_card : Option ℕ → (ℕ → Result (List Played) BoardRefusal) → Result (List Played) BoardRefusal
if_card None read = Ok []
if_card (Some card) read = read card

-- a fault at this line if there is one, and otherwise the plays
abbrev pub unless_board_fault : Option BoardFault → ℕ → Result (List Played) BoardRefusal → Result (List Played) BoardRefusal
unless_board_fault None line plays = plays
unless_board_fault (Some fault) line plays = Err (Fault line fault)

-- the cards of a row from the leader on, up to the first entry with none, or the first fault
abbrev pub row_played : Trump → ℕ → Course → List Entry → Result (List Played) BoardRefusal
row_played trump tricks course [] = Ok []
row_played trump tricks course (entry ∷ rest) =
    if_card entry.card
    (λ card. unless_board_fault (card_fault tricks course (turn_in course.trick) card) entry.line
    (prepend (record { seat = turn_in course.trick; card = card } ∷ []) (row_played trump tricks (next_course trump course card) rest)))

-- a gap at this line if there is one, and otherwise the plays
abbrev pub unless_gap : Option ℕ → Result (List Played) BoardRefusal → Result (List Played) BoardRefusal
unless_gap None plays = plays
unless_gap (Some line) plays = Err (Fault line PlayGap)

-- the play that the rows tell, or the first fault: at each row first a gap, and then its cards
abbrev pub rows_played : Trump → Seat → ℕ → Course → List (List Entry) → Result (List Played) BoardRefusal
rows_played trump first tricks course [] = Ok []
rows_played trump first tricks course (row ∷ rows) =
    unless_gap (gap_line (in_turn first course.trick.leader row) (first_entry rows))
    (row_played trump tricks course (in_turn first course.trick.leader row) >>= (λ plays. prepend plays (rows_played trump first (tricks - 1) (course_after trump course plays) rows)))
