-- The head of a report, line by line.
use Rattle.std.proofs.Common.{◌≡◌, ℕ, ◌+◌, ◌≤◌, Bool, true, false, not, is_some, ◌&&◌, ◌==◌, Option, Some, None, List, [], ◌∷◌, ◌++◌, length, map, find, flat_map, codes, refl, sym, ap, subst, ◌∙◌, arith, append_assoc, append-nil, length-append}
use Rattle.std.specs.Option.{option_map}
use Rattle.std.specs.List.{slice_split, filter_map, range_with_len}
use Rattle.std.specs.Fmt.{decimal}
use Rattle.std.proofs.lemmas.Bool.{ne_eqb, false≢true, and_parts, not-true}
use Rattle.std.proofs.lemmas.Bool.Decides.{Decides-eqb}
use Rattle.std.proofs.lemmas.List.{drop_at}
use Rattle.std.proofs.lemmas.List.Splits.{slice_split_at}
use Rattle.std.proofs.lemmas.Grind.{flat_map-append}
use Rattle.card_sets.specs.declared.seat.Seat.{Seat}
use Rattle.card_sets.specs.declared.seat.Seat.TheVariants.{Declarer, Dummy}
use Rattle.card_letters.specs.Letters.{letters_of}
use Rattle.trick_rules.specs.declared.trump.Trump.{Trump}
use Rattle.trick_rules.specs.declared.trump.Trump.TheVariants.{NoTrump, Suit as Suited}
use Rattle.trick_rules.specs.Positions.{TrickValue, PositionValue, to_play}
use Rattle.pbn_deal.specs.Boards.{BoardValue, compass_of}
use Rattle.pbn_deal.specs.Writing.{hand_text}
use Rattle.layout_list.specs.declared.kept.Cause.{Cause}
use Rattle.layout_list.specs.declared.kept.Cause.TheVariants.{NotHeld, Revoke}
use Rattle.layout_list.specs.declared.kept.Dropped.{Dropped}
use Rattle.layout_list.specs.Kept.{KeptValue}
use Rattle.byte_text.specs.Lines.{line_of, text_after, is_line_end}
use Rattle.am_report.specs.declared.version.Version.{Version}
use Rattle.am_report.specs.declared.version.Version.TheVariants.{Counts, Weights}
use Rattle.am_report.specs.Versions.{version_of, version_number, weights_line}
use Rattle.am_report.specs.Lines.{spaced}
use Rattle.am_report.specs.Head.{seat_text, trump_text, hand_line, cards_text, trick_line, cause_text, dropped_line, position_text, kept_line, head_text}
use Rattle.am_report.specs.ReportLines.{moves_said}
use Rattle.am_report.specs.Reading.{only, is_front, front_place, moves_of_head}
use Rattle.byte_text.proofs.ReadNumbers.{number_within-decimal}
use Rattle.byte_text.proofs.PlainLines.{is_plain, plain_byte, plain_all, plain_both, decimal_plain}
use Rattle.am_report.proofs.Versions.{number_plain}
use Rattle.am_report.proofs.PlainTexts.{suit_letter_plain, compass_letter_plain, card_text_plain, hand_text_plain, spaced_plain}
use Rattle.trick_rules.specs.Nodes.{most_moves}

-- ---- lines

-- a text of these lines
abbrev pub text_of : List (List ℕ) → List ℕ
text_of lines = flat_map line_of lines

-- the first byte is neither `f` nor `m`
abbrev begins_other : List ℕ → Bool
begins_other [] = false
begins_other (byte ∷ rest) = not (byte == 102) && not (byte == 109)

-- a line of the head that is neither the front's nor the moves'
record IsQuiet (line : List ℕ) : Type 0 where
  plain : is_plain line ≡ true
  other : begins_other line ≡ true

abbrev AreQuiet : List (List ℕ) → Type 0
AreQuiet [] = Unit {0}
AreQuiet (line ∷ lines) = IsQuiet line × AreQuiet lines

-- a line of the head
record IsHeadLine (line : List ℕ) : Type 0 where
  plain : is_plain line ≡ true
  no_front : (rest : List ℕ) → text_after (codes "front ") (line ++ rest) ≡ None

abbrev AreHeadLines : List (List ℕ) → Type 0
AreHeadLines [] = Unit {0}
AreHeadLines (line ∷ lines) = IsHeadLine line × AreHeadLines lines

swapped : (a b : ℕ) → (a == b) ≡ false → (b == a) ≡ false
swapped a b other = ne_eqb b a (λ same. false≢true (sym other ∙ (Decides-eqb a b).1 (sym same)))

quiet_no_front : (line : List ℕ) → begins_other line ≡ true → (rest : List ℕ) → text_after (codes "front ") (line ++ rest) ≡ None
quiet_no_front [] other rest = absurd (false≢true other)
quiet_no_front (byte ∷ line) other rest =
    let apart = swapped byte 102 (not-true (byte == 102) (and_parts (not (byte == 102)) (not (byte == 109)) other).0) in rw apart refl

quiet_no_moves : (line : List ℕ) → begins_other line ≡ true → moves_said line ≡ None
unfolding moves_said
quiet_no_moves [] other = absurd (false≢true other)
quiet_no_moves (byte ∷ line) other =
    let apart = swapped byte 109 (not-true (byte == 109) (and_parts (not (byte == 102)) (not (byte == 109)) other).1) in rw apart refl

head_line : (line : List ℕ) → IsQuiet line → IsHeadLine line
head_line line quiet = record { plain = quiet.plain; no_front = quiet_no_front line quiet.other }

head_lines : (lines : List (List ℕ)) → AreQuiet lines → AreHeadLines lines
head_lines [] quiet = tt
head_lines (line ∷ lines) quiet = (head_line line quiet.0, head_lines lines quiet.1)

moves_head_line : (moves : ℕ) → IsHeadLine (codes "moves " ++ decimal moves)
moves_head_line moves = record { plain = plain_both (codes "moves ") (decimal moves) refl (decimal_plain moves); no_front = λ rest. refl }

head_lines-append : (above below : List (List ℕ)) → AreHeadLines above → AreHeadLines below → AreHeadLines (above ++ below)
head_lines-append [] below first second = second
head_lines-append (line ∷ above) below first second = (first.0, head_lines-append above below first.1 second)

-- a line, and what follows it
line_ahead : (line rest : List ℕ) → line_of line ++ rest ≡ line ++ 10 ∷ rest
line_ahead line rest = append_assoc line (10 ∷ []) rest

lines_ahead : (line : List ℕ) (lines : List (List ℕ)) (rest : List ℕ) → text_of (line ∷ lines) ++ rest ≡ line ++ 10 ∷ (text_of lines ++ rest)
lines_ahead line lines rest = append_assoc (line_of line) (text_of lines) rest ∙ line_ahead line (text_of lines ++ rest)

-- ---- the number of moves

-- the numbers of moves that the lines give
abbrev moves_given : List ℕ → List ℕ
moves_given text = filter_map moves_said (slice_split is_line_end text)

moves_given-line : (line rest : List ℕ) → is_plain line ≡ true → moves_given (line ++ 10 ∷ rest) ≡ filter_map moves_said (line ∷ slice_split is_line_end rest)
moves_given-line line rest plain = ap (filter_map moves_said) (slice_split_at is_line_end line 10 rest (plain_all line plain) refl)

moves_given-quiet : (line rest : List ℕ) → IsQuiet line → moves_given (line ++ 10 ∷ rest) ≡ moves_given rest
moves_given-quiet line rest quiet = let none = quiet_no_moves line quiet.other in moves_given-line line rest quiet.plain ∙ rw none refl

moves_given-lines : (lines : List (List ℕ)) (rest : List ℕ) → AreQuiet lines → moves_given (text_of lines ++ rest) ≡ moves_given rest
moves_given-lines [] rest quiet = refl
moves_given-lines (line ∷ lines) rest quiet =
    ap moves_given (lines_ahead line lines rest) ∙ moves_given-quiet line (text_of lines ++ rest) quiet.0 ∙ moves_given-lines lines rest quiet.1

moves_given-none : moves_given [] ≡ []
unfolding moves_said
moves_given-none = refl

moves_are_said : (moves : ℕ) → 1 ≤ moves → moves ≤ most_moves → moves_said (codes "moves " ++ decimal moves) ≡ Some moves
unfolding moves_said
moves_are_said moves low high = number_within-decimal 1 most_moves moves low high (omega arith)

moves_given-moves : (moves : ℕ) (rest : List ℕ) → 1 ≤ moves → moves ≤ most_moves → moves_given (line_of (codes "moves " ++ decimal moves) ++ rest) ≡ moves ∷ moves_given rest
moves_given-moves moves rest low high =
    let line = codes "moves " ++ decimal moves in
    let said = moves_are_said moves low high in
    ap moves_given (line_ahead line rest) ∙ moves_given-line line rest (moves_head_line moves).plain ∙ rw said refl

-- exactly one line gives the moves
moves_of_head-lines : (above below : List (List ℕ)) (moves : ℕ) → AreQuiet above → AreQuiet below → 1 ≤ moves → moves ≤ most_moves
    → moves_of_head (text_of above ++ (line_of (codes "moves " ++ decimal moves) ++ text_of below)) ≡ Some moves
unfolding moves_of_head
moves_of_head-lines above below moves quiet_above quiet_below low high =
    let line = line_of (codes "moves " ++ decimal moves) in
    let end : moves_given (text_of below) ≡ [] = ap moves_given (sym (append-nil (text_of below))) ∙ moves_given-lines below [] quiet_below ∙ moves_given-none in
    ap only (moves_given-lines above (line ++ text_of below) quiet_above ∙ moves_given-moves moves (text_of below) low high ∙ ap (λ more. moves ∷ more) end)

-- ---- where the front begins

-- the first line end before the front, in what lies behind these bytes
abbrev front_from : List ℕ → List ℕ → Option ℕ
front_from before rest = find (is_front (before ++ rest)) (range_with_len (length before) (length rest))

is_front-here : (before rest : List ℕ) → is_front (before ++ rest) (length before) ≡ is_some (text_after (10 ∷ codes "front ") rest)
is_front-here before rest = rw (drop_at before rest (length before) refl) refl

front_from-on : (before : List ℕ) (byte : ℕ) (rest : List ℕ) → is_some (text_after (10 ∷ codes "front ") (byte ∷ rest)) ≡ false → front_from before (byte ∷ rest) ≡ front_from (before ++ byte ∷ []) rest
front_from-on before byte rest other =
    let here : is_front (before ++ byte ∷ rest) (length before) ≡ false = is_front-here before (byte ∷ rest) ∙ other in
    let whole : (before ++ byte ∷ []) ++ rest ≡ before ++ byte ∷ rest = append_assoc before (byte ∷ []) rest in
    let len : length (before ++ byte ∷ []) ≡ length before + 1 = length-append before (byte ∷ []) in
    rw (here, whole, len) refl

front_from-at : (before text : List ℕ) → front_from before (10 ∷ (codes "front " ++ text)) ≡ Some (length before)
front_from-at before text =
    let here : is_front (before ++ (10 ∷ (codes "front " ++ text))) (length before) ≡ true = is_front-here before (10 ∷ (codes "front " ++ text)) in
    rw here refl

front_from-plain : (line before rest : List ℕ) → is_plain line ≡ true → front_from before (line ++ rest) ≡ front_from (before ++ line) rest
front_from-plain [] before rest plain = ap (λ text. front_from text rest) (sym (append-nil before))
front_from-plain (byte ∷ line) before rest plain =
    let parts = and_parts (not (is_line_end byte)) (is_plain line) plain in
    let apart = swapped byte 10 (plain_byte byte parts.0) in
    front_from-on before byte (line ++ rest) (rw apart refl)
    ∙ front_from-plain line (before ++ byte ∷ []) rest parts.1
    ∙ ap (λ text. front_from text rest) (append_assoc before (byte ∷ []) line)

-- the lines of the head are passed over
front_from-lines : (lines : List (List ℕ)) (before text : List ℕ) → AreHeadLines lines → front_from before (10 ∷ (text_of lines ++ (codes "front " ++ text))) ≡ Some (length before + length (text_of lines))
front_from-lines [] before text quiet =
    let same : length before + 0 ≡ length before = omega arith in front_from-at before text ∙ ap (λ n. Some n) (sym same)
front_from-lines (line ∷ lines) before text quiet =
    let front = codes "front " ++ text in
    let ahead = lines_ahead line lines front in
    let other : is_some (text_after (codes "front ") (line ++ 10 ∷ (text_of lines ++ front))) ≡ false = ap is_some (quiet.0.no_front (10 ∷ (text_of lines ++ front))) in
    let sizes : length ((before ++ 10 ∷ []) ++ line) + length (text_of lines) ≡ length before + length (text_of (line ∷ lines)) =
    omega (arith, length-append (before ++ 10 ∷ []) line, length-append before (10 ∷ []), length-append (line_of line) (text_of lines), length-append line (10 ∷ [])) in
    ap (λ rest. front_from before (10 ∷ rest)) ahead
    ∙ front_from-on before 10 (line ++ 10 ∷ (text_of lines ++ front)) other
    ∙ front_from-plain line (before ++ 10 ∷ []) (10 ∷ (text_of lines ++ front)) quiet.0.plain
    ∙ front_from-lines lines ((before ++ 10 ∷ []) ++ line) text quiet.1
    ∙ ap (λ n. Some n) sizes

front_place-lines : (line : List ℕ) (lines : List (List ℕ)) (text : List ℕ) → is_plain line ≡ true → AreHeadLines lines
    → front_place (text_of (line ∷ lines) ++ (codes "front " ++ text)) ≡ Some (length (text_of (line ∷ lines)))
unfolding front_place
front_place-lines line lines text plain quiet =
    let front = codes "front " ++ text in
    let found : front_from [] (text_of (line ∷ lines) ++ front) ≡ Some (length line + length (text_of lines)) =
    ap (front_from []) (lines_ahead line lines front) ∙ front_from-plain line [] (10 ∷ (text_of lines ++ front)) plain ∙ front_from-lines lines line text quiet in
    let sizes : length line + length (text_of lines) + 1 ≡ length (text_of (line ∷ lines)) = omega (arith, length-append (line_of line) (text_of lines), length-append line (10 ∷ [])) in
    ap (option_map (λ end. end + 1)) found ∙ ap (λ n. Some n) sizes

-- ---- the lines of the head

seat_plain : (board : BoardValue) (seat : Seat) → is_plain (seat_text board seat) ≡ true
seat_plain board seat = compass_letter_plain (compass_of board.declarer seat)

trump_plain : (trump : Trump) → is_plain (trump_text trump) ≡ true
trump_plain (Suited suit) = suit_letter_plain suit
trump_plain NoTrump = refl

cards_plain : (cards : List ℕ) → is_plain (cards_text cards) ≡ true
cards_plain [] = refl
cards_plain (card ∷ cards) = spaced_plain letters_of card_text_plain (card ∷ cards)

cause_plain : (cause : Cause) → is_plain (cause_text cause) ≡ true
cause_plain NotHeld = refl
cause_plain Revoke = refl

-- each line without its end
abbrev hand_words : BoardValue → Seat → List ℕ → List ℕ
hand_words board seat hand = codes "hand " ++ seat_text board seat ++ codes " " ++ hand_text hand

abbrev trick_words : BoardValue → TrickValue → List ℕ
trick_words board trick = codes "trick " ++ seat_text board trick.leader ++ codes " " ++ cards_text trick.cards

abbrev dropped_words : Dropped → List ℕ
dropped_words layout = codes "dropped " ++ decimal layout.number ++ codes " " ++ cause_text layout.cause ++ codes " " ++ decimal layout.play

-- the lines of the table that follow the version
abbrev position_lines : BoardValue → PositionValue → List (List ℕ)
position_lines board table =
    (codes "declarer " ++ seat_text board Declarer)
    ∷ (codes "trump " ++ trump_text table.trump)
    ∷ (codes "need " ++ decimal table.need)
    ∷ hand_words board Declarer table.declarer
    ∷ hand_words board Dummy table.dummy
    ∷ trick_words board table.trick
    ∷ (codes "turn " ++ seat_text board (to_play table))
    ∷ []

-- the first line
abbrev first_line : Version → List ℕ
first_line version = codes "alphamu report " ++ version_number version

-- the line of the weights, where there is one
abbrev weights_lines : Version → List ℕ → List (List ℕ)
weights_lines Counts weights = []
weights_lines Weights weights = (codes "weights " ++ spaced decimal weights) ∷ []

-- the lines below that of the moves
abbrev kept_lines : Version → KeptValue → List (List ℕ)
kept_lines version kept = (codes "kept " ++ spaced decimal kept.numbers) ∷ (weights_lines version kept.weights ++ map dropped_words kept.dropped)

hand_quiet : (board : BoardValue) (seat : Seat) (hand : List ℕ) → IsQuiet (hand_words board seat hand)
hand_quiet board seat hand = record {
  plain = plain_both (codes "hand ") (seat_text board seat ++ codes " " ++ hand_text hand) refl
      (plain_both (seat_text board seat) (codes " " ++ hand_text hand) (seat_plain board seat) (plain_both (codes " ") (hand_text hand) refl (hand_text_plain hand)));
  other = refl;
}

trick_quiet : (board : BoardValue) (trick : TrickValue) → IsQuiet (trick_words board trick)
trick_quiet board trick = record {
  plain = plain_both (codes "trick ") (seat_text board trick.leader ++ codes " " ++ cards_text trick.cards) refl
      (plain_both (seat_text board trick.leader) (codes " " ++ cards_text trick.cards) (seat_plain board trick.leader) (plain_both (codes " ") (cards_text trick.cards) refl (cards_plain trick.cards)));
  other = refl;
}

position_quiet : (board : BoardValue) (table : PositionValue) → AreQuiet (position_lines board table)
position_quiet board table = (
  record { plain = plain_both (codes "declarer ") (seat_text board Declarer) refl (seat_plain board Declarer); other = refl },
  (
    record { plain = plain_both (codes "trump ") (trump_text table.trump) refl (trump_plain table.trump); other = refl },
    (
      record { plain = plain_both (codes "need ") (decimal table.need) refl (decimal_plain table.need); other = refl },
      (
        hand_quiet board Declarer table.declarer,
        (
          hand_quiet board Dummy table.dummy,
          (
            trick_quiet board table.trick,
            (record { plain = plain_both (codes "turn ") (seat_text board (to_play table)) refl (seat_plain board (to_play table)); other = refl }, tt),
          ),
        ),
      ),
    ),
  ),
)

dropped_plain : (layout : Dropped) → is_plain (dropped_words layout) ≡ true
dropped_plain layout =
    let number = codes "dropped " ++ decimal layout.number in
    let cause = number ++ codes " " ++ cause_text layout.cause in
    plain_both (cause ++ codes " ") (decimal layout.play)
    (plain_both cause (codes " ") (plain_both (number ++ codes " ") (cause_text layout.cause) (plain_both number (codes " ") (plain_both (codes "dropped ") (decimal layout.number) refl (decimal_plain layout.number)) refl) (cause_plain layout.cause)) refl)
    (decimal_plain layout.play)

dropped_quiet : (dropped : List Dropped) → AreQuiet (map dropped_words dropped)
dropped_quiet [] = tt
dropped_quiet (layout ∷ dropped) = (record { plain = dropped_plain layout; other = refl }, dropped_quiet dropped)

numbers_quiet : (numbers : List ℕ) → IsQuiet (codes "kept " ++ spaced decimal numbers)
numbers_quiet numbers = record { plain = plain_both (codes "kept ") (spaced decimal numbers) refl (spaced_plain decimal decimal_plain numbers); other = refl }

weights_quiet : (weights : List ℕ) → IsQuiet (codes "weights " ++ spaced decimal weights)
weights_quiet weights = record { plain = plain_both (codes "weights ") (spaced decimal weights) refl (spaced_plain decimal decimal_plain weights); other = refl }

kept_quiet : (version : Version) (kept : KeptValue) → AreQuiet (kept_lines version kept)
kept_quiet Counts kept = (numbers_quiet kept.numbers, dropped_quiet kept.dropped)
kept_quiet Weights kept = (numbers_quiet kept.numbers, (weights_quiet kept.weights, dropped_quiet kept.dropped))

dropped_lines : (dropped : List Dropped) → flat_map dropped_line dropped ≡ text_of (map dropped_words dropped)
unfolding dropped_line
dropped_lines [] = refl
dropped_lines (layout ∷ dropped) = ap (λ more. line_of (dropped_words layout) ++ more) (dropped_lines dropped)

-- the line of the weights, before others
weights_text : (version : Version) (weights : List ℕ) (lines : List (List ℕ)) → weights_line version weights ++ text_of lines ≡ text_of (weights_lines version weights ++ lines)
weights_text Counts weights lines = refl
weights_text Weights weights lines = refl

all_pieces : (v a b c d e f g m k more : List ℕ) → v ++ (a ++ b ++ c ++ d ++ e ++ f ++ g) ++ m ++ k ++ more ≡ (v ++ (a ++ (b ++ (c ++ (d ++ (e ++ (f ++ (g ++ [])))))))) ++ (m ++ (k ++ more))
all_pieces v a b c d e f g m k more = simp append_assoc

behind_kept : (before weights dropped : List ℕ) → before ++ weights ++ dropped ≡ before ++ (weights ++ dropped)
behind_kept before weights dropped = append_assoc before weights dropped

-- the head is these lines
pub head_text-lines : (board : BoardValue) (kept : KeptValue) (moves : ℕ)
    → head_text board kept moves
    ≡ text_of (first_line (version_of kept.weights) ∷ position_lines board kept.node.position) ++ (line_of (codes "moves " ++ decimal moves) ++ text_of (kept_lines (version_of kept.weights) kept))
unfolding head_text position_text hand_line trick_line kept_line
head_text-lines board kept moves =
    let table = kept.node.position in
    let version = version_of kept.weights in
    let before = line_of (first_line version) ++ position_text board table ++ line_of (codes "moves " ++ decimal moves) ++ line_of (codes "kept " ++ spaced decimal kept.numbers) in
    behind_kept before (weights_line version kept.weights) (flat_map dropped_line kept.dropped)
    ∙ ap (λ more. before ++ more) (ap (λ more. weights_line version kept.weights ++ more) (dropped_lines kept.dropped) ∙ weights_text version kept.weights (map dropped_words kept.dropped))
    ∙ all_pieces (line_of (first_line version)) (line_of (codes "declarer " ++ seat_text board Declarer)) (line_of (codes "trump " ++ trump_text table.trump)) (line_of (codes "need " ++ decimal table.need))
    (line_of (hand_words board Declarer table.declarer)) (line_of (hand_words board Dummy table.dummy)) (line_of (trick_words board table.trick)) (line_of (codes "turn " ++ seat_text board (to_play table)))
    (line_of (codes "moves " ++ decimal moves)) (line_of (codes "kept " ++ spaced decimal kept.numbers)) (text_of (weights_lines version kept.weights ++ map dropped_words kept.dropped))

first_plain : (version : Version) → is_plain (first_line version) ≡ true
first_plain version = plain_both (codes "alphamu report ") (version_number version) refl (number_plain version)

above_quiet : (board : BoardValue) (kept : KeptValue) → AreQuiet (first_line (version_of kept.weights) ∷ position_lines board kept.node.position)
above_quiet board kept = (record { plain = first_plain (version_of kept.weights); other = refl }, position_quiet board kept.node.position)

-- the head gives its moves
pub moves_of_head-head_text : (board : BoardValue) (kept : KeptValue) (moves : ℕ) → 1 ≤ moves → moves ≤ most_moves → moves_of_head (head_text board kept moves) ≡ Some moves
moves_of_head-head_text board kept moves low high =
    let version = version_of kept.weights in
    ap moves_of_head (head_text-lines board kept moves)
    ∙ moves_of_head-lines (first_line version ∷ position_lines board kept.node.position) (kept_lines version kept) moves (above_quiet board kept) (kept_quiet version kept) low high

-- and ends where the front begins
pub front_place-head_text : (board : BoardValue) (kept : KeptValue) (moves : ℕ) (text : List ℕ) → front_place (head_text board kept moves ++ (codes "front " ++ text)) ≡ Some (length (head_text board kept moves))
front_place-head_text board kept moves text =
    let version = version_of kept.weights in
    let table = position_lines board kept.node.position in
    let line = codes "moves " ++ decimal moves in
    let others = table ++ line ∷ kept_lines version kept in
    let whole : head_text board kept moves ≡ text_of (first_line version ∷ others) =
    head_text-lines board kept moves ∙ sym (flat_map-append line_of (first_line version ∷ table) (line ∷ kept_lines version kept)) in
    subst (λ head. front_place (head ++ (codes "front " ++ text)) ≡ Some (length head)) (sym whole)
    (front_place-lines (first_line version) others text (first_plain version)
    (head_lines-append table (line ∷ kept_lines version kept) (head_lines table (position_quiet board kept.node.position)) (moves_head_line moves, head_lines (kept_lines version kept) (kept_quiet version kept))))
