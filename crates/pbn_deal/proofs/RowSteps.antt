-- Entries by fours, row by row.
use Rattle.std.proofs.Common.{◌≡◌, ℕ, suc, ◌-◌, ◌<◌, List, [], ◌∷◌, ◌++◌, None, Some, Result, Ok, Err, length, drop, refl, sym, ap, ap₂, ◌∙◌, arith, min, get_or}
use Rattle.std.specs.Prelude.{slice_get}
use Rattle.std.proofs.lemmas.List.{append_assoc}
use Rattle.card_sets.specs.declared.seat.Seat.{Seat}
use Rattle.trick_rules.specs.declared.trump.Trump.{Trump}
use Rattle.pbn_deal.specs.declared.board.Played.{Played}
use Rattle.pbn_deal.specs.declared.course.Course.{Course}
use Rattle.pbn_deal.specs.declared.fault.BoardRefusal.{BoardRefusal}
use Rattle.pbn_deal.specs.declared.section.Entry.{Entry}
use Rattle.pbn_deal.specs.Boards.{turn_in, next_course, course_after}
use Rattle.pbn_deal.specs.Sections.{prepend}
use Rattle.pbn_deal.specs.Rows.{rows_of, first_entry, in_turn, gap_line, card_fault, if_card, unless_board_fault, row_played, unless_gap, rows_played}
use Rattle.byte_text.specs.Steps.{◌>>=◌}
use Rattle.pbn_deal.proofs.SectionSteps.{prepend-prepend}

-- the entries from a place on, as a row of four
abbrev pub row_at : List Entry → ℕ → List Entry
row_at entries line =
    let none : Entry = record { card = None; line = line } in get_or entries 0 none ∷ get_or entries 1 none ∷ get_or entries 2 none ∷ get_or entries 3 none ∷ []

-- the first row and the entries after it
pub rows_of_split : (entries : List Entry) (first : Entry) → 0 < length entries → first ≡ get_or entries 0 first
    → rows_of entries ≡ row_at entries first.line ∷ rows_of (drop (min (length entries) 4) entries)
rows_of_split [] first some is = absurd (omega arith)
rows_of_split (a ∷ []) first some is = rw is refl
rows_of_split (a ∷ b ∷ []) first some is = rw is refl
rows_of_split (a ∷ b ∷ c ∷ []) first some is = rw is refl
rows_of_split (a ∷ b ∷ c ∷ d ∷ rest) first some is =
    let four : min (suc (suc (suc (suc (length rest))))) 4 ≡ 4 = omega arith in
    ap (λ k. (a ∷ b ∷ c ∷ d ∷ []) ∷ rows_of (drop k (a ∷ b ∷ c ∷ d ∷ rest))) (sym four)

-- a card of a row moves from the entries left to the plays so far
pub row_more : (trump : Trump) (tricks : ℕ) (start course next : Course) (row left rest : List Entry) (entry : Entry) (card : ℕ) (seat : Seat) (plays longer : List Played)
    → row_played trump tricks start row ≡ prepend plays (row_played trump tricks course left) → left ≡ entry ∷ rest → entry.card ≡ Some card
    → seat ≡ turn_in course.trick → card_fault tricks course seat card ≡ None → next ≡ next_course trump course card → longer ≡ plays ++ (record { seat = seat; card = card } ∷ [])
    → row_played trump tricks start row ≡ prepend longer (row_played trump tricks next rest)
row_more trump tricks start course next row left rest entry card seat plays longer read split is turn fair goes pushed =
    let after = λ (s : Seat) (n : Course). prepend (record { seat = s; card = card } ∷ []) (row_played trump tricks n rest) in
    let step : row_played trump tricks course (entry ∷ rest) ≡ after seat next =
    ap (λ o. if_card o (λ card. unless_board_fault (card_fault tricks course (turn_in course.trick) card) entry.line (prepend (record { seat = turn_in course.trick; card = card } ∷ []) (row_played trump tricks (next_course trump course card) rest)))) is
    ∙ ap (λ f. unless_board_fault f entry.line (after (turn_in course.trick) (next_course trump course card))) (sym (ap (λ s. card_fault tricks course s card) turn) ∙ fair)
    ∙ sym (ap₂ after turn goes) in
    read ∙ ap (λ es. prepend plays (row_played trump tricks course es)) split ∙ ap (prepend plays) step
    ∙ sym (ap (λ ps. prepend ps (row_played trump tricks next rest)) pushed ∙ prepend-prepend plays (record { seat = seat; card = card }) (row_played trump tricks next rest))

-- the first entry of the rows is the first entry
pub first_entry-rows_of : (entries : List Entry) → first_entry (rows_of entries) ≡ slice_get entries 0
first_entry-rows_of [] = refl
first_entry-rows_of (a ∷ []) = refl
first_entry-rows_of (a ∷ b ∷ []) = refl
first_entry-rows_of (a ∷ b ∷ c ∷ []) = refl
first_entry-rows_of (a ∷ b ∷ c ∷ d ∷ rest) = refl

prepend-append : {A : Type 0} (xs ys : List A) (rest : Result (List A) BoardRefusal) → prepend (xs ++ ys) rest ≡ prepend xs (prepend ys rest)
prepend-append xs ys (Ok zs) = ap Ok (append_assoc xs ys zs)
prepend-append xs ys (Err e) = refl

-- a row moves from the rows left to the plays so far
pub rows_more : (trump : Trump) (first : Seat) (tricks left fewer : ℕ) (start course next : Course) (all rest others : List (List Entry)) (row : List Entry) (plays more longer : List Played)
    → rows_played trump first tricks start all ≡ prepend plays (rows_played trump first left course rest) → rest ≡ row ∷ others
    → gap_line (in_turn first course.trick.leader row) (first_entry others) ≡ None
    → row_played trump left course (in_turn first course.trick.leader row) ≡ Ok more → next ≡ course_after trump course more → fewer ≡ left - 1 → longer ≡ plays ++ more
    → rows_played trump first tricks start all ≡ prepend longer (rows_played trump first fewer next others)
rows_more trump first tricks left fewer start course next all rest others row plays more longer read split whole played goes falls added =
    let turned = in_turn first course.trick.leader row in
    let onward = λ (ps : List Played). prepend ps (rows_played trump first (left - 1) (course_after trump course ps) others) in
    let step : rows_played trump first left course (row ∷ others) ≡ onward more =
    ap (λ g. unless_gap g (row_played trump left course turned >>= onward)) whole ∙ ap (λ r. r >>= onward) played in
    read ∙ ap (λ rs. prepend plays (rows_played trump first left course rs)) split ∙ ap (prepend plays) step
    ∙ sym (prepend-append plays more (rows_played trump first (left - 1) (course_after trump course more) others))
    ∙ sym (ap (λ ps. prepend ps (rows_played trump first fewer next others)) added ∙ ap (λ n. prepend (plays ++ more) (rows_played trump first n next others)) falls ∙ ap (λ k. prepend (plays ++ more) (rows_played trump first (left - 1) k others)) goes)
