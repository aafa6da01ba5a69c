-- The play that rows tell is fair and no longer than the tricks.
use Rattle.std.proofs.Common.{◌≡◌, ℕ, zero, suc, ◌+◌, ◌-◌, ◌*◌, ◌≤◌, Bool, true, false, not, cond, eqb, ◌⊎◌, inl, inr, List, [], ◌∷◌, ◌++◌, Option, None, Some, Result, Ok, Err, length, drop, take, refl, sym, ap, ◌∙◌, subst, arith}
use Rattle.std.specs.Prelude.{is_some, find, option_map, ◌&&◌, IfSome, codes}
use Rattle.std.specs.Option.{option_or}
use Rattle.std.specs.List.{list_all}
use Rattle.std.proofs.lemmas.Bool.{false≢true}
use Rattle.std.proofs.lemmas.List.{length-append, take-append-drop}
use Rattle.card_sets.specs.declared.seat.Seat.{Seat}
use Rattle.card_sets.specs.declared.seat.Seat.TheVariants.{Declarer, Left, Dummy, Right}
use Rattle.card_sets.specs.Seats.{next_seat}
use Rattle.card_sets.specs.SetWords.{has_card, IsCardSet}
use Rattle.card_sets.proofs.Sets.{IsCardSet-filter}
use Rattle.trick_rules.specs.declared.trump.Trump.{Trump}
use Rattle.trick_rules.specs.Positions.{places_on}
use Rattle.trick_rules.specs.Play.{legal_cards, take_out}
use Rattle.card_sets.proofs.SetCounts.{length-take_out, nil_from_length}
use Rattle.trick_rules.proofs.States.{legal_cards-low}
use Rattle.pbn_deal.specs.declared.board.Played.{Played}
use Rattle.pbn_deal.specs.declared.course.Course.{Course}
use Rattle.pbn_deal.specs.declared.fault.BoardFault.{BoardFault}
use Rattle.pbn_deal.specs.declared.fault.BoardFault.TheVariants.{PlayNotHeld, PlayRevoke, PlayLeader}
use Rattle.pbn_deal.specs.declared.fault.BoardRefusal.{BoardRefusal}
use Rattle.pbn_deal.specs.declared.fault.BoardRefusal.TheVariants.{Fault}
use Rattle.pbn_deal.specs.declared.section.Entry.{Entry}
use Rattle.pbn_text.specs.Games.{TagValue, GameValue}
use Rattle.pbn_deal.specs.Boards.{BoardValue, FitsUnseen, IsDealt, IsBoard, first_course, tricks_of, turn_in, declarer_without, dummy_without, next_course, IsFair, IsCourse, course_after}
use Rattle.pbn_deal.specs.Sections.{prepend, section_read}
use Rattle.byte_text.specs.Steps.{◌>>=◌}
use Rattle.pbn_deal.specs.Tags.{tag_named}
use Rattle.pbn_deal.specs.BoardRead.{section_played, is_led_wrongly, entries_played, play_of, plays_in}
use Rattle.pbn_deal.specs.Rows.{rows_of, first_entry, in_turn, gap_line, hand_fault, card_fault, if_card, unless_board_fault, row_played, unless_gap, rows_played}

-- ---- what is read well

-- what follows a front, where both are read well
prepend-ok : {A : Type 0} (front all : List A) (rest : Result (List A) BoardRefusal) → prepend front rest ≡ Ok all → (more : List A) × (rest ≡ Ok more) × (all ≡ front ++ more)
prepend-ok front all (Ok more) is = (more, refl, cc)
prepend-ok front all (Err refusal) is = cc

unless_board_fault-ok : (fault : Option BoardFault) (line : ℕ) (played : Result (List Played) BoardRefusal) (plays : List Played) → unless_board_fault fault line played ≡ Ok plays → (fault ≡ None) × (played ≡ Ok plays)
unless_board_fault-ok None line played plays is = (refl, is)
unless_board_fault-ok (Some fault) line played plays is = cc

unless_gap-ok : (gap : Option ℕ) (played : Result (List Played) BoardRefusal) (plays : List Played) → unless_gap gap played ≡ Ok plays → (gap ≡ None) × (played ≡ Ok plays)
unless_gap-ok None played plays is = (refl, is)
unless_gap-ok (Some line) played plays is = cc

pub then_read-ok : {A B : Type 0} (first : Result A BoardRefusal) (read : A → Result B BoardRefusal) (value : B) → (first >>= read) ≡ Ok value → (a : A) × (first ≡ Ok a) × (read a ≡ Ok value)
then_read-ok (Ok a) read value is = (a, refl, is)
then_read-ok (Err refusal) read value is = cc

-- ---- a card without a fault is fair

legal_from_none : (held legal : Bool) → cond (not held) (Some PlayNotHeld) (cond (not legal) (Some PlayRevoke) None) ≡ None → legal ≡ true
legal_from_none true true none = refl
legal_from_none true false none = cc
legal_from_none false legal none = cc

hand_fault-none : (trick hand : List ℕ) (card : ℕ) → hand_fault trick hand card ≡ None → has_card (legal_cards trick hand) card ≡ true
hand_fault-none trick hand card none = legal_from_none (has_card hand card) (has_card (legal_cards trick hand) card) none

card_fault-fair : (tricks : ℕ) (course : Course) (seat : Seat) (card : ℕ) → card_fault tricks course seat card ≡ None → IsFair course seat card
card_fault-fair tricks course Declarer card none = hand_fault-none course.trick.cards course.declarer card none
card_fault-fair tricks course Left card none = tt
card_fault-fair tricks course Dummy card none = hand_fault-none course.trick.cards course.dummy card none
card_fault-fair tricks course Right card none = tt

-- ---- a row

-- a card of a row that is read well, and what follows it
record FirstPlayed (trump : Trump) (tricks : ℕ) (course : Course) (card : ℕ) (rest : List Entry) (plays : List Played) : Type 0 where
  more : List Played
  fair : card_fault tricks course (turn_in course.trick) card ≡ None
  read : row_played trump tricks (next_course trump course card) rest ≡ Ok more
  split : plays ≡ record { seat = turn_in course.trick; card = card } ∷ more

first_played : (trump : Trump) (tricks : ℕ) (course : Course) (entry : Entry) (card : ℕ) (rest : List Entry) (plays : List Played)
    → entry.card ≡ Some card → row_played trump tricks course (entry ∷ rest) ≡ Ok plays → FirstPlayed trump tricks course card rest plays
first_played trump tricks course entry card rest plays is read =
    let later = row_played trump tricks (next_course trump course card) rest in
    let here = sym (ap (λ o. if_card o (λ card. unless_board_fault (card_fault tricks course (turn_in course.trick) card) entry.line (prepend (record { seat = turn_in course.trick; card = card } ∷ []) (row_played trump tricks (next_course trump course card) rest)))) is) ∙ read in
    let fair = unless_board_fault-ok (card_fault tricks course (turn_in course.trick) card) entry.line (prepend (record { seat = turn_in course.trick; card = card } ∷ []) later) plays here in
    let front = prepend-ok (record { seat = turn_in course.trick; card = card } ∷ []) plays later fair.1 in
    record { more = front.0; fair = fair.0; read = front.1; split = front.2 }

no_card_played : (trump : Trump) (tricks : ℕ) (course : Course) (entry : Entry) (rest : List Entry) (plays : List Played)
    → entry.card ≡ None → row_played trump tricks course (entry ∷ rest) ≡ Ok plays → plays ≡ []
no_card_played trump tricks course entry rest plays is read =
    let here = sym (ap (λ o. if_card o (λ card. unless_board_fault (card_fault tricks course (turn_in course.trick) card) entry.line (prepend (record { seat = turn_in course.trick; card = card } ∷ []) (row_played trump tricks (next_course trump course card) rest)))) is) ∙ read in
    cc here

row_fair : (trump : Trump) (tricks : ℕ) (row : List Entry) (course : Course) (plays : List Played) → row_played trump tricks course row ≡ Ok plays → IsCourse trump course plays
row_fair trump tricks [] course plays read = let none : [] ≡ plays = cc in subst (IsCourse trump course) none tt
row_fair trump tricks (entry ∷ rest) course plays read = by_card entry.card refl (λ k ps r. row_fair trump tricks rest k ps r) where
  by_card : (o : Option ℕ) → entry.card ≡ o → ((k : Course) (ps : List Played) → row_played trump tricks k rest ≡ Ok ps → IsCourse trump k ps) → IsCourse trump course plays
  by_card None is later = subst (IsCourse trump course) (sym (no_card_played trump tricks course entry rest plays is read)) tt
  by_card (Some card) is later =
      let f = first_played trump tricks course entry card rest plays is read in
      subst (IsCourse trump course) (sym f.split) (refl, card_fault-fair tricks course (turn_in course.trick) card f.fair, later (next_course trump course card) f.more f.read)

row_length : (trump : Trump) (tricks : ℕ) (row : List Entry) (course : Course) (plays : List Played) → row_played trump tricks course row ≡ Ok plays → length plays ≤ length row
row_length trump tricks [] course plays read = let none : [] ≡ plays = cc in subst (λ (ps : List Played). length ps ≤ 0) none (omega arith)
row_length trump tricks (entry ∷ rest) course plays read = by_card entry.card refl (λ k ps r. row_length trump tricks rest k ps r) where
  by_card : (o : Option ℕ) → entry.card ≡ o → ((k : Course) (ps : List Played) → row_played trump tricks k rest ≡ Ok ps → length ps ≤ length rest) → length plays ≤ suc (length rest)
  by_card None is later = omega (arith, ap length (no_card_played trump tricks course entry rest plays is read))
  by_card (Some card) is later =
      let f = first_played trump tricks course entry card rest plays is read in
      omega (arith, ap length f.split, later (next_course trump course card) f.more f.read)

-- a row of cards alone is played whole
row_whole : (trump : Trump) (tricks : ℕ) (row : List Entry) (course : Course) (plays : List Played) → list_all (λ e. is_some e.card) row ≡ true
    → row_played trump tricks course row ≡ Ok plays → length plays ≡ length row
row_whole trump tricks [] course plays all read = let none : [] ≡ plays = cc in sym (ap length none)
row_whole trump tricks (entry ∷ rest) course plays all read = by_card entry.card refl (λ k ps a r. row_whole trump tricks rest k ps a r) where
  by_card : (o : Option ℕ) → entry.card ≡ o → ((k : Course) (ps : List Played) → list_all (λ e. is_some e.card) rest ≡ true → row_played trump tricks k rest ≡ Ok ps → length ps ≡ length rest)
      → length plays ≡ suc (length rest)
  by_card None is later = absurd (false≢true (sym (ap (λ o. is_some o && list_all (λ e. is_some e.card) rest) is) ∙ all))
  by_card (Some card) is later =
      let f = first_played trump tricks course entry card rest plays is read in
      let others = sym (ap (λ o. is_some o && list_all (λ e. is_some e.card) rest) is) ∙ all in
      ap length f.split ∙ ap suc (later (next_course trump course card) f.more others f.read)

-- ---- the start of a trick

-- no card lies in the trick, and each hand has a card for each trick
record IsTrickStart (tricks : ℕ) (course : Course) : Type 0 where
  lead : course.trick.cards ≡ []
  declarer_set : IsCardSet course.declarer
  dummy_set : IsCardSet course.dummy
  declarer_count : length course.declarer ≡ tricks
  dummy_count : length course.dummy ≡ tricks

-- a hand with no card has a fault
no_hand : (trick hand : List ℕ) (card : ℕ) → hand ≡ [] → hand_fault trick hand card ≡ Some PlayNotHeld
no_hand trick hand card none = ap (λ h. hand_fault trick h card) none

fault_at_end : (course : Course) (seat : Seat) (card : ℕ) → IsTrickStart 0 course → card_fault 0 course seat card ≡ Some PlayNotHeld
fault_at_end course Declarer card start = no_hand course.trick.cards course.declarer card (nil_from_length course.declarer start.declarer_count)
fault_at_end course Left card start = refl
fault_at_end course Dummy card start = no_hand course.trick.cards course.dummy card (nil_from_length course.dummy start.dummy_count)
fault_at_end course Right card start = refl

-- no card is played after the last trick
row_at_end : (trump : Trump) (row : List Entry) (course : Course) (plays : List Played) → IsTrickStart 0 course → row_played trump 0 course row ≡ Ok plays → plays ≡ []
row_at_end trump [] course plays start read = cc
row_at_end trump (entry ∷ rest) course plays start read = by_card entry.card refl where
  by_card : (o : Option ℕ) → entry.card ≡ o → plays ≡ []
  by_card None is = no_card_played trump 0 course entry rest plays is read
  by_card (Some card) is =
      let f = first_played trump 0 course entry card rest plays is read in
      cc (fault_at_end course (turn_in course.trick) card start, f.fair)

-- ---- how the hands fall

is_declarer : Seat → ℕ
is_declarer Declarer = 1
is_declarer Left = 0
is_declarer Dummy = 0
is_declarer Right = 0

is_dummy : Seat → ℕ
is_dummy Declarer = 0
is_dummy Left = 0
is_dummy Dummy = 1
is_dummy Right = 0

-- how many of the plays are by such a seat
plays_by : (Seat → ℕ) → List Played → ℕ
plays_by seat [] = 0
plays_by seat (play ∷ plays) = seat play.seat + plays_by seat plays

record HandFalls (before after : List ℕ) (plays : ℕ) : Type 0 where
  a_set : IsCardSet after
  count : length after + plays ≡ length before

same_hand : (hand : List ℕ) → IsCardSet hand → HandFalls hand hand 0
same_hand hand a_set = record { a_set = a_set; count = omega arith }

card_falls : (trick hand : List ℕ) (card : ℕ) → IsCardSet hand → has_card (legal_cards trick hand) card ≡ true → HandFalls hand (take_out card hand) 1
card_falls trick hand card a_set legal = record {
  a_set = IsCardSet-filter (λ c. not (eqb c card)) hand a_set;
  count = length-take_out hand card a_set (legal_cards-low trick hand card legal);
}

declarer_step : (course : Course) (seat : Seat) (card : ℕ) → IsCardSet course.declarer → IsFair course seat card → HandFalls course.declarer (declarer_without seat card course.declarer) (is_declarer seat)
unfolding is_declarer
declarer_step course Declarer card a_set fair = card_falls course.trick.cards course.declarer card a_set fair
declarer_step course Left card a_set fair = same_hand course.declarer a_set
declarer_step course Dummy card a_set fair = same_hand course.declarer a_set
declarer_step course Right card a_set fair = same_hand course.declarer a_set

dummy_step : (course : Course) (seat : Seat) (card : ℕ) → IsCardSet course.dummy → IsFair course seat card → HandFalls course.dummy (dummy_without seat card course.dummy) (is_dummy seat)
unfolding is_dummy
dummy_step course Declarer card a_set fair = same_hand course.dummy a_set
dummy_step course Left card a_set fair = same_hand course.dummy a_set
dummy_step course Dummy card a_set fair = card_falls course.trick.cards course.dummy card a_set fair
dummy_step course Right card a_set fair = same_hand course.dummy a_set

-- one of declarer's side's hands falls with the plays by its seat
module _ (hand : Course → List ℕ) (without : Seat → ℕ → List ℕ → List ℕ) (by : Seat → ℕ)
    (step : (course : Course) (seat : Seat) (card : ℕ) → IsCardSet (hand course) → IsFair course seat card → HandFalls (hand course) (without seat card (hand course)) (by seat))
    (goes : (trump : Trump) (course : Course) (card : ℕ) → without (turn_in course.trick) card (hand course) ≡ hand (next_course trump course card)) where
  falls : (trump : Trump) (plays : List Played) (course : Course) → IsCardSet (hand course) → IsCourse trump course plays
      → HandFalls (hand course) (hand (course_after trump course plays)) (plays_by by plays)
  unfolding plays_by
  falls trump [] course a_set fair = same_hand (hand course) a_set
  falls trump (play ∷ plays) course a_set fair =
      let turn = fair.0 in
      let here = step course play.seat play.card a_set fair.1 in
      let moved : without play.seat play.card (hand course) ≡ hand (next_course trump course play.card)
      = ap (λ s. without s play.card (hand course)) turn ∙ goes trump course play.card in
      let later = falls trump plays (next_course trump course play.card) (subst IsCardSet moved here.a_set) fair.2 in
      record { a_set = later.a_set; count = omega (arith, later.count, here.count, ap length moved) }

-- ---- a whole trick

-- what four cards of a trick come to: one of each hand, and a new trick
record IsWholeTrick (trump : Trump) (course : Course) (plays : List Played) : Type 0 where
  lead : (course_after trump course plays).trick.cards ≡ []
  declarer_once : plays_by is_declarer plays ≡ 1
  dummy_once : plays_by is_dummy plays ≡ 1

-- of the four seats from a leader on, one passes a test that one of the four seats passes
one_of_four : (by : Seat → ℕ) → by Declarer + (by Left + (by Dummy + (by Right + 0))) ≡ 1 → (leader : Seat)
    → by leader + (by (next_seat leader) + (by (next_seat (next_seat leader)) + (by (next_seat (next_seat (next_seat leader))) + 0))) ≡ 1
one_of_four by one Declarer = one
one_of_four by one Left = omega arith
one_of_four by one Dummy = omega arith
one_of_four by one Right = omega arith

declarer_of_four : is_declarer Declarer + (is_declarer Left + (is_declarer Dummy + (is_declarer Right + 0))) ≡ 1
unfolding is_declarer
declarer_of_four = refl

dummy_of_four : is_dummy Declarer + (is_dummy Left + (is_dummy Dummy + (is_dummy Right + 0))) ≡ 1
unfolding is_dummy
dummy_of_four = refl

trick_from_start : (trump : Trump) (declarer dummy : List ℕ) (leader : Seat) (plays : List Played) → length plays ≡ 4
    → IsCourse trump (record { declarer = declarer; dummy = dummy; trick = record { leader = leader; cards = [] } }) plays
    → IsWholeTrick trump (record { declarer = declarer; dummy = dummy; trick = record { leader = leader; cards = [] } }) plays
unfolding plays_by
trick_from_start trump declarer dummy leader (a ∷ b ∷ c ∷ d ∷ []) four fair =
    let first : a.seat ≡ leader = fair.0 in
    let second : b.seat ≡ next_seat leader = fair.2.0 in
    let third : c.seat ≡ next_seat (next_seat leader) = fair.2.2.0 in
    let fourth : d.seat ≡ next_seat (next_seat (next_seat leader)) = fair.2.2.2.0 in
    record {
      lead = refl;
      declarer_once = omega (arith, ap is_declarer first, ap is_declarer second, ap is_declarer third, ap is_declarer fourth, one_of_four is_declarer declarer_of_four leader);
      dummy_once = omega (arith, ap is_dummy first, ap is_dummy second, ap is_dummy third, ap is_dummy fourth, one_of_four is_dummy dummy_of_four leader);
    }
trick_from_start trump declarer dummy leader [] four fair = absurd (omega arith)
trick_from_start trump declarer dummy leader (a ∷ []) four fair = absurd (omega arith)
trick_from_start trump declarer dummy leader (a ∷ b ∷ []) four fair = absurd (omega arith)
trick_from_start trump declarer dummy leader (a ∷ b ∷ c ∷ []) four fair = absurd (omega arith)
trick_from_start trump declarer dummy leader (a ∷ b ∷ c ∷ d ∷ e ∷ rest) four fair = absurd (omega arith)

-- a whole trick leads to the start of the next
next_start : (trump : Trump) (tricks : ℕ) (course : Course) (plays : List Played) → IsTrickStart (suc tricks) course → length plays ≡ 4 → IsCourse trump course plays
    → IsTrickStart tricks (course_after trump course plays)
next_start trump tricks course plays start four fair =
    let bare : Course = record { declarer = course.declarer; dummy = course.dummy; trick = record { leader = course.trick.leader; cards = [] } } in
    let same : course ≡ bare = ap (λ cs. record { declarer = course.declarer; dummy = course.dummy; trick = record { leader = course.trick.leader; cards = cs } }) start.lead in
    let whole = subst (λ (k : Course). IsWholeTrick trump k plays) (sym same)
    (trick_from_start trump course.declarer course.dummy course.trick.leader plays four (subst (λ (k : Course). IsCourse trump k plays) same fair)) in
    let own = falls (λ k. k.declarer) (λ seat card hand. declarer_without seat card hand) is_declarer declarer_step (λ t k card. refl) trump plays course start.declarer_set fair in
    let dummy = falls (λ k. k.dummy) (λ seat card hand. dummy_without seat card hand) is_dummy dummy_step (λ t k card. refl) trump plays course start.dummy_set fair in
    record {
      lead = whole.lead;
      declarer_set = own.a_set;
      dummy_set = dummy.a_set;
      declarer_count = omega (arith, own.count, whole.declarer_once, start.declarer_count);
      dummy_count = omega (arith, dummy.count, whole.dummy_once, start.dummy_count);
    }

-- ---- all rows

-- a row without a fault by gaps has a card at each place, or nothing follows it
gap_none : (row : List Entry) (next : Option Entry) → gap_line row next ≡ None → (list_all (λ e. is_some e.card) row ≡ true) ⊎ (next ≡ None)
gap_none [] next none = inl refl
gap_none (entry ∷ rest) next none = by_card (is_some entry.card) refl none (gap_none rest next) where
  no_next : (found next : Option Entry) → option_map (λ e. e.line) (option_or found next) ≡ None → next ≡ None
  no_next None None none = refl
  no_next None (Some later) none = cc
  no_next (Some later) next none = cc

  by_card : (b : Bool) → is_some entry.card ≡ b → cond b (gap_line rest next) (option_map (λ e. e.line) (option_or (find (λ e. is_some e.card) rest) next)) ≡ None
      → (gap_line rest next ≡ None → (list_all (λ e. is_some e.card) rest ≡ true) ⊎ (next ≡ None)) → ((is_some entry.card && list_all (λ e. is_some e.card) rest) ≡ true) ⊎ (next ≡ None)
  by_card true is none later =
      elim (later none) [
        | inl all ↦ inl (ap (λ b. b && list_all (λ e. is_some e.card) rest) is ∙ all)
        | inr last ↦ inr last
      ]
  by_card false is none later = inr (no_next (find (λ e. is_some e.card) rest) next none)

-- what a row and those after it come to, where they are read well
record RowsPlayed (trump : Trump) (first : Seat) (tricks : ℕ) (course : Course) (row : List Entry) (rows : List (List Entry)) (plays : List Played) : Type 0 where
  here : List Played
  more : List Played
  whole : gap_line (in_turn first course.trick.leader row) (first_entry rows) ≡ None
  read : row_played trump tricks course (in_turn first course.trick.leader row) ≡ Ok here
  later : rows_played trump first (tricks - 1) (course_after trump course here) rows ≡ Ok more
  split : plays ≡ here ++ more

rows_split : (trump : Trump) (first : Seat) (tricks : ℕ) (course : Course) (row : List Entry) (rows : List (List Entry)) (plays : List Played)
    → rows_played trump first tricks course (row ∷ rows) ≡ Ok plays → RowsPlayed trump first tricks course row rows plays
rows_split trump first tricks course row rows plays read =
    let turned = in_turn first course.trick.leader row in
    let onward = λ (ps : List Played). prepend ps (rows_played trump first (tricks - 1) (course_after trump course ps) rows) in
    let whole = unless_gap-ok (gap_line turned (first_entry rows)) (row_played trump tricks course turned >>= onward) plays read in
    let here = then_read-ok (row_played trump tricks course turned) onward plays whole.1 in
    let more = prepend-ok here.0 plays (rows_played trump first (tricks - 1) (course_after trump course here.0) rows) here.2 in
    record { here = here.0; more = more.0; whole = whole.0; read = here.1; later = more.1; split = more.2 }

IsCourse-append : (trump : Trump) (plays more : List Played) (course : Course) → IsCourse trump course plays → IsCourse trump (course_after trump course plays) more → IsCourse trump course (plays ++ more)
IsCourse-append trump [] more course fair later = later
IsCourse-append trump (play ∷ plays) more course fair later = (fair.0, fair.1, IsCourse-append trump plays more (next_course trump course play.card) fair.2 later)

-- the play that rows tell is fair
pub rows_fair : (trump : Trump) (first : Seat) (rows : List (List Entry)) (tricks : ℕ) (course : Course) (plays : List Played) → rows_played trump first tricks course rows ≡ Ok plays → IsCourse trump course plays
rows_fair trump first [] tricks course plays read = let none : [] ≡ plays = cc in subst (IsCourse trump course) none tt
rows_fair trump first (row ∷ rows) tricks course plays read =
    let s = rows_split trump first tricks course row rows plays read in
    subst (IsCourse trump course) (sym s.split)
    (IsCourse-append trump s.here s.more course (row_fair trump tricks (in_turn first course.trick.leader row) course s.here s.read) (rows_fair trump first rows (tricks - 1) (course_after trump course s.here) s.more s.later))

-- each row has four entries
abbrev AreFours : List (List Entry) → Type 0
AreFours [] = Unit {0}
AreFours (row ∷ rows) = (length row ≡ 4) × AreFours rows

rows_of-fours : (entries : List Entry) → AreFours (rows_of entries)
rows_of-fours [] = tt
rows_of-fours (a ∷ []) = (refl, tt)
rows_of-fours (a ∷ b ∷ []) = (refl, tt)
rows_of-fours (a ∷ b ∷ c ∷ []) = (refl, tt)
rows_of-fours (a ∷ b ∷ c ∷ d ∷ rest) = (refl, rows_of-fours rest)

no_rows : (rows : List (List Entry)) → AreFours rows → first_entry rows ≡ None → rows ≡ []
no_rows [] fours none = refl
no_rows ([] ∷ rows) fours none = absurd (omega (arith, fours.0))
no_rows ((entry ∷ row) ∷ rows) fours none = cc

length-in_turn : (first leader : Seat) (row : List Entry) → length (in_turn first leader row) ≡ length row
length-in_turn first leader row =
    length-append (drop (places_on first leader) row) (take (places_on first leader) row) ∙ omega (arith, ap length (take-append-drop (places_on first leader) row), length-append (take (places_on first leader) row) (drop (places_on first leader) row))

-- after the last row nothing is played
no_more : (trump : Trump) (first : Seat) (rows : List (List Entry)) (tricks : ℕ) (course : Course) (more : List Played)
    → AreFours rows → first_entry rows ≡ None → rows_played trump first tricks course rows ≡ Ok more → more ≡ []
no_more trump first rows tricks course more fours last read =
    let here : Ok [] ≡ Ok more = sym (ap (rows_played trump first tricks course) (no_rows rows fours last)) ∙ read in cc

-- the play that rows tell is no longer than the tricks
rows_short : (trump : Trump) (first : Seat) (rows : List (List Entry)) (tricks : ℕ) (course : Course) (plays : List Played)
    → AreFours rows → IsTrickStart tricks course → rows_played trump first tricks course rows ≡ Ok plays → length plays ≤ 4 * tricks
rows_short trump first [] tricks course plays fours start read = let none : [] ≡ plays = cc in omega (arith, ap length none)
rows_short trump first (row ∷ rows) zero course plays fours start read =
    let s = rows_split trump first zero course row rows plays read in
    let turned = in_turn first course.trick.leader row in
    let none = row_at_end trump turned course s.here start s.read in
    elim (gap_none turned (first_entry rows) s.whole) as (λ _. length plays ≤ 4 * 0) [
      | inl all ↦ absurd (omega (arith, row_whole trump zero turned course s.here all s.read, ap length none, length-in_turn first course.trick.leader row, fours.0))
      | inr last ↦
          omega (arith, ap length s.split, length-append s.here s.more, ap length none, ap length (no_more trump first rows (zero - 1) (course_after trump course s.here) s.more fours.1 last s.later))
    ]
rows_short trump first (row ∷ rows) (suc tricks) course plays fours start read =
    let s = rows_split trump first (suc tricks) course row rows plays read in
    let turned = in_turn first course.trick.leader row in
    let size = length-in_turn first course.trick.leader row in
    elim (gap_none turned (first_entry rows) s.whole) as (λ _. length plays ≤ 4 * suc tricks) [
      | inl all ↦
          let four : length s.here ≡ 4 = row_whole trump (suc tricks) turned course s.here all s.read ∙ size ∙ fours.0 in
          let next = next_start trump tricks course s.here start four (row_fair trump (suc tricks) turned course s.here s.read) in
          let fewer : suc tricks - 1 ≡ tricks = omega arith in
          let later = ap (λ t. rows_played trump first t (course_after trump course s.here) rows) (sym fewer) ∙ s.later in
          omega (arith, ap length s.split, length-append s.here s.more, four, rows_short trump first rows tricks (course_after trump course s.here) s.more fours.1 next later)
      | inr last ↦
          let few = row_length trump (suc tricks) turned course s.here s.read in
          omega (arith, ap length s.split, length-append s.here s.more, few, size, fours.0, ap length (no_more trump first rows (suc tricks - 1) (course_after trump course s.here) s.more fours.1 last s.later))
    ]

-- ---- a board

-- a board that is dealt well keeps so whatever was played
pub dealt_played : (b : BoardValue) (plays : List Played) → IsDealt b → IsDealt (record b { plays = plays })
dealt_played b plays dealt = record {
  declarer_set = dealt.declarer_set;
  dummy_set = dealt.dummy_set;
  apart = dealt.apart;
  same_size = dealt.same_size;
  some = dealt.some;
  few = dealt.few;
  need_fits = dealt.need_fits;
  unseen_fits = unseen b.unseen dealt.unseen_fits;
} where
  unseen : (u : Option (List ℕ)) → IfSome u (FitsUnseen b) → IfSome u (FitsUnseen (record b { plays = plays }))
  unseen None fits = tt
  unseen (Some cards) fits = record { set = fits.set; declarer_apart = fits.declarer_apart; dummy_apart = fits.dummy_apart; count = fits.count }

section_board : (b : BoardValue) (entries : List Entry) (plays : List Played) → IsDealt b → section_played b entries ≡ Ok plays → IsBoard (record b { plays = plays })
section_board b entries plays dealt read =
    let start : IsTrickStart (tricks_of b) (first_course b) = record { lead = refl; declarer_set = dealt.declarer_set; dummy_set = dealt.dummy_set; declarer_count = refl; dummy_count = dealt.same_size } in
    record {
      dealt = dealt_played b plays dealt;
      fair = rows_fair b.trump b.leader (rows_of entries) (tricks_of b) (first_course b) plays read;
      short = rows_short b.trump b.leader (rows_of entries) (tricks_of b) (first_course b) plays (rows_of-fours entries) start read;
    }

no_plays : (b : BoardValue) → IsDealt b → IsBoard (record b { plays = [] })
no_plays b dealt = record { dealt = dealt_played b [] dealt; fair = tt; short = omega arith }

-- the play that a section tells makes a sound board
pub played_board : (game : GameValue) (b : BoardValue) (plays : List Played) → IsDealt b → plays_in game b ≡ Ok plays → IsBoard (record b { plays = plays })
unfolding plays_in
played_board game b plays dealt read = by_tag (tag_named (codes "Play") game) read where
  by_leader : (wrong : Bool) (line : ℕ) (entries : List Entry) → cond wrong (Err (Fault line PlayLeader)) (section_played b entries) ≡ Ok plays → IsBoard (record b { plays = plays })
  by_leader true line entries read = cc
  by_leader false line entries read = section_board b entries plays dealt read

  by_tag : (tag : Option TagValue) → play_of b tag ≡ Ok plays → IsBoard (record b { plays = plays })
  by_tag None read = let none : [] ≡ plays = cc in subst (λ (ps : List Played). IsBoard (record b { plays = ps })) none (no_plays b dealt)
  by_tag (Some tag) read =
      let section = then_read-ok (section_read tag.tokens) (entries_played b tag) plays read in
      by_leader (is_led_wrongly b tag section.0) tag.line section.0 section.2
