-- What the reader of a report goes through, part by part.
use Rattle.std.proofs.Common.{◌≡◌, ℕ, zero, suc, ◌+◌, ◌-◌, ◌<◌, ◌≤◌, ◌⊎◌, inl, inr, Bool, Option, Some, None, Result, Ok, Err, List, [], ◌∷◌, ◌++◌, length, take, drop, codes, MatchOption, Bor, refl, sym, ap, subst, ◌∙◌, arith, append_assoc, append-nil}
use Rattle.std.specs.Prelude.{option_to_list}
use Rattle.std.specs.Option.{option_map}
use Rattle.std.specs.List.{slice_split, filter_map}
use Rattle.std.proofs.lemmas.List.{take_rest}
use Rattle.strategy_games.specs.Plans.{Plan}
use Rattle.strategy_tree.specs.declared.plan_reader.PlanFault.{PlanFault}
use Rattle.strategy_tree.specs.declared.plan_reader.PlanFault.TheVariants as plan_faults
use Rattle.byte_text.specs.Lines.{line_of, text_after, said_at, is_line_end, line_number}
use Rattle.strategy_tree.specs.PlanRead.{plan_read}
use Rattle.am_report.specs.declared.fault.ReportKind.{ReportKind}
use Rattle.am_report.specs.declared.fault.ReportKind.TheVariants as kinds
use Rattle.am_report.specs.declared.fault.ReportFault.{ReportFault}
use Rattle.am_report.specs.declared.fault.ReportFault.TheVariants as faults
use Rattle.am_report.specs.declared.reading.Head.{Head}
use Rattle.am_report.specs.declared.version.Version.{Version}
use Rattle.am_report.specs.Answers.{ReadEntryValue}
use Rattle.am_report.specs.ReportLines.{moves_said, vector_said, card_said}
use Rattle.am_report.specs.Reading.{expected, only, moves_of_head, head_read, report_fault, entry_read, entries_read, end_read, below_read, IsReportFaultOf}
use Rattle.byte_text.specs.Steps.{◌>>=◌}

-- ---- faults

-- a fault of one part is the fault of the whole, and memory is free
pub same_fault : {A B : Type 0} (x : Result A (ℕ × ReportKind)) (y : Result B (ℕ × ReportKind)) (fault : ReportFault) → IsReportFaultOf fault x → ((found : ℕ × ReportKind) → x ≡ Err found → y ≡ Err found) → IsReportFaultOf fault y
same_fault x y faults.Memory is same = tt
same_fault x y (faults.Fault line kind) is same = same (line, kind) is

pub at_fault : {A : Type 0} (y : Result A (ℕ × ReportKind)) (fault : ReportFault) (line : ℕ) (kind : ReportKind) → fault ≡ faults.Fault line kind → y ≡ Err (line, kind) → IsReportFaultOf fault y
at_fault y fault line kind is refused = subst (λ (f : ReportFault). IsReportFaultOf f y) (sym is) refused

-- ---- the number of moves

-- the numbers of moves in what is left of the head
abbrev pub moves_left : Option (List ℕ) → List ℕ
moves_left None = []
moves_left (Some text) = filter_map moves_said (slice_split is_line_end text)

-- how much of the head is left: its bytes and the end of the last line
abbrev pub size_left : Option (List ℕ) → ℕ
size_left None = 0
size_left (Some text) = length text + 1

first_move : (line : List ℕ) (lines : List (List ℕ)) → filter_map moves_said (line ∷ lines) ≡ option_to_list (moves_said line) ++ filter_map moves_said lines
first_move line lines = go (moves_said line) refl
  where
    go : (moves : Option ℕ) → moves_said line ≡ moves → filter_map moves_said (line ∷ lines) ≡ option_to_list moves ++ filter_map moves_said lines
    go None is = rw is refl
    go (Some n) is = rw is refl

pub moves_left-more : (text line : List ℕ) (after : Option (Bor (List ℕ)))
    → MatchOption after (slice_split is_line_end text ≡ line ∷ []) (λ rest. slice_split is_line_end text ≡ line ∷ slice_split is_line_end rest.now)
    → moves_left (Some text) ≡ option_to_list (moves_said line) ++ moves_left (option_map (λ rest. rest.now) after)
moves_left-more text line None is = ap (filter_map moves_said) is ∙ first_move line []
moves_left-more text line (Some rest) is = ap (filter_map moves_said) is ∙ first_move line (slice_split is_line_end rest.now)

-- one more line
pub moves_left-turn : (all : List ℕ) (found one : Option ℕ) (text line : List ℕ) (after : Option (Bor (List ℕ)))
    → all ≡ option_to_list found ++ moves_left (Some text)
    → MatchOption after (slice_split is_line_end text ≡ line ∷ []) (λ rest. slice_split is_line_end text ≡ line ∷ slice_split is_line_end rest.now)
    → option_to_list one ≡ option_to_list found ++ option_to_list (moves_said line)
    → all ≡ option_to_list one ++ moves_left (option_map (λ rest. rest.now) after)
moves_left-turn all found one text line after so_far is both =
    let later = moves_left (option_map (λ rest. rest.now) after) in
    so_far ∙ ap (λ more. option_to_list found ++ more) (moves_left-more text line after is)
    ∙ sym (append_assoc (option_to_list found) (option_to_list (moves_said line)) later) ∙ ap (λ more. more ++ later) (sym both)

only_two : (numbers later : List ℕ) → length numbers ≡ 2 → only (numbers ++ later) ≡ None
only_two [] later two = absurd (omega arith)
only_two (a ∷ []) later two = absurd (omega arith)
only_two (a ∷ b ∷ more) later two = refl

-- a second line with a number of moves
pub moves_of_head-two : (head : List ℕ) (found : Option ℕ) (text line : List ℕ) (after : Option (Bor (List ℕ)))
    → filter_map moves_said (slice_split is_line_end head) ≡ option_to_list found ++ moves_left (Some text)
    → MatchOption after (slice_split is_line_end text ≡ line ∷ []) (λ rest. slice_split is_line_end text ≡ line ∷ slice_split is_line_end rest.now)
    → length (option_to_list found ++ option_to_list (moves_said line)) ≡ 2
    → moves_of_head head ≡ None
unfolding moves_of_head
moves_of_head-two head found text line after so_far is two =
    let later = moves_left (option_map (λ rest. rest.now) after) in
    ap only (so_far ∙ ap (λ more. option_to_list found ++ more) (moves_left-more text line after is) ∙ sym (append_assoc (option_to_list found) (option_to_list (moves_said line)) later))
    ∙ only_two (option_to_list found ++ option_to_list (moves_said line)) later two

only-found : (found : Option ℕ) → only (option_to_list found ++ []) ≡ found
only-found None = refl
only-found (Some n) = refl

pub moves_of_head-end : (head : List ℕ) (found : Option ℕ) (rest : Option (Bor (List ℕ))) → rest ≡ None
    → filter_map moves_said (slice_split is_line_end head) ≡ option_to_list found ++ moves_left (option_map (λ text. text.now) rest)
    → moves_of_head head ≡ found
unfolding moves_of_head
moves_of_head-end head found None none so_far = ap only so_far ∙ only-found found
moves_of_head-end head found (Some text) none so_far = absurd cc

-- ---- a vector with its plan

module _ (version : Version) (bytes : List ℕ) (at : ℕ) where
  pub entry_read-no_vector : (found : ℕ × ReportKind) → expected kinds.Vector bytes at (said_at (vector_said version) bytes at) ≡ Err found → entry_read version bytes at ≡ Err found
  unfolding entry_read
  entry_read-no_vector found said = rw said refl

  pub entry_read-plan : (vector : List Bool) (weight next : ℕ) (plan : Plan ℕ) (end : ℕ) → expected kinds.Vector bytes at (said_at (vector_said version) bytes at) ≡ Ok ((vector, weight), next)
      → plan_read bytes next ≡ Ok (plan, end) → entry_read version bytes at ≡ Ok (record { entry = record { vector = vector; plan = plan }; weight = weight }, end)
  unfolding entry_read
  entry_read-plan vector weight next plan end said read = rw (said, read) refl

  pub entry_read-report_fault : (vector : List Bool) (weight next : ℕ) (fault : PlanFault) → expected kinds.Vector bytes at (said_at (vector_said version) bytes at) ≡ Ok ((vector, weight), next)
      → (fault ≡ plan_faults.Memory) ⊎ (plan_read bytes next ≡ Err fault) → IsReportFaultOf (report_fault bytes fault) (entry_read version bytes at)
  unfolding entry_read
  entry_read-report_fault vector weight next plan_faults.Memory said cause = tt
  entry_read-report_fault vector weight next (plan_faults.Line place) said cause = elim cause [ inl memory ↦ absurd cc | inr refused ↦ rw (said, refused) refl ]
  entry_read-report_fault vector weight next (plan_faults.Deep place) said cause = elim cause [ inl memory ↦ absurd cc | inr refused ↦ rw (said, refused) refl ]

-- ---- one after another

-- what is read after these
abbrev pub entries_after : List ReadEntryValue → Result (List ReadEntryValue × ℕ) (ℕ × ReportKind) → Result (List ReadEntryValue × ℕ) (ℕ × ReportKind)
entries_after earlier (Ok read) = Ok (earlier ++ read.0, read.1)
entries_after earlier (Err fault) = Err fault

pub entries_after-none : (r : Result (List ReadEntryValue × ℕ) (ℕ × ReportKind)) → r ≡ entries_after [] r
entries_after-none (Ok read) = refl
entries_after-none (Err fault) = refl

entries_after-append : (earlier more : List ReadEntryValue) (r : Result (List ReadEntryValue × ℕ) (ℕ × ReportKind)) → entries_after (earlier ++ more) r ≡ entries_after earlier (entries_after more r)
entries_after-append earlier more (Ok read) = ap (λ entries. Ok (entries, read.1)) (append_assoc earlier more read.0)
entries_after-append earlier more (Err fault) = refl

after_one : (entry : ReadEntryValue) (r : Result (List ReadEntryValue × ℕ) (ℕ × ReportKind)) → (r >>= (λ later. Ok (entry ∷ later.0, later.1))) ≡ entries_after (entry ∷ []) r
after_one entry (Ok read) = refl
after_one entry (Err fault) = refl

module _ (version : Version) (bytes : List ℕ) where
  entries_read-fault : (left at : ℕ) (fault : ℕ × ReportKind) → 0 < left → entry_read version bytes at ≡ Err fault → entries_read version left bytes at ≡ Err fault
  entries_read-fault zero at fault more is = absurd (omega arith)
  entries_read-fault (suc left) at fault more is = rw is refl

  entries_read-more : (left at : ℕ) (entry : ReadEntryValue) (end : ℕ) → 0 < left → entry_read version bytes at ≡ Ok (entry, end)
      → entries_read version left bytes at ≡ entries_after (entry ∷ []) (entries_read version (left - 1) bytes end)
  entries_read-more zero at entry end more is = absurd (omega arith)
  entries_read-more (suc left) at entry end more is = let one : suc left - 1 ≡ left = omega arith in rw (is, one) (after_one entry (entries_read version left bytes end))

  -- the reader comes to a fault,
  pub entries_read-broken : (whole : Result (List ReadEntryValue × ℕ) (ℕ × ReportKind)) (earlier : List ReadEntryValue) (left at : ℕ) (fault : ℕ × ReportKind) → 0 < left
      → whole ≡ entries_after earlier (entries_read version left bytes at) → entry_read version bytes at ≡ Err fault → whole ≡ Err fault
  entries_read-broken whole earlier left at fault more so_far is = so_far ∙ ap (entries_after earlier) (entries_read-fault left at fault more is)

  -- to one more,
  pub entries_read-turn : (whole : Result (List ReadEntryValue × ℕ) (ℕ × ReportKind)) (earlier : List ReadEntryValue) (left at : ℕ) (entry : ReadEntryValue) (end : ℕ) → 0 < left
      → whole ≡ entries_after earlier (entries_read version left bytes at) → entry_read version bytes at ≡ Ok (entry, end) → whole ≡ entries_after (earlier ++ entry ∷ []) (entries_read version (left - 1) bytes end)
  entries_read-turn whole earlier left at entry end more so_far is =
      so_far ∙ ap (entries_after earlier) (entries_read-more left at entry end more is) ∙ sym (entries_after-append earlier (entry ∷ []) (entries_read version (left - 1) bytes end))

  -- and to the end
  pub entries_read-end : (whole : Result (List ReadEntryValue × ℕ) (ℕ × ReportKind)) (entries : List ReadEntryValue) (left at : ℕ) → left ≡ 0
      → whole ≡ entries_after entries (entries_read version left bytes at) → whole ≡ Ok (entries, at)
  entries_read-end whole entries zero at none so_far = so_far ∙ ap (λ es. Ok (es, at)) (append-nil entries)
  entries_read-end whole entries (suc left) at none so_far = absurd (omega arith)

-- ---- the end

module _ (bytes : List ℕ) (at : ℕ) where
  pub end_read-missing : None ≡ text_after (line_of (codes "end")) (take (length bytes - at) (drop at bytes)) → end_read bytes at ≡ Err (line_number bytes at, kinds.End)
  unfolding end_read
  end_read-missing is = let here : None ≡ text_after (line_of (codes "end")) (drop at bytes) = is ∙ ap (text_after (line_of (codes "end"))) (take_rest bytes at) in rw (← here) refl

  pub end_read-done : (rest : List ℕ) → length rest < 1 → Some rest ≡ text_after (line_of (codes "end")) (take (length bytes - at) (drop at bytes)) → end_read bytes at ≡ Ok tt
  unfolding end_read
  end_read-done [] none is = let here : Some [] ≡ text_after (line_of (codes "end")) (drop at bytes) = is ∙ ap (text_after (line_of (codes "end"))) (take_rest bytes at) in rw (← here) refl
  end_read-done (byte ∷ rest) none is = absurd (omega arith)

  pub end_read-more : (rest : List ℕ) → 1 ≤ length rest → Some rest ≡ text_after (line_of (codes "end")) (take (length bytes - at) (drop at bytes)) → end_read bytes at ≡ Err (line_number bytes (at + 4), kinds.End)
  unfolding end_read
  end_read-more [] some is = absurd (omega arith)
  end_read-more (byte ∷ rest) some is = let here : Some (byte ∷ rest) ≡ text_after (line_of (codes "end")) (drop at bytes) = is ∙ ap (text_after (line_of (codes "end"))) (take_rest bytes at) in rw (← here) refl

-- ---- the whole below the version

module _ (version : Version) (bytes : List ℕ) where
  pub below_read-head_fault : (found : ℕ × ReportKind) → head_read bytes ≡ Err found → below_read version bytes ≡ Err found
  unfolding below_read
  below_read-head_fault found is = rw is refl

  module _ (head : Head) (is : head_read bytes ≡ Ok head) where
    pub below_read-front_fault : (found : ℕ × ReportKind) → entries_read version head.vectors bytes head.next ≡ Err found → below_read version bytes ≡ Err found
    unfolding below_read
    below_read-front_fault found front = rw (is, front) refl

    module _ (entries : List ReadEntryValue) (at : ℕ) (front : entries_read version head.vectors bytes head.next ≡ Ok (entries, at)) where
      pub below_read-no_card : (found : ℕ × ReportKind) → expected kinds.Card bytes at (said_at (card_said version) bytes at) ≡ Err found → below_read version bytes ≡ Err found
      unfolding below_read
      below_read-no_card found said = rw (is, front, said) refl

      module _ (named : ℕ × ℕ) (next : ℕ) (said : expected kinds.Card bytes at (said_at (card_said version) bytes at) ≡ Ok (named, next)) where
        pub below_read-end_fault : (found : ℕ × ReportKind) → end_read bytes next ≡ Err found → below_read version bytes ≡ Err found
        unfolding below_read
        below_read-end_fault found end = rw (is, front, said, end) refl

        pub below_read-whole : (done : Unit {0}) → end_read bytes next ≡ Ok done
            → below_read version bytes ≡ Ok (record { version = version; head = take head.place bytes; moves = head.moves; entries = entries; card = named.0; weight = named.1 })
        unfolding below_read
        below_read-whole done end = rw (is, front, said, end) refl
