-- What is written of an answer is read back.
use Rattle.std.proofs.Common.{◌≡◌, ℕ, ◌^◌, ◌<◌, ◌≤◌, Some, Ok, List, [], ◌∷◌, ◌++◌, length, take, drop, map, flat_map, codes, refl, sym, ap, ◌∙◌, arith, append_assoc}
use Rattle.std.specs.Fmt.{decimal}
use Rattle.std.proofs.lemmas.List.{drop_at, take_at}
use Rattle.pbn_deal.specs.Boards.{BoardValue}
use Rattle.layout_list.specs.Kept.{KeptValue}
use Rattle.byte_text.specs.Lines.{line_of, said_at}
use Rattle.am_report.specs.declared.fault.ReportKind.TheVariants as kinds
use Rattle.am_report.specs.Answers.{ReadEntryValue, SolveAnswerValue}
use Rattle.am_report.specs.declared.version.Version.{Version}
use Rattle.am_report.specs.declared.version.Version.TheVariants.{Counts, Weights}
use Rattle.am_report.specs.Versions.{version_of, version_number, most_written, weights_line}
use Rattle.am_report.specs.Card.{named_text}
use Rattle.am_report.specs.Head.{position_text, kept_line, dropped_line, head_text}
use Rattle.am_report.specs.Solve.{entry_text, solve_start, solve_end, solve_text}
use Rattle.am_report.specs.ReportLines.{front_said, card_said}
use Rattle.am_report.specs.Reading.{expected, version_said, front_place, moves_of_head, head_said, head_read, end_read, below_read, report_read}
use Rattle.am_report.specs.ReadBack.{IsPrintable, printed_entry, printed_report}
use Rattle.am_report.proofs.Versions.{sum_written}
use Rattle.am_report.proofs.HeadLines.{moves_of_head-head_text, front_place-head_text}
use Rattle.byte_text.proofs.PlainLines.{said_at-here}
use Rattle.am_report.proofs.EntryLines.{front_is_said, front_plain, entries_read-here, card_is_said, card_plain}
use Rattle.am_report.proofs.ReportSteps.{below_read-whole}

-- the head above the front, with the moves and the number of vectors
head_read-here : (bytes head rest : List ℕ) (moves vectors : ℕ) → bytes ≡ head ++ (line_of (codes "front " ++ decimal vectors) ++ rest) → front_place bytes ≡ Some (length head) → moves_of_head head ≡ Some moves
    → 1 ≤ vectors → vectors < 2 ^ 32
    → head_read bytes ≡ Ok (record { place = length head; moves = moves; vectors = vectors; next = length (head ++ line_of (codes "front " ++ decimal vectors)) })
unfolding head_read head_said
head_read-here bytes head rest moves vectors are place said some few =
    let line = codes "front " ++ decimal vectors in
    let above : take (length head) bytes ≡ head = ap (take (length head)) are ∙ take_at head (line_of line ++ rest) (length head) refl in
    let front : said_at front_said bytes (length head) ≡ Some (vectors, length (head ++ line_of line)) =
    ap (λ text. said_at front_said text (length head)) are ∙ said_at-here front_said head line rest vectors (front_plain vectors) (front_is_said vectors some few) in
    rw (place, above, said, front) refl

-- the last line
end_read-here : (bytes before : List ℕ) → bytes ≡ before ++ line_of (codes "end") → end_read bytes (length before) ≡ Ok tt
unfolding end_read
end_read-here bytes before are =
    let last : drop (length before) bytes ≡ line_of (codes "end") = ap (drop (length before)) are ∙ drop_at before (line_of (codes "end")) (length before) refl in
    rw last refl

-- the text begins with the version
version_is_said : (version : Version) (rest : List ℕ) → version_said (line_of (codes "alphamu report " ++ version_number version) ++ rest) ≡ Some version
unfolding version_said
version_is_said Counts rest = refl
version_is_said Weights rest = refl

after_version : (a b c d e f rest : List ℕ) → (a ++ b ++ c ++ d ++ e ++ f) ++ rest ≡ a ++ ((b ++ c ++ d ++ e ++ f) ++ rest)
after_version a b c d e f rest = simp append_assoc

version_first : (board : BoardValue) (kept : KeptValue) (moves : ℕ) (rest : List ℕ) → version_said (head_text board kept moves ++ rest) ≡ Some (version_of kept.weights)
unfolding head_text
version_first board kept moves rest =
    let version = version_of kept.weights in
    let position = position_text board kept.node.position in
    let line = line_of (codes "moves " ++ decimal moves) in
    let weights = weights_line version kept.weights in
    let dropped = flat_map dropped_line kept.dropped in
    ap version_said (after_version (line_of (codes "alphamu report " ++ version_number version)) position line (kept_line kept.numbers) weights dropped rest)
    ∙ version_is_said version ((position ++ line ++ kept_line kept.numbers ++ weights ++ dropped) ++ rest)

read_below : (bytes : List ℕ) (version : Version) → version_said bytes ≡ Some version → report_read bytes ≡ below_read version bytes
unfolding report_read
read_below bytes version said = rw said refl

five_pieces : (a b c d e : List ℕ) → (a ++ b) ++ c ++ (d ++ e) ≡ a ++ (b ++ (c ++ (d ++ e)))
five_pieces a b c d e = simp append_assoc

module _ (board : BoardValue) (kept : KeptValue) (moves : ℕ) (answer : SolveAnswerValue) (printable : IsPrintable kept.weights moves answer) where
  -- the parts of the report
  abbrev version : Version
  version = version_of kept.weights

  abbrev head : List ℕ
  head = head_text board kept moves

  abbrev front : List ℕ
  front = line_of (codes "front " ++ decimal (length answer.entries))

  abbrev plans : List ℕ
  plans = flat_map (entry_text kept.weights) answer.entries

  abbrev card : List ℕ
  card = line_of (named_text version answer.card answer.weight)

  abbrev last : List ℕ
  last = line_of (codes "end")

  abbrev whole : List ℕ
  whole = head ++ (front ++ (plans ++ (card ++ last)))

  abbrev entries : List ReadEntryValue
  entries = map (printed_entry kept.weights) answer.entries

  behind_front : whole ≡ (head ++ front) ++ (plans ++ (card ++ last))
  behind_front = sym (append_assoc head front (plans ++ (card ++ last)))

  behind_plans : whole ≡ ((head ++ front) ++ plans) ++ (card ++ last)
  behind_plans = behind_front ∙ sym (append_assoc (head ++ front) plans (card ++ last))

  behind_card : whole ≡ (((head ++ front) ++ plans) ++ card) ++ last
  behind_card = behind_plans ∙ sym (append_assoc ((head ++ front) ++ plans) card last)

  front_begins : front_place whole ≡ Some (length head)
  front_begins =
      ap (λ more. front_place (head ++ more)) (ap (λ more. more ++ (plans ++ (card ++ last))) (append_assoc (codes "front ") (decimal (length answer.entries)) (10 ∷ [])) ∙ append_assoc (codes "front ") (decimal (length answer.entries) ++ 10 ∷ []) (plans ++ (card ++ last)))
      ∙ front_place-head_text board kept moves ((decimal (length answer.entries) ++ 10 ∷ []) ++ (plans ++ (card ++ last)))

  card_is_named : expected kinds.Card whole (length ((head ++ front) ++ plans)) (said_at (card_said version) whole (length ((head ++ front) ++ plans))) ≡ Ok ((answer.card, answer.weight), length (((head ++ front) ++ plans) ++ card))
  card_is_named =
      let high : answer.weight ≤ most_written version = omega (arith, printable.weight, sum_written kept.weights printable.layouts) in
      ap (λ text. expected kinds.Card text (length ((head ++ front) ++ plans)) (said_at (card_said version) text (length ((head ++ front) ++ plans)))) behind_plans
      ∙ ap (expected kinds.Card (((head ++ front) ++ plans) ++ (card ++ last)) (length ((head ++ front) ++ plans)))
      (said_at-here (card_said version) ((head ++ front) ++ plans) (named_text version answer.card answer.weight) last (answer.card, answer.weight) (card_plain version answer.card answer.weight) (card_is_said version answer.card answer.weight printable.card high))

  below : below_read version whole ≡ Ok (record { version = version; head = take (length head) whole; moves = moves; entries = entries; card = answer.card; weight = answer.weight })
  below =
      below_read-whole version whole _ (head_read-here whole head (plans ++ (card ++ last)) moves (length answer.entries) refl front_begins (moves_of_head-head_text board kept moves printable.some_moves printable.few_moves) printable.some_vectors printable.few_vectors)
      entries (length ((head ++ front) ++ plans)) (entries_read-here kept.weights printable.layouts answer.entries whole (head ++ front) (card ++ last) printable.entries behind_front)
      (answer.card, answer.weight) (length (((head ++ front) ++ plans) ++ card)) card_is_named tt (end_read-here whole (((head ++ front) ++ plans) ++ card) behind_card)

  solve_text-parts : solve_text board kept moves answer ≡ whole
  unfolding solve_text solve_start solve_end
  solve_text-parts = five_pieces head front plans card last

  pub solve_text-read : report_read (solve_text board kept moves answer) ≡ Ok (printed_report board kept moves answer)
  solve_text-read =
      ap report_read solve_text-parts
      ∙ read_below whole version (version_first board kept moves (front ++ (plans ++ (card ++ last)))) ∙ below
      ∙ ap (λ text. Ok (record { version = version; head = text; moves = moves; entries = entries; card = answer.card; weight = answer.weight })) (take_at head (front ++ (plans ++ (card ++ last))) (length head) refl)
