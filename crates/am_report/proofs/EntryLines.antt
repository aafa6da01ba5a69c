-- The front of a report, the card and the end, line by line.
use Rattle.std.proofs.Common.{◌≡◌, ℕ, suc, ◌+◌, ◌^◌, ◌<◌, ◌≤◌, Bool, true, false, ◌&&◌, ◌==◌, nat_le, if◌then◌else◌, Option, Some, None, Ok, List, [], ◌∷◌, ◌++◌, length, take, drop, map, flat_map, get_or, codes, All, refl, sym, ap, subst, ◌∙◌, arith, append_assoc, append-nil}
use Rattle.std.specs.List.{list_all, range_with_len, position_or_len}
use Rattle.std.specs.Fmt.{decimal}
use Rattle.std.proofs.lemmas.Bool.{false≢true}
use Rattle.std.proofs.lemmas.Bool.Decides.{Decides-eqb}
use Rattle.std.proofs.lemmas.List.{drop_at, take_at, length-map}
use Rattle.std.proofs.lemmas.List.Elements.{All-head, All-tail}
use Rattle.std.proofs.lemmas.List.Folds.{list_all_at}
use Rattle.std.proofs.lemmas.List.FromFn.{get_or-range_with_len, length-range_with_len}
use Rattle.win_vectors.specs.Weights.{weight_of}
use Rattle.win_vectors.proofs.WeightLemmas.{weight_of-most}
use Rattle.card_letters.specs.Letters.{letters_of, card_read}
use Rattle.strategy_games.specs.Plans.{Plan}
use Rattle.byte_text.specs.Lines.{line_of, said_at}
use Rattle.strategy_tree.specs.PlanText.{plan_text}
use Rattle.strategy_tree.specs.PlanRead.{plan_read}
use Rattle.strategy_tree.proofs.ReadBack.{reads_back}
use Rattle.am_report.specs.declared.fault.ReportKind.TheVariants as kinds
use Rattle.layout_list.specs.Lines.{most_listed}
use Rattle.am_report.specs.declared.version.Version.{Version}
use Rattle.am_report.specs.declared.version.Version.TheVariants.{Counts, Weights}
use Rattle.am_report.specs.Versions.{version_of, most_written, may_stand, weight_text}
use Rattle.am_report.specs.Answers.{EntryValue, ReadEntryValue}
use Rattle.am_report.specs.Card.{named_text}
use Rattle.am_report.specs.Solve.{vector_line, entry_text}
use Rattle.am_report.specs.ReportLines.{ends_bits, front_said, weight_said, weighed, bits_said, vector_said, card_said}
use Rattle.am_report.specs.Reading.{expected, entry_read, entries_read}
use Rattle.am_report.specs.ReadBack.{IsPrintablePlan, ArePrintableWeights, IsPrintableEntry, printed_entry}
use Rattle.byte_text.proofs.ReadNumbers.{le_true, number_within-decimal}
use Rattle.byte_text.proofs.PlainLines.{is_plain, plain_both, decimal_plain, said_at-here}
use Rattle.bit_letters.specs.Bits.{bit_letter, is_one}
use Rattle.bit_letters.proofs.Written.{bits_back}
use Rattle.am_report.proofs.PlainTexts.{card_text_plain}
use Rattle.am_report.proofs.Versions.{sum_written, weight_stands, weight_plain}
use Rattle.am_report.proofs.ReportSteps.{entry_read-plan}
use Rattle.strategy_tree.proofs.BelowLimit.{is_number, number_is, below_limit}

-- ---- the number of vectors

pub front_is_said : (vectors : ℕ) → 1 ≤ vectors → vectors < 2 ^ 32 → front_said (codes "front " ++ decimal vectors) ≡ Some vectors
unfolding front_said
front_is_said vectors low high = number_within-decimal 1 4294967295 vectors low (omega arith) (omega arith)

pub front_plain : (vectors : ℕ) → is_plain (codes "front " ++ decimal vectors) ≡ true
front_plain vectors = plain_both (codes "front ") (decimal vectors) refl (decimal_plain vectors)

-- ---- counts and weights

weight_is_said : (version : Version) (weight : ℕ) → weight ≤ most_written version → weight_said version (weight_text version weight) ≡ Some weight
unfolding weight_said
weight_is_said Counts weight high = number_within-decimal 0 256 weight (omega arith) high (omega arith)
weight_is_said Weights weight high = number_within-decimal 0 256000000 weight (omega arith) high (omega arith)

-- ---- vectors

bits_plain : (vector : List Bool) → is_plain (map bit_letter vector) ≡ true
bits_plain [] = refl
bits_plain (true ∷ vector) = bits_plain vector
bits_plain (false ∷ vector) = bits_plain vector

bits_end : (vector : List Bool) (text : List ℕ) → position_or_len ends_bits (map bit_letter vector ++ 32 ∷ text) ≡ length vector
bits_end [] text = refl
bits_end (true ∷ vector) text = omega (arith, bits_end vector text)
bits_end (false ∷ vector) text = omega (arith, bits_end vector text)

weight_ends : (version : Version) (vector : List Bool) (weight : ℕ) → position_or_len ends_bits (map bit_letter vector ++ weight_text version weight) ≡ length vector
weight_ends Counts vector weight = bits_end vector (codes "count " ++ decimal weight)
weight_ends Weights vector weight = bits_end vector (codes "weight " ++ decimal weight)

module _ (version : Version) (vector : List Bool) (weight : ℕ) where
  -- the vector and its weight, as a line has them
  abbrev pub vector_words : List ℕ
  vector_words = codes "vector " ++ map bit_letter vector ++ weight_text version weight

  vector_weighed : may_stand version vector weight ≡ true → weight ≤ most_written version → weighed version vector (weight_text version weight) ≡ Some (vector, weight)
  vector_weighed stands high = rw (weight_is_said version weight high, stands) refl

  bits_are_said : 1 ≤ length vector → length vector ≤ most_listed → may_stand version vector weight ≡ true → weight ≤ most_written version
      → bits_said version (map bit_letter vector ++ weight_text version weight) ≡ Some (vector, weight)
  unfolding bits_said
  bits_are_said some few stands high =
      let bits = map bit_letter vector in
      let behind = weight_text version weight in
      let size = length-map vector bit_letter in
      let one = le_true 1 (length vector) some in
      let most = le_true (length vector) most_listed few in
      ap (λ n. if nat_le 1 n && nat_le n most_listed then weighed version (map is_one (take n (bits ++ behind))) (drop n (bits ++ behind)) else None) (weight_ends version vector weight)
      ∙ rw (one, most, take_at bits behind (length vector) size, drop_at bits behind (length vector) size, bits_back vector) (vector_weighed stands high)

  pub vector_is_said : 1 ≤ length vector → length vector ≤ most_listed → may_stand version vector weight ≡ true → weight ≤ most_written version
      → vector_said version vector_words ≡ Some (vector, weight)
  unfolding vector_said
  vector_is_said some few stands high = bits_are_said some few stands high

  pub vector_plain : is_plain vector_words ≡ true
  vector_plain =
      let bits = codes "vector " ++ map bit_letter vector in
      plain_both bits (weight_text version weight) (plain_both (codes "vector ") (map bit_letter vector) refl (bits_plain vector)) (weight_plain version weight)

-- ---- a vector with its plan

-- behind one part, and then behind the next
pub part : (before first second rest bytes : List ℕ) → bytes ≡ before ++ ((first ++ second) ++ rest) → (bytes ≡ before ++ (first ++ (second ++ rest))) × (bytes ≡ (before ++ first) ++ (second ++ rest))
part before first second rest bytes are =
    let here = are ∙ ap (λ more. before ++ more) (append_assoc first second rest) in (here, here ∙ sym (append_assoc before first (second ++ rest)))

plan_read-here : (plan : Plan ℕ) (bytes before rest : List ℕ) → IsPrintablePlan plan → bytes ≡ before ++ (plan_text plan ++ rest) → plan_read bytes (length before) ≡ Ok (plan, length (before ++ plan_text plan))
plan_read-here plan bytes before rest printable are =
    rw are (subst (λ text. plan_read text (length before) ≡ Ok (plan, length (before ++ plan_text plan))) (append_assoc before (plan_text plan) rest) (reads_back plan before rest printable.levels printable.replies printable.cards))

entries_read-entry : (version : Version) (bytes : List ℕ) (at next end count : ℕ) (entry : ReadEntryValue) (later : List ReadEntryValue) → entry_read version bytes at ≡ Ok (entry, next)
    → entries_read version count bytes next ≡ Ok (later, end) → entries_read version (suc count) bytes at ≡ Ok (entry ∷ later, end)
entries_read-entry version bytes at next end count entry later first more = rw (first, more) refl

module _ (weights : List ℕ) (are : ArePrintableWeights weights) where
  entry_read-here : (entry : EntryValue) (bytes before rest : List ℕ) → IsPrintableEntry (length weights) entry → bytes ≡ before ++ (entry_text weights entry ++ rest)
      → entry_read (version_of weights) bytes (length before) ≡ Ok (printed_entry weights entry, length (before ++ entry_text weights entry))
  unfolding entry_text vector_line
  entry_read-here entry bytes before rest printable is =
      let version = version_of weights in
      let weight = weight_of weights entry.vector in
      let line = vector_words version entry.vector weight in
      let wide = printable.width in
      let stands = weight_stands weights entry.vector wide in
      let high : weight ≤ most_written version = omega (arith, weight_of-most weights entry.vector, sum_written weights are) in
      let parts = part before (line_of line) (plan_text entry.plan) rest bytes is in
      let said : expected kinds.Vector bytes (length before) (said_at (vector_said version) bytes (length before)) ≡ Ok ((entry.vector, weight), length (before ++ line_of line)) =
      ap (λ text. expected kinds.Vector text (length before) (said_at (vector_said version) text (length before))) parts.0
      ∙ ap (expected kinds.Vector (before ++ (line_of line ++ (plan_text entry.plan ++ rest))) (length before))
      (said_at-here (vector_said version) before line (plan_text entry.plan ++ rest) (entry.vector, weight) (vector_plain version entry.vector weight)
      (vector_is_said version entry.vector weight (omega (arith, are.some_layouts, wide)) (omega (arith, are.few_layouts, wide)) stands high)) in
      entry_read-plan version bytes (length before) entry.vector weight (length (before ++ line_of line)) entry.plan (length ((before ++ line_of line) ++ plan_text entry.plan)) said
      (plan_read-here entry.plan bytes (before ++ line_of line) rest printable.plan parts.1)
      ∙ ap (λ text. Ok (printed_entry weights entry, length text)) (append_assoc before (line_of line) (plan_text entry.plan))

  -- the front's vectors with their plans
  pub entries_read-here : (entries : List EntryValue) (bytes before rest : List ℕ) → All (IsPrintableEntry (length weights)) entries → bytes ≡ before ++ (flat_map (entry_text weights) entries ++ rest)
      → entries_read (version_of weights) (length entries) bytes (length before) ≡ Ok (map (printed_entry weights) entries, length (before ++ flat_map (entry_text weights) entries))
  entries_read-here [] bytes before rest printable is = ap (λ text. Ok ([], length text)) (sym (append-nil before))
  entries_read-here (entry ∷ entries) bytes before rest printable is =
      let text = entry_text weights entry in
      let more = flat_map (entry_text weights) entries in
      let parts = part before text more rest bytes is in
      let here = entry_read-here entry bytes before (more ++ rest) (All-head (IsPrintableEntry (length weights)) entry entries printable) parts.0 in
      let later = entries_read-here entries bytes (before ++ text) rest (All-tail (IsPrintableEntry (length weights)) entry entries printable) parts.1 in
      entries_read-entry (version_of weights) bytes (length before) (length (before ++ text)) (length ((before ++ text) ++ more)) (length entries) (printed_entry weights entry) (map (printed_entry weights) entries) here later
      ∙ ap (λ text. Ok (printed_entry weights entry ∷ map (printed_entry weights) entries, length text)) (append_assoc before text more)

-- ---- the card to play

-- the card that two letters at the front name
abbrev card_ahead : List ℕ → Option ℕ
card_ahead (suit ∷ rank ∷ text) = card_read suit rank
card_ahead _ = None

reads_each_card : list_all (λ card. is_number (card_ahead (letters_of card)) card) (range_with_len 0 52) ≡ true
reads_each_card = refl

card_ahead-card_text : (card : ℕ) → card < 52 → card_ahead (letters_of card) ≡ Some card
card_ahead-card_text card low = number_is _ card (below_limit (λ c. is_number (card_ahead (letters_of c)) c) 52 card reads_each_card low)

pub card_is_said : (version : Version) (card weight : ℕ) → card < 52 → weight ≤ most_written version → card_said version (named_text version card weight) ≡ Some (card, weight)
unfolding card_said named_text
card_is_said version card weight low few = rw (card_ahead-card_text card low, weight_is_said version weight few) refl

pub card_plain : (version : Version) (card weight : ℕ) → is_plain (named_text version card weight) ≡ true
unfolding named_text
card_plain version card weight =
    plain_both (codes "card ") (letters_of card ++ weight_text version weight) refl (plain_both (letters_of card) (weight_text version weight) (card_text_plain card) (weight_plain version weight))
