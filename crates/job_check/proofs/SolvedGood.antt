-- What `solve` writes at a root is found good.
use Rattle.std.proofs.Common.{◌≡◌, ◌≤◌, ◌<◌, ◌+◌, ◌^◌, ℕ, zero, suc, true, None, Ok, List, [], ◌∷◌, ◌++◌, length, map, sum, flat_map, codes, All, Contains, bytes_eq, refl, sym, ap, ◌∙◌, length-append, arith}
use Rattle.std.proofs.lemmas.List.{length-map}
use Rattle.std.proofs.lemmas.List.Sorted.{length_permutation}
use Rattle.std.proofs.lemmas.Slice.Eq.{bytes_eq-Decides}
use Rattle.byte_text.specs.Lines.{line_of}
use Rattle.bit_letters.specs.Bits.{bit_letter}
use Rattle.card_sets.proofs.Sets.{IsCardSet-cards_where, has_card-below}
use Rattle.win_vectors.specs.Weights.{weight_of, IsWeight}
use Rattle.win_vectors.proofs.WeightLemmas.{weight_of-most}
use Rattle.trick_rules.specs.Nodes.{NodeValue, IsNode, choices, most_moves}
use Rattle.job_words.specs.declared.asks.LayoutsJob.TheVariants as jobs
use Rattle.job_words.specs.Asks.{IsMoves}
use Rattle.strategy_games.specs.Choosing.{IsNamedByWeight, IsBestWeight, HasMeasure}
use Rattle.strategy_games.proofs.Lists.{All-from, Contains-here, Contains-there, first_is_member}
use Rattle.strategy_tree.specs.Bridge.{bridge}
use Rattle.strategy_tree.specs.PlanText.{plan_text}
use Rattle.strategy_tree.proofs.BridgeLaws as laws
use Rattle.strategy_tree.proofs.CardLists.{has_card-from_Contains}
use Rattle.strategy_tree.proofs.Printing.{printed_plan}
use Rattle.strategy_check.specs.declared.verdict.Verdict.TheVariants.{Good}
use Rattle.strategy_check.proofs.Compared.{length-wins_vector}
use Rattle.am_report.specs.Answers.{SolveAnswerValue, EntryValue}
use Rattle.am_report.specs.Head.{head_text}
use Rattle.am_report.specs.Solve.{vector_line, entry_text, solve_start, solve_end, solve_text}
use Rattle.am_report.specs.Versions.{version_of, weight_text}
use Rattle.am_report.specs.Reading.{report_read}
use Rattle.am_report.specs.ReadBack.{ArePrintableWeights, IsPrintableEntry, IsPrintable, printed_entry, printed_report}
use Rattle.am_report.proofs.ReportReadBack.{solve_text-read}
use Rattle.am_answer.specs.declared.root.Root.{Root}
use Rattle.am_answer.specs.Answers.{task_at}
use Rattle.am_answer.specs.Tasks as tasks
use Rattle.am_answer.specs.Judging.{entry_fault, first_plan_fault, judged, plans_in}
use Rattle.am_answer.specs.Reports.{IsSolveAnswer, IsSolveText}
use Rattle.job_check.proofs.Judged.{entry_fault-verdict}
use Rattle.job_check.proofs.PrintedPlans.{plan-wins}

-- ---- the card and the weight

module _ (weights : List ℕ) (n : NodeValue) where
  named-below : (moves card : ℕ) → IsNamedByWeight bridge weights n moves card → card < 52
  named-below zero card is = absurd is
  named-below (suc moves) card (best, most, first) =
      has_card-below (choices n) card (IsCardSet-cards_where _)
      (has_card-from_Contains (choices n) card (first_is_member (λ d. HasMeasure bridge (weight_of weights) (bridge.child n d) moves best) (choices n) card first))

  weight-below : (moves weight : ℕ) → IsBestWeight bridge weights n moves weight → weight ≤ sum weights
  weight-below moves weight ((front, is, vector, inside, weighs), most) = omega (arith, weighs, weight_of-most weights vector)

-- ---- the plans

filled_length : {X : Type 0} (xs : List X) → (xs ≡ [] → ⊥) → 1 ≤ length xs
filled_length [] filled = absurd (filled refl)
filled_length (x ∷ xs) filled = omega arith

module _ (node : NodeValue) (weights : List ℕ) (moves : ℕ) where
  no_first_fault : (number : ℕ) (entries : List EntryValue) → ((entry : EntryValue) → Contains entries entry → entry_fault node weights moves (printed_entry weights entry) ≡ None)
      → first_plan_fault node weights moves number (map (printed_entry weights) entries) ≡ None
  no_first_fault number [] good = refl
  no_first_fault number (entry ∷ entries) good =
      rw (good entry (Contains-here entry entries)) (no_first_fault (number + 1) entries (λ e among. good e (Contains-there entry entries e among)))

module _ (n : NodeValue) (weights : List ℕ) (moves : ℕ) (found : SolveAnswerValue) (node : IsNode n) (weighed : length weights ≡ length n.lefts) (each : All IsWeight weights)
    (is : IsSolveAnswer n weights moves found) where
  width : (entry : EntryValue) → Contains found.entries entry → length entry.vector ≡ length n.lefts
  width entry among = ap length (sym (plan-wins n weights moves found entry node is among).1) ∙ length-wins_vector entry.plan n

  entry-good : (entry : EntryValue) → Contains found.entries entry → entry_fault n weights moves (printed_entry weights entry) ≡ None
  entry-good entry among = sym (entry_fault-verdict n weights moves (printed_entry weights entry) Good (width entry among) refl (plan-wins n weights moves found entry node is among))

  entry-printable : (entry : EntryValue) → Contains found.entries entry → IsPrintableEntry (length weights) entry
  entry-printable entry among =
      let printed = printed_plan entry.plan n moves node (plan-wins n weights moves found entry node is among).0 in
      record { width = width entry among ∙ sym weighed; plan = record { levels = printed.0; replies = printed.1; cards = printed.2 } }

  weights-printable : ArePrintableWeights weights
  weights-printable = record { some_layouts = omega (arith, weighed, node.some); few_layouts = omega (arith, weighed, node.few); each = each }

  some_entries : 1 ≤ length found.entries
  some_entries =
      let vectors = map (λ (e : EntryValue). e.vector) found.entries in
      omega (
        arith,
        filled_length is.vectors.front (laws.one_front.filled n moves is.vectors.front node is.vectors.is_front),
        length_permutation is.vectors.front vectors is.vectors.same,
        length-map found.entries (λ (e : EntryValue). e.vector),
      )

  answer-printable : 1 ≤ moves → moves ≤ most_moves → length found.entries < 2 ^ 32 → IsPrintable weights moves found
  answer-printable some few vectors = record {
    layouts = weights-printable;
    some_moves = some;
    few_moves = few;
    some_vectors = some_entries;
    few_vectors = vectors;
    entries = All-from (IsPrintableEntry (length weights)) found.entries entry-printable;
    card = named-below weights n moves found.card is.card;
    weight = weight-below weights n moves found.weight is.weight;
  }

-- ---- the report

module _ (root : Root) (moves : ℕ) (found : SolveAnswerValue) where
  judged-printed : first_plan_fault root.kept.node root.kept.weights moves 1 (map (printed_entry root.kept.weights) found.entries) ≡ None
      → judged root (printed_report root.board root.kept moves found) ≡ Ok (length found.entries)
  unfolding judged
  judged-printed good =
      let head = head_text root.board root.kept moves in
      let same : bytes_eq head head ≡ true = (bytes_eq-Decides head head).1 refl in
      rw (same, good, length-map found.entries (printed_entry root.kept.weights)) refl

  plans_in-read : (text : List ℕ) → report_read text ≡ Ok (printed_report root.board root.kept moves found)
      → plans_in root text ≡ judged root (printed_report root.board root.kept moves found)
  unfolding plans_in
  plans_in-read text read = rw read refl

  pub solved-good : IsNode root.kept.node → length root.kept.weights ≡ length root.kept.node.lefts → All IsWeight root.kept.weights → IsMoves moves
      → IsSolveAnswer root.kept.node root.kept.weights moves found → length found.entries < 2 ^ 32 → plans_in root (solve_text root.board root.kept moves found) ≡ Ok (length found.entries)
  solved-good node weighed each (some, few) is vectors =
      let n = root.kept.node in
      let weights = root.kept.weights in
      plans_in-read (solve_text root.board root.kept moves found)
      (solve_text-read root.board root.kept moves found (answer-printable n weights moves found node weighed each is some few vectors))
      ∙ judged-printed (no_first_fault n weights moves 1 found.entries (entry-good n weights moves found node weighed each is))

-- ---- by the length of the text

-- each vector with its plan takes a byte at least
entry_filled : (weights : List ℕ) (entry : EntryValue) → 1 ≤ length (entry_text weights entry)
unfolding entry_text vector_line
entry_filled weights entry =
    let words = codes "vector " ++ map bit_letter entry.vector ++ weight_text (version_of weights) (weight_of weights entry.vector) in
    let whole : length (entry_text weights entry) ≡ length (line_of words) + length (plan_text entry.plan) = length-append (line_of words) (plan_text entry.plan) in
    let line : length (line_of words) ≡ length words + 1 = length-append words (10 ∷ []) in
    omega (arith, whole, line)

no_fewer_bytes : (weights : List ℕ) (entries : List EntryValue) → length entries ≤ length (flat_map (entry_text weights) entries)
no_fewer_bytes weights [] = omega arith
no_fewer_bytes weights (entry ∷ entries) =
    let later = flat_map (entry_text weights) entries in
    let whole : length (flat_map (entry_text weights) (entry ∷ entries)) ≡ length (entry_text weights entry) + length later = length-append (entry_text weights entry) later in
    omega (arith, entry_filled weights entry, no_fewer_bytes weights entries, whole)

few_entries : (root : Root) (moves : ℕ) (found : SolveAnswerValue) → length found.entries ≤ length (solve_text root.board root.kept moves found)
unfolding solve_text
few_entries root moves found =
    let start = solve_start root.board root.kept moves (length found.entries) in
    let lines = flat_map (entry_text root.kept.weights) found.entries in
    let end = solve_end root.kept.weights found.card found.weight in
    let whole : length (solve_text root.board root.kept moves found) ≡ length (start ++ lines) + length end = length-append (start ++ lines) end in
    omega (arith, no_fewer_bytes root.kept.weights found.entries, length-append start lines, whole)

module _ (root : Root) (moves : ℕ) (report : List ℕ) where
  task-read : (plans : ℕ) → plans_in root report ≡ Ok plans → task_at root (jobs.Check report) ≡ Ok (tasks.Check plans)
  unfolding task_at
  task-read plans good = rw good refl

  pub text-good : IsNode root.kept.node → length root.kept.weights ≡ length root.kept.node.lefts → All IsWeight root.kept.weights → IsMoves moves
      → IsSolveText root moves report → length report < 2 ^ 32 → (plans : ℕ) × (task_at root (jobs.Check report) ≡ Ok (tasks.Check plans))
  text-good node weighed each some (found, is, written) within =
      let few : length found.entries < 2 ^ 32 = omega (arith, few_entries root moves found, ap length written, within) in
      (length found.entries, task-read (length found.entries) (ap (plans_in root) written ∙ solved-good root moves found node weighed each some is few))
