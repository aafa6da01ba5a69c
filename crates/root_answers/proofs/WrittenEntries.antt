-- A report whose vectors are written with their plans.
use Rattle.std.proofs.Common.{◌≡◌, ◌∙◌, ◌+◌, ◌<◌, ◌++◌, ℕ, Result, Ok, Err, List, [], ◌∷◌, length, take, get_or, refl, sym, ap, ap₂, append_assoc}
use Rattle.std.specs.Prelude.{IfOk}
use Rattle.std.specs.List.{flat_map}
use Rattle.std.proofs.lemmas.Grind.{flat_map-append}
use Rattle.std.proofs.lemmas.List.{append-nil, length-map}
use Rattle.std.proofs.lemmas.List.Concat.{flat_map-cons}
use Rattle.win_vectors.specs.Fronts.{Vector}
use Rattle.trick_rules.specs.Nodes.{NodeValue}
use Rattle.strategy_games.specs.Plans.{Plan}
use Rattle.strategy_games.specs.Choosing.{IsBestWeight, IsNamedByWeight}
use Rattle.strategy_tree.specs.Bridge.{bridge}
use Rattle.strategy_tree.specs.PlanText.{plan_text}
use Rattle.plan_finder.specs.Written.{IsPlanWritten}
use Rattle.am_report.specs.Answers.{EntryValue, SolveAnswerValue}
use Rattle.am_report.specs.Solve.{vector_line, entry_text, solve_start, solve_end, solve_text}
use Rattle.am_answer.specs.declared.root.Root.{Root}
use Rattle.am_answer.specs.ReportOrder.{IsReportedFront}
use Rattle.am_answer.specs.Reports.{IsSolveText}
use Rattle.root_answers.specs.declared.written.WrittenAnswer.{WrittenAnswer}
use Rattle.root_answers.specs.Written.{IsWrittenAnswer}
use Rattle.root_answers.proofs.PlannedVectors.{answered, none_planned, one_more_planned}
use Rattle.root_answers.specs.EntryTexts.{AreEntriesWritten}

-- ---- one vector more

entry_text-is : (weights : List ℕ) (vector : Vector) (plan : Plan ℕ) → entry_text weights (record { vector = vector; plan = plan }) ≡ vector_line weights vector ++ plan_text plan
unfolding entry_text
entry_text-is weights vector plan = refl

regroup : (a b c d : List ℕ) → ((a ++ b) ++ c) ++ d ≡ a ++ (b ++ (c ++ d))
regroup a b c d = simp append_assoc

module _ (n : NodeValue) (weights : List ℕ) (moves : ℕ) (vectors : List Vector) where
  pub none_written : (text : List ℕ) → AreEntriesWritten n weights moves (take 0 vectors) text text
  none_written text = record { entries = []; planned = none_planned n moves vectors [] refl; lines = sym (append-nil text) }

  pub one_more_written : (i : ℕ) (vector : Vector) (before now lined after : List ℕ) → AreEntriesWritten n weights moves (take i vectors) before now → i < length vectors → vector ≡ get_or vectors i vector
      → lined ≡ now ++ vector_line weights vector → IsPlanWritten n moves vector lined after → AreEntriesWritten n weights moves (take (i + 1) vectors) before after
  one_more_written i vector before now lined after w inside is line plan =
      let entry : EntryValue = record { vector = vector; plan = plan.plan } in
      let texts = flat_map (entry_text weights) w.entries in
      let single : flat_map (entry_text weights) (entry ∷ []) ≡ vector_line weights vector ++ plan_text plan.plan =
      flat_map-cons (entry_text weights) entry [] ∙ append-nil (entry_text weights entry) ∙ entry_text-is weights vector plan.plan in
      let more : flat_map (entry_text weights) (w.entries ++ entry ∷ []) ≡ texts ++ (vector_line weights vector ++ plan_text plan.plan) =
      flat_map-append (entry_text weights) w.entries (entry ∷ []) ∙ ap (λ text. texts ++ text) single in
      record {
        entries = w.entries ++ entry ∷ [];
        planned = one_more_planned n moves vectors i vector plan.plan w.entries (w.entries ++ entry ∷ []) w.planned inside is plan.chosen refl;
        lines = plan.lines ∙ ap (λ text. text ++ plan_text plan.plan) (line ∙ ap (λ text. text ++ vector_line weights vector) w.lines) ∙ regroup before texts (vector_line weights vector) (plan_text plan.plan) ∙ ap (λ text. before ++ text) (sym more);
      }

-- ---- the whole

-- the answer that these lines, this card and this weight make
pub written_answer : (n : NodeValue) (weights : List ℕ) (moves : ℕ) (vectors slice : List Vector) (w : WrittenAnswer) → slice ≡ vectors → IsReportedFront n weights moves vectors
    → AreEntriesWritten n weights moves slice [] w.lines → w.vectors ≡ length vectors → IsNamedByWeight bridge weights n moves w.card → IsBestWeight bridge weights n moves w.weight
    → IsWrittenAnswer n weights moves w
written_answer n weights moves vectors slice w same reported written counted named best =
    let answer : SolveAnswerValue = record { entries = written.entries; card = w.card; weight = w.weight } in
    record {
      answer = answer;
      is_answer = answered n weights moves vectors slice answer same reported written.planned named best;
      lines = written.lines;
      vectors = counted ∙ ap (λ (vs : List Vector). length vs) (sym (written.planned.listed ∙ same)) ∙ length-map written.entries (λ (e : EntryValue). e.vector);
      card = refl;
      weight = refl;
    }

-- its text
pub report-is : (root : Root) (moves : ℕ) (w : WrittenAnswer) (text : List ℕ) → IsWrittenAnswer root.kept.node root.kept.weights moves w
    → text ≡ (solve_start root.board root.kept moves w.vectors ++ w.lines) ++ solve_end root.kept.weights w.card w.weight → IsSolveText root moves text
unfolding solve_text
report-is root moves w text is whole = (
  is.answer,
  is.is_answer,
  whole
      ∙ ap (λ count. (solve_start root.board root.kept moves count ++ w.lines) ++ solve_end root.kept.weights w.card w.weight) is.vectors
      ∙ ap (λ lines. (solve_start root.board root.kept moves (length is.answer.entries) ++ lines) ++ solve_end root.kept.weights w.card w.weight) is.lines
      ∙ ap (λ card. (solve_start root.board root.kept moves (length is.answer.entries) ++ flat_map (entry_text root.kept.weights) is.answer.entries) ++ solve_end root.kept.weights card w.weight) is.card
      ∙ ap (λ weight. (solve_start root.board root.kept moves (length is.answer.entries) ++ flat_map (entry_text root.kept.weights) is.answer.entries) ++ solve_end root.kept.weights is.answer.card weight) is.weight,
)

-- by the root as it is opened, and the pieces in order
pub report-of : (opened root : Root) → opened ≡ root → (w : WrittenAnswer) → (moves : ℕ) (start lines end text : List ℕ) → IsWrittenAnswer root.kept.node root.kept.weights moves w
    → start ≡ solve_start root.board root.kept moves w.vectors → lines ≡ w.lines → end ≡ solve_end opened.kept.weights w.card w.weight → text ≡ (start ++ lines) ++ end → IsSolveText root moves text
report-of opened root same w moves start lines end text is started written ended whole =
    report-is root moves w text is
    (whole ∙ ap₂ (λ (front back : List ℕ). front ++ back) (ap₂ (λ (front back : List ℕ). front ++ back) started written)
    (ended ∙ ap (λ (r : Root). solve_end r.kept.weights w.card w.weight) same))

-- what holds whatever is found
pub ok_whatever : {A E P : Type 0} (result : Result A E) → P → IfOk result (λ _. P)
ok_whatever (Ok a) holds = holds
ok_whatever (Err e) holds = tt
