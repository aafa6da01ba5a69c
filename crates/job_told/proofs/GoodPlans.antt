-- The plans of a report that was judged good are strategies at its root.
use Rattle.std.proofs.Common.{◌≡◌, ◌∙◌, ◌+◌, ◌==◌, ℕ, zero, suc, Bool, true, false, not, cond, Option, Some, None, Result, Ok, Err, List, [], ◌∷◌, length, All, refl, sym, ap, le_of_suc-le-suc, arith}
use Rattle.std.specs.Prelude.{bytes_eq, ⊤, ◌++◌, codes}
use Rattle.std.proofs.lemmas.Bool.Decides.{Decides-eqb}
use Rattle.win_vectors.specs.Weights.{weight_of}
use Rattle.trick_rules.specs.Nodes.{NodeValue}
use Rattle.strategy_games.specs.Plans.{Fits, wins_vector}
use Rattle.strategy_games.specs.Misfits.{first_misfit}
use Rattle.strategy_tree.specs.Bridge.{bridge}
use Rattle.strategy_tree.proofs.BridgeLaws as laws
use Rattle.am_report.specs.Answers.{ReadEntryValue}
use Rattle.am_report.specs.Head.{head_text}
use Rattle.am_report.specs.Reading.{ReadReportValue, report_read}
use Rattle.am_answer.specs.declared.root.Root.{Root}
use Rattle.am_answer.specs.declared.status.Place.{Place}
use Rattle.am_answer.specs.declared.status.Place.TheVariants.{Head, Width, Weight}
use Rattle.am_answer.specs.declared.status.Status.{Status}
use Rattle.am_answer.specs.declared.status.Status.TheVariants.{Refuted}
use Rattle.am_answer.specs.Answers.{task_at}
use Rattle.am_answer.specs.Tasks as tasks
use Rattle.am_answer.specs.Tasks.{TaskValue}
use Rattle.job_words.specs.declared.asks.LayoutsJob.TheVariants as jobs
use Rattle.byte_text.specs.Lines.{line_of}
use Rattle.byte_text.specs.Steps.{◌>>=◌}
use Rattle.am_answer.specs.Judging.{plan_fault, entry_fault, or_later_plan, first_plan_fault, unless_plan_fault, judged, plans_in}
use Rattle.told_report.specs.ToldReport.{AreWords}
use Rattle.job_told.specs.ToldJob.{IsToldReport}

-- a strategy of the right width
pub record IsGood (node : NodeValue) (moves : ℕ) (read : ReadEntryValue) : Type 0 where
  pub width : length read.entry.vector ≡ length node.lefts
  pub fits : Fits bridge read.entry.plan node moves

no_misfit : (found : Option ℕ) (won vector : List Bool) → plan_fault found won vector ≡ None → found ≡ None
no_misfit None won vector h = refl
no_misfit (Some i) won vector h = cc

no_entry_fault : (wide weighs : Bool) (place : Option Place) → cond (not wide) (Some Width) (cond (not weighs) (Some Weight) place) ≡ None → (wide ≡ true) × (place ≡ None)
no_entry_fault true true place h = (refl, h)
no_entry_fault true false place h = absurd cc
no_entry_fault false weighs place h = absurd cc

good_entry : (node : NodeValue) (weights : List ℕ) (moves : ℕ) (read : ReadEntryValue) → entry_fault node weights moves read ≡ None → IsGood node moves read
unfolding entry_fault
good_entry node weights moves read h =
    let misfit = first_misfit bridge ◌==◌ read.entry.plan node moves in
    let parts = no_entry_fault (length read.entry.vector == length node.lefts) (read.weight == weight_of weights read.entry.vector) (plan_fault misfit (wins_vector bridge read.entry.plan node) read.entry.vector) h in
    record {
      width = (Decides-eqb (length read.entry.vector) (length node.lefts)).0 parts.0;
      fits = (laws.first_misfit.none read.entry.plan node moves).1 (no_misfit misfit (wins_vector bridge read.entry.plan node) read.entry.vector parts.1);
    }

abbrev pub AreGood : NodeValue → ℕ → List ReadEntryValue → Type 0
AreGood node moves [] = ⊤
AreGood node moves (read ∷ entries) = IsGood node moves read × AreGood node moves entries

no_fault : (number : ℕ) (place : Option Place) (later : Option (ℕ × Place)) → or_later_plan number place later ≡ None → (place ≡ None) × (later ≡ None)
no_fault number None later h = (refl, h)
no_fault number (Some place) later h = absurd cc

good_entries : (node : NodeValue) (weights : List ℕ) (moves number : ℕ) (entries : List ReadEntryValue) → first_plan_fault node weights moves number entries ≡ None → AreGood node moves entries
good_entries node weights moves number [] h = tt
good_entries node weights moves number (read ∷ entries) h =
    let parts = no_fault number (entry_fault node weights moves read) (first_plan_fault node weights moves (number + 1) entries) h in
    (good_entry node weights moves read parts.0, good_entries node weights moves (number + 1) entries parts.1)

no_plan_fault : (plans : ℕ) (found : Option (ℕ × Place)) (n : ℕ) → unless_plan_fault plans found ≡ Ok n → (found ≡ None) × (plans ≡ n)
no_plan_fault plans None n h = (refl, cc)
no_plan_fault plans (Some found) n h = absurd cc

same_head : (same : Bool) (verdict : Result ℕ Status) (n : ℕ) → cond same verdict (Err (Refuted 0 Head)) ≡ Ok n → verdict ≡ Ok n
same_head true verdict n h = h
same_head false verdict n h = absurd cc

judged_good : (root : Root) (report : ReadReportValue) (n : ℕ) → judged root report ≡ Ok n → (first_plan_fault root.kept.node root.kept.weights report.moves 1 report.entries ≡ None) × (length report.entries ≡ n)
unfolding judged
judged_good root report n h =
    let found = first_plan_fault root.kept.node root.kept.weights report.moves 1 report.entries in
    no_plan_fault (length report.entries) found n (same_head (bytes_eq report.head (head_text root.board root.kept report.moves)) (unless_plan_fault (length report.entries) found) n h)

read_judged : (root : Root) (bytes : List ℕ) (report : ReadReportValue) → report_read bytes ≡ Ok report → plans_in root bytes ≡ judged root report
unfolding plans_in
read_judged root bytes report read = rw read refl

-- the plans of a report of which `plans_in` says that they are good
pub plans_good : (root : Root) (bytes : List ℕ) (report : ReadReportValue) (n : ℕ) → report_read bytes ≡ Ok report → plans_in root bytes ≡ Ok n → AreGood root.kept.node report.moves report.entries
plans_good root bytes report n read h =
    good_entries root.kept.node root.kept.weights report.moves 1 report.entries (judged_good root report n (sym (read_judged root bytes report read) ∙ h)).0

some_plans : (plans : Result ℕ Status) (task : TaskValue) → (plans >>= (λ n. Ok (tasks.Check n))) ≡ Ok task → (n : ℕ) × (plans ≡ Ok n)
some_plans (Ok n) task h = (n, refl)
some_plans (Err status) task h = absurd cc

-- what `check` accepts, `plans_in` accepts
pub accepted_good : (root : Root) (bytes : List ℕ) (report : ReadReportValue) (task : TaskValue) → report_read bytes ≡ Ok report → task_at root (jobs.Check bytes) ≡ Ok task → plans_in root bytes ≡ Ok (length report.entries)
unfolding task_at
accepted_good root bytes report task read h =
    let some = some_plans (plans_in root bytes) task h in
    some.1 ∙ ap (λ n. Ok n) (sym (judged_good root report some.0 (sym (read_judged root bytes report read) ∙ some.1)).1)

-- their vectors are as wide as there are weights
pub good_widths : (node : NodeValue) (weights : List ℕ) (moves : ℕ) (entries : List ReadEntryValue) → length weights ≡ length node.lefts → AreGood node moves entries → All (λ read. length weights ≡ length read.entry.vector) entries
good_widths node weights moves [] weighed good k d below = absurd (omega (arith, below))
good_widths node weights moves (read ∷ entries) weighed good zero d below = weighed ∙ sym good.0.width
good_widths node weights moves (read ∷ entries) weighed good (suc k) d below = good_widths node weights moves entries weighed good.1 k d (le_of_suc-le-suc below)

-- and their plans are strategies
pub good_plans : (node : NodeValue) (moves : ℕ) (entries : List ReadEntryValue) → AreGood node moves entries → All (λ read. (moves : ℕ) × Fits bridge read.entry.plan node moves) entries
good_plans node moves [] good k d below = absurd (omega (arith, below))
good_plans node moves (read ∷ entries) good zero d below = (moves, good.0.fits)
good_plans node moves (read ∷ entries) good (suc k) d below = good_plans node moves entries good.1 k d (le_of_suc-le-suc below)

-- the words of a good report
pub told_report : (root : Root) (bytes : List ℕ) (report : ReadReportValue) (words now : List ℕ) → report_read bytes ≡ Ok report → plans_in root bytes ≡ Ok (length report.entries)
    → AreWords root.board.declarer root.kept.weights root.kept.node report.entries words → now ≡ line_of (codes "alphamu words 1") ++ words → IsToldReport root bytes now
told_report root bytes report words now read good are written = record {
  report = report;
  tolds = are.tolds;
  is_read = read;
  is_good = good;
  are_told = are.are_told;
  is_text = written ∙ ap (λ text. line_of (codes "alphamu words 1") ++ text) are.is_text;
}
