-- A report that `solve` gives is never refused.
use Rattle.std.proofs.Common.{◌≡◌, ◌<◌, ◌^◌, ℕ, Option, None, Some, Result, Ok, List, length, All, refl, sym, subst, inl, inr, arith}
use Rattle.win_vectors.specs.Weights.{IsWeight}
use Rattle.trick_rules.specs.Nodes.{IsNode}
use Rattle.job_words.specs.declared.asks.LayoutsJob.TheVariants as jobs
use Rattle.job_words.specs.declared.asks.Search.{Search}
use Rattle.job_words.specs.Asks.{IsMoves}
use Rattle.job_check.proofs.SolvedGood.{text-good}
use Rattle.am_answer.specs.declared.root.Root.{Root}
use Rattle.am_answer.specs.declared.status.Status.{Status}
use Rattle.am_answer.specs.declared.status.Status.TheVariants.{Done, Refuted, BadWords, Unread, BadPbn, BadLayouts, NoTurn, Spent, Unwritten, Memory, TooLong, BadReport, BadMake, NoLayout, BadLog, Unproved, GameSpent, TooManyGames}
use Rattle.am_answer.specs.Answers.{task_at, IsRoot}
use Rattle.am_answer.specs.Reports.{IsText, IsSolveText}
use Rattle.am_answer.specs.Stages.{IsFileRefusal, IsTextFor}
use Rattle.am_answer.specs.Tasks.{TaskValue, Solve}
use Rattle.job_words.specs.declared.study.Study.{Study}
use Rattle.job_words.specs.declared.study.Study.TheVariants.{Words, Lines, Page, Cards, ExactCards, Review}
use Rattle.card_brackets.specs.declared.table.CardTable.{CardTable}
use Rattle.job_page.specs.PageJob.{IsPageRefusal}
use Rattle.study_top.specs.Solved.{IsSolvedReport, IsUnsolved}
use Rattle.study_top.specs.Study.{AreCardsFor, IsReportRefusal, IsSearchRefusal}

-- what isn't refused ends only for want of memory
only_memory : {A : Type 0} (expected : Result A Status) (value : A) → expected ≡ Ok value → (status : Status) → IsFileRefusal expected status → status ≡ Memory
only_memory expected value good Done is = absurd is
only_memory expected value good (Refuted plan place) is = absurd cc
only_memory expected value good BadWords is = absurd is
only_memory expected value good (Unread file) is = absurd is
only_memory expected value good (BadPbn line kind) is = absurd cc
only_memory expected value good (BadLayouts fault) is = absurd cc
only_memory expected value good NoTurn is = absurd cc
only_memory expected value good (Spent card) is = absurd is
only_memory expected value good Unwritten is = absurd is
only_memory expected value good Memory is = refl
only_memory expected value good (TooLong file) is = absurd is
only_memory expected value good (BadReport line kind) is = absurd cc
only_memory expected value good (BadMake fault) is = absurd cc
only_memory expected value good (NoLayout layout) is = absurd cc
only_memory expected value good (BadLog line) is = absurd cc
only_memory expected value good (Unproved number) is = absurd is
only_memory expected value good (GameSpent game card) is = absurd is
only_memory expected value good (TooManyGames games) is = absurd cc

same_task : (a b : TaskValue) → ◌≡◌ {A = Result TaskValue Status} (Ok a) (Ok b) → a ≡ b
same_task a b h = cc

module _ (root : Root) (moves : ℕ) (search : Search) where
  solve_text_of : (report : List ℕ) → IsTextFor (Ok (Solve root moves search)) report → IsSolveText root moves report
  solve_text_of report is = subst (λ (task : TaskValue). IsText task report) (sym (same_task (Solve root moves search) is.task is.accepted)) is.is_text

  unsolved_memory : (status : Status) → status ≡ Memory → IsUnsolved root moves search status
  unsolved_memory status is = subst (IsUnsolved root moves search) (sym is) (inl tt)

  module _ (node : IsNode root.kept.node) (is_root : IsRoot root) (each : All IsWeight root.kept.weights) (some : IsMoves moves) (report : List ℕ) (solved : IsSolvedReport root moves search report) where
    good_or_memory : (status : Status) → IsFileRefusal (task_at root (jobs.Check report)) status → IsUnsolved root moves search status
    good_or_memory status refused =
        let short : length report < 2 ^ 32 = omega (arith, solved.within) in
        let good = text-good root moves report node is_root.weighed each some (solve_text_of report solved.solved) short in
        unsolved_memory status (only_memory (task_at root (jobs.Check report)) _ good.1 status refused)

    -- a page shows the cards that are known after a search, and doesn't judge the report's
    of_page : (known : Option CardTable) (status : Status) → AreCardsFor Page root moves search known → IsPageRefusal root report known status → IsSearchRefusal Page root moves search status
    of_page known status cards (inl refused) = inl (good_or_memory status refused)
    of_page known status cards (inr foreign) = absurd (subst (AreCardsFor Page root moves search) foreign.is_unknown cards)

    pub never_refused : (study : Study) (known : Option CardTable) → AreCardsFor study root moves search known
        → (status : Status) → IsReportRefusal study root report known status → IsSearchRefusal study root moves search status
    never_refused Words known cards status refused = inl (good_or_memory status refused)
    never_refused Lines known cards status refused = inl (good_or_memory status refused)
    never_refused Page known cards status refused = of_page known status cards refused
    never_refused (Cards form) known cards status refused = inr (inr refused)
    never_refused (ExactCards form) known cards status refused = inr (inr refused)
    never_refused (Review form from) known cards status refused = inr (inr refused)
