-- What a report and a log lead to, from their texts on.
use Rattle.std.proofs.Common.{◌≡◌, ◌∙◌, ℕ, Bool, true, false, List, Option, Some, None, Result, Ok, Err, length, refl, sym, ap, subst}
use Rattle.std.specs.Prelude.{bytes_eq}
use Rattle.win_vectors.specs.Fronts.{Vector}
use Rattle.log_check.specs.declared.lines.LogLine.{LogLine}
use Rattle.log_check.specs.declared.check.LogVerdict.{LogVerdict}
use Rattle.log_check.specs.declared.check.LogVerdict.TheVariants.{Yes, No}
use Rattle.log_check.specs.LogVerdicts.{IsLogVerdict}
use Rattle.log_texts.specs.declared.fault.LogFault as logs
use Rattle.log_texts.specs.Reading.{log_read, IsLogFault}
use Rattle.am_report.specs.declared.fault.ReportFault as reports
use Rattle.am_report.specs.Audit.{audit_text}
use Rattle.am_report.specs.Head.{head_text}
use Rattle.am_report.specs.Reading.{ReadReportValue, report_read, IsReportFaultOf}
use Rattle.job_words.specs.declared.asks.LayoutsJob.TheVariants as jobs
use Rattle.am_answer.specs.declared.root.Root.{Root}
use Rattle.am_answer.specs.declared.status.Place.TheVariants.{Head, Width}
use Rattle.am_answer.specs.declared.status.Status.{Status}
use Rattle.am_answer.specs.declared.status.Status.TheVariants.{Done, Refuted, BadWords, Unread, BadPbn, BadLayouts, NoTurn, Spent, Unwritten, Memory, TooLong, BadReport, BadMake, NoLayout, BadLog, Unproved, GameSpent, TooManyGames}
use Rattle.am_answer.specs.Answers.{task_at}
use Rattle.am_answer.specs.Tasks.{TaskValue, Audit}
use Rattle.am_answer.specs.Auditing.{AuditValue, vectors_of, first_other_width, audit_of, audit_in}
use Rattle.am_answer.specs.Refusals.{report_status, log_status}
use Rattle.am_answer.specs.Stages.{IsFileRefusal, IsTaskRefusal, IsTextFor}
use Rattle.byte_text.specs.Steps.{◌>>=◌}

-- a verdict at a root as it is opened is one at the root as it is
pub verdict_as : (opened root : Root) → opened ≡ root → (moves : ℕ) (slice vectors : List Vector) → slice ≡ vectors → (lines : List LogLine) (found named : LogVerdict) → found ≡ named
    → IsLogVerdict opened.kept.node moves slice lines found → IsLogVerdict root.kept.node moves vectors lines named
verdict_as opened root same moves slice vectors is_slice lines found named is verdict =
    subst (λ (r : Root). IsLogVerdict r.kept.node moves vectors lines named) same
    (subst (λ (vs : List Vector). IsLogVerdict opened.kept.node moves vs lines named) is_slice
    (subst (λ (v : LogVerdict). IsLogVerdict opened.kept.node moves slice lines v) is verdict))

-- a head that isn't that of the files
pub other_head : (root : Root) (said : ReadReportValue) (lines : List LogLine) (alike : Bool) → alike ≡ bytes_eq said.head (head_text root.board root.kept said.moves) → alike ≡ false
    → audit_of root said lines ≡ Err (Refuted 0 Head)
unfolding audit_of
other_head root said lines alike is differs = rw (sym is ∙ differs) refl

-- the head is that of the files, and this is what is found of the widths
module _ (opened root : Root) (same : opened ≡ root) (said : ReadReportValue) (lines : List LogLine) (alike : Bool) (is_head : alike ≡ bytes_eq said.head (head_text root.board root.kept said.moves)) (yes : alike ≡ true)
    (width : ℕ) (wide : width ≡ length opened.kept.node.lefts) (slice vectors : List Vector) (is_slice : slice ≡ vectors) (are : vectors ≡ vectors_of said) where
  found_width : (found : Option ℕ) → found ≡ first_other_width width 1 slice → first_other_width (length root.kept.node.lefts) 1 (vectors_of said) ≡ found
  found_width found is =
      sym (is ∙ ap (λ (w : ℕ). first_other_width w 1 slice) (wide ∙ ap (λ (r : Root). length r.kept.node.lefts) same) ∙ ap (λ (vs : List Vector). first_other_width (length root.kept.node.lefts) 1 vs) (is_slice ∙ are))

  pub other_width : (number : ℕ) → Some number ≡ first_other_width width 1 slice → audit_of root said lines ≡ Err (Refuted number Width)
  unfolding audit_of
  other_width number is = rw (sym is_head ∙ yes, found_width (Some number) is) refl

  pub same_widths : None ≡ first_other_width width 1 slice → audit_of root said lines ≡ Ok (record { moves = said.moves; vectors = vectors; lines = lines })
  unfolding audit_of
  same_widths is = rw (sym is_head ∙ yes, found_width None is) (ap (λ (vs : List Vector). Ok (record { moves = said.moves; vectors = vs; lines = lines })) (sym are))

-- what refuses a first step refuses a job that follows from it
refused_first : (asked : Result AuditValue Status) (task : AuditValue → TaskValue) (status : Status) → IsFileRefusal asked status → IsTaskRefusal (asked >>= λ audit. Ok (task audit)) status
refused_first asked task Done is = is
refused_first asked task (Refuted plan place) is = rw is refl
refused_first asked task BadWords is = is
refused_first asked task (Unread file) is = is
refused_first asked task (BadPbn line kind) is = rw is refl
refused_first asked task (BadLayouts fault) is = rw is refl
refused_first asked task NoTurn is = rw is refl
refused_first asked task (Spent card) is = absurd is
refused_first asked task Unwritten is = is
refused_first asked task Memory is = tt
refused_first asked task (TooLong file) is = is
refused_first asked task (BadReport line kind) is = rw is refl
refused_first asked task (BadMake fault) is = rw is refl
refused_first asked task (NoLayout layout) is = rw is refl
refused_first asked task (BadLog line) is = rw is refl
refused_first asked task (Unproved number) is = absurd is
refused_first asked task (GameSpent game card) is = absurd is
refused_first asked task (TooManyGames games) is = rw is refl

module _ (root : Root) (report log : List ℕ) where
  -- a report that isn't read
  pub report_refused : (fault : reports.ReportFault) → IsReportFaultOf fault (report_read report) → IsTaskRefusal (task_at root (jobs.Audit report log)) (report_status fault)
  unfolding task_at audit_in
  report_refused (reports.TheVariants.Fault line kind) is = rw is refl
  report_refused reports.TheVariants.Memory is = tt

  module _ (said : ReadReportValue) (is_report : report_read report ≡ Ok said) where
    -- a log that isn't read
    pub log_refused : (fault : logs.LogFault) → IsLogFault fault (log_read log) → IsTaskRefusal (task_at root (jobs.Audit report log)) (log_status fault)
    unfolding task_at audit_in
    log_refused (logs.TheVariants.Line line) is = rw (is_report, is) refl
    log_refused logs.TheVariants.Memory is = tt

    module _ (lines : List LogLine) (is_log : log_read log ≡ Ok lines) where
      audited : task_at root (jobs.Audit report log) ≡ (audit_of root said lines >>= λ audit. Ok (Audit root audit))
      unfolding task_at audit_in
      audited = rw (is_report, is_log) refl

      -- a report that isn't that of the files
      pub audit_refused : (status : Status) → IsFileRefusal (audit_of root said lines) status → IsTaskRefusal (task_at root (jobs.Audit report log)) status
      audit_refused status is =
          subst (λ (answer : Result TaskValue Status). IsTaskRefusal answer status) (sym audited) (refused_first (audit_of root said lines) (Audit root) status is)

      module _ (audit : AuditValue) (asked : audit_of root said lines ≡ Ok audit) where
        accepted : task_at root (jobs.Audit report log) ≡ Ok (Audit root audit)
        accepted = audited ∙ ap (λ (r : Result AuditValue Status). r >>= λ a. Ok (Audit root a)) asked

        -- a log that proves what it is asked
        pub audit_text_is : (text : List ℕ) → IsLogVerdict root.kept.node audit.moves audit.vectors audit.lines Yes → text ≡ audit_text (length audit.lines)
            → IsTextFor (task_at root (jobs.Audit report log)) text
        audit_text_is text valid is = record { task = Audit root audit; accepted = accepted; is_text = (valid, is); fits = tt }

        -- and one that doesn't
        pub audit_unproved : (number : ℕ) → IsLogVerdict root.kept.node audit.moves audit.vectors audit.lines (No number)
            → IsTaskRefusal (task_at root (jobs.Audit report log)) (Unproved number)
        audit_unproved number verdict = (Audit root audit, accepted, verdict)
