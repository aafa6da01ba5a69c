-- A report that is told at a root.
use Rattle.std.specs.Prelude.{◌≡◌, ℕ, List, ◌++◌, length, Ok, codes}
use Rattle.byte_text.specs.Lines.{line_of}
use Rattle.am_report.specs.Reading.{ReadReportValue, report_read}
use Rattle.am_answer.specs.declared.root.Root.{Root}
use Rattle.am_answer.specs.Judging.{plans_in}
use Rattle.told_plans.specs.Told.{Told}
use Rattle.told_report.specs.ToldReport.{strategies_text, AreToldOf}

-- the words of a report whose plans are all good
pub record IsToldReport (root : Root) (bytes text : List ℕ) : Type 0 where
  pub report : ReadReportValue
  pub tolds : List Told
  pub is_read : report_read bytes ≡ Ok report
  pub is_good : plans_in root bytes ≡ Ok (length report.entries)
  pub are_told : AreToldOf root.kept.node report.entries tolds
  pub is_text : text ≡ line_of (codes "alphamu words 1") ++ strategies_text root.board.declarer root.kept.weights root.kept.node report.entries tolds
