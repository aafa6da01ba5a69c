-- A report that is shown as a page at a root.
use Rattle.std.specs.Prelude.{◌≡◌, ◌⊎◌, ◌-◌, ℕ, List, ◌∷◌, true, false, length, Ok, Option, None}
use Rattle.byte_text.specs.Lines.{line_number}
use Rattle.pbn_text.specs.Games.{GameValue}
use Rattle.pbn_text.specs.Grammar.{games_read}
use Rattle.am_report.specs.declared.fault.ReportKind.TheVariants as kinds
use Rattle.am_report.specs.Reading.{ReadReportValue, report_read}
use Rattle.job_words.specs.declared.asks.LayoutsJob.TheVariants as jobs
use Rattle.am_answer.specs.declared.root.Root.{Root}
use Rattle.am_answer.specs.declared.status.Status.{Status}
use Rattle.am_answer.specs.declared.status.Status.TheVariants.{BadReport}
use Rattle.am_answer.specs.Answers.{task_at}
use Rattle.am_answer.specs.Judging.{plans_in}
use Rattle.am_answer.specs.Stages.{IsFileRefusal}
use Rattle.card_brackets.specs.declared.table.CardTable.{CardTable}
use Rattle.page_report.specs.Named.{names_own_card}
use Rattle.page_report.specs.ReportPages.{IsReportPage}

-- the page of a report whose plans are all good, with what the deal file says of its first game, and with every legal card if
-- they are known; if they aren't, the report names a card with which one of its lines begins
pub record IsPage (deal : List ℕ) (root : Root) (bytes : List ℕ) (known : Option CardTable) (text : List ℕ) : Type 0 where
  pub game : GameValue
  pub others : List GameValue
  pub report : ReadReportValue
  pub is_game : games_read deal ≡ Ok (game ∷ others)
  pub is_read : report_read bytes ≡ Ok report
  pub is_good : plans_in root bytes ≡ Ok (length report.entries)
  pub is_page : IsReportPage game root.board root.kept report bytes known text
  pub is_named : known ≡ None → names_own_card root.kept.node report ≡ true

-- ---- why there is no page

-- the number of the line with the card, the last but one
abbrev pub card_line : List ℕ → ℕ
card_line bytes = line_number bytes (length bytes - 1) - 1

-- a report that wasn't searched for here names a card that can't be played, or that none of its lines begins with
pub record IsForeignCard (root : Root) (bytes : List ℕ) (known : Option CardTable) (status : Status) : Type 0 where
  pub report : ReadReportValue
  pub is_read : report_read bytes ≡ Ok report
  pub is_unknown : known ≡ None
  pub is_foreign : names_own_card root.kept.node report ≡ false
  pub is_told : status ≡ BadReport (card_line bytes) kinds.Card

-- `check` refuses the report, or its card isn't its own
abbrev pub IsPageRefusal : Root → List ℕ → Option CardTable → Status → Type 0
IsPageRefusal root bytes known status = IsFileRefusal (task_at root (jobs.Check bytes)) status ⊎ IsForeignCard root bytes known status
