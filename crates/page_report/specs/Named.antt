-- The card that a report names.
use Rattle.std.specs.Prelude.{ℕ, Bool, ◌&&◌, List}
use Rattle.std.specs.List.{list_any}
use Rattle.card_sets.specs.SetWords.{has_card}
use Rattle.trick_rules.specs.Nodes.{NodeValue, choices}
use Rattle.am_report.specs.Answers.{ReadEntryValue}
use Rattle.am_report.specs.Reading.{ReadReportValue}
use Rattle.page_text.specs.Verdicts.{begins_with}
use Rattle.page_report.specs.ReportPages.{first_card}

-- a strategy begins with the card or stops before it
abbrev pub has_line : ℕ → List ReadEntryValue → Bool
has_line card entries = list_any (λ read. begins_with card (first_card read.entry.plan)) entries

-- the card can be played, and a strategy of the report begins with it or stops before it
abbrev pub names_own_card : NodeValue → ReadReportValue → Bool
names_own_card node report = has_card (choices node) report.card && has_line report.card report.entries
