-- The page holds the report.
use Rattle.std.proofs.Common.{◌≡◌, ◌∙◌, ◌++◌, ℕ, Option, List, [], ap, append_assoc}
use Rattle.std.proofs.lemmas.Grind.{flat_map-append}
use Rattle.pbn_text.specs.Games.{GameValue}
use Rattle.pbn_deal.specs.Boards.{BoardValue}
use Rattle.layout_list.specs.Kept.{KeptValue}
use Rattle.am_report.specs.Reading.{ReadReportValue}
use Rattle.card_brackets.specs.declared.table.CardTable.{CardTable}
use Rattle.html_text.specs.declared.page.Piece.{Piece}
use Rattle.html_text.specs.Escapes.{escape}
use Rattle.html_text.specs.Pages.{own, piece_text, written}
use Rattle.page_text.specs.declared.lines.Line.{Line}
use Rattle.page_text.specs.declared.partings.Beside.{Beside}
use Rattle.page_text.specs.declared.plays.PlayedLine.{PlayedLine}
use Rattle.page_text.specs.declared.refutations.Refutation.{Refutation}
use Rattle.page_text.specs.declared.markup.TheConstants.{REPORT, REPORT_END}
use Rattle.page_text.specs.declared.script.TheConstants.{END}
use Rattle.page_text.specs.Frames.{report}
use Rattle.page_text.specs.Cards.{cards}
use Rattle.page_report.specs.ReportPages.{scale_of, top, middle, page, HoldsReport, HoldsItsReport}

joined : (a b : List Piece) → written (a ++ b) ≡ written a ++ written b
joined a b = flat_map-append piece_text a b

three : (a b c d : List ℕ) → (a ++ (b ++ (c ++ []))) ++ d ≡ a ++ (b ++ (c ++ d))
three a b c d = append_assoc a (b ++ (c ++ [])) d ∙ ap (λ t. a ++ t) (append_assoc b (c ++ []) d ∙ ap (λ t. b ++ t) (append_assoc c [] d))

-- a page with the report somewhere holds it
holds : (front back : List Piece) (bytes : List ℕ) → written ((front ++ report bytes) ++ back) ≡ written front ++ (REPORT.now ++ (escape bytes ++ (REPORT_END.now ++ written back)))
unfolding report
holds front back bytes =
    joined (front ++ report bytes) back ∙ ap (λ t. t ++ written back) (joined front (report bytes)) ∙ append_assoc (written front) (written (report bytes)) (written back)
    ∙ ap (λ t. written front ++ t) (three REPORT.now (escape bytes) REPORT_END.now (written back))

text_holds : (game : GameValue) (board : BoardValue) (kept : KeptValue) (read : ReadReportValue) (bytes : List ℕ) (known : Option CardTable) (lines : List Line) (refuted : List (Option Refutation)) (besides : List Beside) (played : List PlayedLine) (text : List ℕ)
    → text ≡ written (page game board kept read bytes known lines refuted besides played) → HoldsReport bytes text
unfolding page
text_holds game board kept read bytes known lines refuted besides played text is =
    let front = top game board kept read known lines ++ cards (scale_of kept read.version) read.card known ++ middle board kept read lines refuted besides played in
    record {
      before = written front;
      after = written (own END.now);
      is_text = is ∙ holds front (own END.now) bytes;
    }

pub page_holds : HoldsItsReport
page_holds game board kept read bytes known text is = text_holds game board kept read bytes known is.lines is.refuted is.besides is.played text is.is_text
