-- Why words and files are refused.
use Rattle.std.specs.Prelude.{◌≡◌, ℕ, List, Option, Some}
use Rattle.am_outside.specs.Faults.{Rose}
use Rattle.am_outside.specs.Shelf.{Files}
use Rattle.job_words.specs.Asks.{AskValue}
use Rattle.job_words.specs.Words.{words_read}
use Rattle.pbn_text.specs.declared.fault.TextFault as text
use Rattle.pbn_deal.specs.declared.fault.BoardRefusal as board
use Rattle.layout_list.specs.declared.fault.LayoutFault as layouts
use Rattle.layout_maker.specs.declared.fault.MakeFault as make
use Rattle.strategy_tree.specs.declared.root_fault.RootFault as root
use Rattle.am_report.specs.declared.fault.ReportFault as report
use Rattle.log_texts.specs.declared.fault.LogFault as log
use Rattle.am_answer.specs.declared.status.FileWord.{FileWord}
use Rattle.am_answer.specs.declared.status.PbnKind.TheVariants.{Syntax, Board}
use Rattle.am_answer.specs.declared.status.Status.{Status}
use Rattle.am_answer.specs.declared.status.Status.TheVariants.{BadPbn, BadLayouts, BadReport, BadMake, BadLog, Spent, Memory}
use Rattle.am_answer.specs.Files.{IsNameOf}

abbrev pub syntax_status : text.TextFault → Status
syntax_status (text.TheVariants.Syntax line kind) = BadPbn line (Syntax kind)
syntax_status text.TheVariants.Memory = Memory

abbrev pub board_status : board.BoardRefusal → Status
board_status (board.TheVariants.Fault line kind) = BadPbn line (Board kind)
board_status board.TheVariants.Memory = Memory

-- want of memory is a status of its own
abbrev pub layout_status : layouts.LayoutFault → Status
layout_status (layouts.TheVariants.BadLine line fault) = BadLayouts (layouts.TheVariants.BadLine line fault)
layout_status (layouts.TheVariants.OtherHands line) = BadLayouts (layouts.TheVariants.OtherHands line)
layout_status (layouts.TheVariants.TooMany line) = BadLayouts (layouts.TheVariants.TooMany line)
layout_status (layouts.TheVariants.BadWeight line) = BadLayouts (layouts.TheVariants.BadWeight line)
layout_status layouts.TheVariants.NoneLeft = BadLayouts layouts.TheVariants.NoneLeft
layout_status layouts.TheVariants.Memory = Memory

abbrev pub root_status : root.RootFault → Status
root_status (root.TheVariants.Spent card) = Spent card
root_status root.TheVariants.Memory = Memory

abbrev pub report_status : report.ReportFault → Status
report_status (report.TheVariants.Fault line kind) = BadReport line kind
report_status report.TheVariants.Memory = Memory

abbrev pub log_status : log.LogFault → Status
log_status (log.TheVariants.Line line) = BadLog line
log_status log.TheVariants.Memory = Memory

abbrev pub make_status : make.MakeFault → Status
make_status (make.TheVariants.TooManyFit count) = BadMake (make.TheVariants.TooManyFit count)
make_status make.TheVariants.NoneFit = BadMake make.TheVariants.NoneFit
make_status make.TheVariants.NotShown = BadMake make.TheVariants.NotShown
make_status make.TheVariants.Memory = Memory

-- the words name the file, and the count of faults at a name of it rose. If the shelf tells its files, the layout files of
-- all games are those of the games that there are
abbrev pub IsUnread : Option Files → List (List ℕ) → (List ℕ → ℕ) → (List ℕ → ℕ) → FileWord → Type 0
IsUnread told words before now file = (ask : AskValue) × (name : List ℕ)
    × (words_read words ≡ Some ask) × IsNameOf told ask file name × Rose (before name) (now name)
