-- The names of files and faults, as lines to standard error print them.
use Rattle.std.specs.Prelude.{ℕ, List, ◌++◌, codes}
use Rattle.pbn_text.specs.declared.fault.Syntax as syntax
use Rattle.pbn_deal.specs.declared.deal.DealFault as deal
use Rattle.pbn_deal.specs.declared.fault.BoardFault as board
use Rattle.am_report.specs.declared.fault.ReportKind as report
use Rattle.am_answer.specs.declared.status.FileWord as file
use Rattle.am_answer.specs.declared.status.PbnKind as kind

-- a file, by its option
abbrev pub file_name : file.FileWord → List ℕ
file_name file.TheVariants.Deal = codes "deal"
file_name file.TheVariants.Layouts = codes "layouts"
file_name file.TheVariants.Report = codes "report"
file_name file.TheVariants.Log = codes "log"

abbrev pub syntax_name : syntax.Syntax → List ℕ
syntax_name syntax.TheVariants.OpenString = codes "OpenString"
syntax_name syntax.TheVariants.BadTag = codes "BadTag"
syntax_name syntax.TheVariants.OpenBrace = codes "OpenBrace"
syntax_name syntax.TheVariants.NotText = codes "NotText"
syntax_name syntax.TheVariants.StrayToken = codes "StrayToken"

abbrev pub deal_name : deal.DealFault → List ℕ
deal_name deal.TheVariants.Seat = codes "Seat"
deal_name deal.TheVariants.HandCount = codes "HandCount"
deal_name deal.TheVariants.SuitCount = codes "SuitCount"
deal_name deal.TheVariants.RankLetter = codes "RankLetter"
deal_name deal.TheVariants.Repeated = codes "Repeated"
deal_name deal.TheVariants.Sizes = codes "Sizes"

-- a fault of the Deal value is named after the word `Deal`
abbrev pub board_name : board.BoardFault → List ℕ
board_name board.TheVariants.NoDeal = codes "NoDeal"
board_name board.TheVariants.NoDeclarer = codes "NoDeclarer"
board_name board.TheVariants.NoContract = codes "NoContract"
board_name board.TheVariants.PassedOut = codes "PassedOut"
board_name board.TheVariants.BadContract = codes "BadContract"
board_name board.TheVariants.Inherited = codes "Inherited"
board_name board.TheVariants.HandHidden = codes "HandHidden"
board_name (board.TheVariants.Deal fault) = codes "Deal " ++ deal_name fault
board_name board.TheVariants.PlayLeader = codes "PlayLeader"
board_name board.TheVariants.PlayCard = codes "PlayCard"
board_name board.TheVariants.PlayNotHeld = codes "PlayNotHeld"
board_name board.TheVariants.PlayRevoke = codes "PlayRevoke"
board_name board.TheVariants.PlayGap = codes "PlayGap"
board_name board.TheVariants.EndTags = codes "EndTags"

abbrev pub kind_name : kind.PbnKind → List ℕ
kind_name (kind.TheVariants.Syntax fault) = syntax_name fault
kind_name kind.TheVariants.NoGame = codes "NoGame"
kind_name (kind.TheVariants.Board fault) = board_name fault

abbrev pub report_name : report.ReportKind → List ℕ
report_name report.TheVariants.Version = codes "Version"
report_name report.TheVariants.Head = codes "Head"
report_name report.TheVariants.Vector = codes "Vector"
report_name report.TheVariants.Plan = codes "Plan"
report_name report.TheVariants.TooDeep = codes "TooDeep"
report_name report.TheVariants.Card = codes "Card"
report_name report.TheVariants.End = codes "End"
