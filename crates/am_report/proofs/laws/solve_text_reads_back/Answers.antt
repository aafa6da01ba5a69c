use Rattle.am_report.proofs.ReportReadBack.{solve_text-read}
use Rattle.am_report.proofs.laws.solve_text_reads_back.Goals as goal

pub returns : goal.returns
returns c = solve_text-read
