use Rattle.page_report.proofs.Held.{page_holds}
use Rattle.page_report.proofs.laws.a_page_holds_its_report.Goals as goal

pub returns : goal.returns
returns c = page_holds
