use Rattle.std.proofs.Common.{◌∙◌, rules, tests}
use Rattle.std.proofs.lemmas.Iterator.{YieldsList-from_slice}
use Rattle.std.proofs.lemmas.Iterator.Search.{position_from_yields_List}
use Rattle.byte_text.proofs.Places.{end_from_position}
use Rattle.am_report.specs.ReportLines.{ends_bits}
use Rattle.am_report.proofs.report_lines.bits_len.Goals as goal

pub returns-clause-len : goal.returns-clause-len
returns-clause-len c =
    let text = c.args.text.now in
    let found = position_from_yields_List ends_bits _ _ c.position.result c.position.ensures.ran (YieldsList-from_slice text (cc)) (λ x b q k. search (rules, tests)) in
    c.unwrap_or.ensures ∙ end_from_position ends_bits text c.position.result found
