use Rattle.std.proofs.Common.{◌≡◌, ◌∙◌, Some, None, sym, rules}
use Rattle.am_report.proofs.ReportSteps.{moves_of_head-two, moves_of_head-end}
use Rattle.am_report.proofs.reading.moves_of_head.Goals as goal

pub returns-in_err-found : goal.returns-in_err-found
returns-in_err-found c =
    let more : c.lines.rest ≡ Some c.in-Some.text = first_of (search rules, cc) in
    c.from_residual.ensures
    ∙ sym (moves_of_head-two c.args.head.now c.lines.found c.in-Some.text.now c.split_line.result.0.now c.split_line.result.1 (rw more at c.lines.invariant) c.split_line.ensures.line (rw c.read_moves.ensures at c.in_err-found.ensures))

pub returns : goal.returns
returns c =
    let none : c.lines.rest ≡ None = search rules in
    sym (moves_of_head-end c.args.head.now c.lines.found c.lines.rest none c.lines.invariant)
