use Rattle.std.proofs.Common.{◌-◌, length, take, ◌+◌, sym, ap, ap₂, ◌∙◌, arith, ◌∷◌}
use Rattle.std.proofs.lemmas.Result.{err_from_is_err_and}
use Rattle.std.proofs.lemmas.List.{length-take}
use Rattle.std.proofs.lemmas.List.Sums.{count_by-le-length}
use Rattle.byte_text.specs.Lines.{is_line_end}
use Rattle.pbn_text.specs.Pieces.{piece_ahead, pieces}
use Rattle.pbn_text.proofs.Ahead.{pieces-next, pieces-fault}
use Rattle.pbn_text.proofs.reader.Reader.next.Goals as goal

pub returns-in_err-item-clause-reads : goal.returns-in_err-item-clause-reads
returns-in_err-item-clause-reads c =
    let s = c.args.self.now in
    let p = err_from_is_err_and c.from_residual.result c.from_residual.ensures.1 in
    let more = pieces-fault s.at_front s.line s.rest.now c.requires.left in
    rw (p.1, p.2) ((piece_ahead s.at_front s.line s.rest.now).piece, more.0, more.1, c.in_err-item.ensures)

pub slice_bounds-taken-count : goal.slice_bounds-taken-count
slice_bounds-taken-count c =
    let s = c.args.self.now in
    omega (arith, (pieces-next s.at_front s.line s.rest.now c.in_ok-item.rest.now c.requires.left c.in_ok-item.ensures.1).1)

pub returns-clause-reads : goal.returns-clause-reads
returns-clause-reads c =
    let s = c.args.self.now in
    let next = pieces-next s.at_front s.line s.rest.now c.in_ok-item.rest.now c.requires.left c.in_ok-item.ensures.1 in
    (next.0 ∙ ap₂ ◌∷◌ c.in_ok-item.ensures.0 (ap₂ (λ f n. pieces f n 0 c.in_ok-item.rest.now) (sym c.ends_line-self.ensures) (ap (λ n. s.line + n) (sym c.count_line_ends.ensures.value))), next.1)

pub returns-clause-lines : goal.returns-clause-lines
returns-clause-lines c =
    let s = c.args.self.now in
    let taken = take (length s.rest.now - length c.in_ok-item.rest.now) s.rest.now in
    let next = pieces-next s.at_front s.line s.rest.now c.in_ok-item.rest.now c.requires.left c.in_ok-item.ensures.1 in
    omega (arith, next.1, c.count_line_ends.ensures.value, count_by-le-length is_line_end taken, length-take (length s.rest.now - length c.in_ok-item.rest.now) s.rest.now, c.requires.lines)
