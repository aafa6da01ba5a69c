use Rattle.std.proofs.Common.{◌≡◌, ◌≤◌, ◌<◌, ◌∙◌, List, ap, ◌+◌, ◌++◌, ◌∷◌, [], Some, true, false, length, arith, rules}
use Rattle.log_texts.specs.Reading.{pieces_at, is_end, line_said}
use Rattle.std.proofs.lemmas.List.{length_push}
use Rattle.log_check.specs.declared.lines.LogLine.{LogLine}
use Rattle.log_texts.proofs.SaidLines.{lines_more, lines_beyond}
use Rattle.log_texts.proofs.reading.read_lines.Goals as goal

pub returns-else-is_empty-clause-fault : goal.returns-else-is_empty-clause-fault
returns-else-is_empty-clause-fault c =
    let cut : pieces_at 10 c.lines.rest.now ≡ c.split_line.result.0.now ∷ pieces_at 10 c.in-Some.next.now = rw c.in-Some.is at c.split_line.ensures.line in
    let ends : is_end c.lines.number c.split_line.result.0.now ≡ true = first_of (search rules, cc) in
    let some : 1 ≤ length c.in-Some.next.now = first_of (omega arith, search rules) in
    lines_beyond c.lines.number _ c.lines.log c.lines.rest.now c.split_line.result.0.now c.lines.invariant.so_far c.in-Some.next.now cut ends some

pub lines-preserved : goal.lines-preserved
lines-preserved c =
    let cut : pieces_at 10 c.lines.rest.now ≡ c.split_line.result.0.now ∷ pieces_at 10 c.in-Some.next.now = rw c.in-Some.is at c.split_line.ensures.line in
    let shorter : length c.in-Some.next.now < length c.lines.rest.now = rw c.in-Some.is at c.split_line.ensures.shorter in
    let goes_on : is_end c.lines.number c.split_line.result.0.now ≡ false = first_of (search rules, cc) in
    let said : line_said c.split_line.result.0.now ≡ Some c.in-Some-said.line = first_of (search rules, cc) in
    let pushed : c.push.new.self ≡ c.lines.log ++ c.in-Some-said.line ∷ [] = first_of (search rules, cc) in
    let size : length c.push.new.self ≡ length c.lines.log + 1 = ap (λ (lines : List LogLine). length lines) pushed ∙ length_push c.lines.log c.in-Some-said.line in
    record {
      counted = omega (arith, size, c.lines.invariant.counted);
      short = omega (arith, size, shorter, c.lines.invariant.short);
      so_far = rw pushed (lines_more c.lines.number _ c.lines.log c.lines.rest.now c.split_line.result.0.now c.lines.invariant.so_far c.in-Some.next.now cut c.in-Some-said.line goes_on said);
    }
