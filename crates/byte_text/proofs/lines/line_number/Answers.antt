use Rattle.std.proofs.Common.{◌≡◌, ◌+◌, ◌∙◌, length, min, take, ap, arith, rules}
use Rattle.std.specs.Prelude.{count_by}
use Rattle.std.proofs.lemmas.List.{take_min}
use Rattle.byte_text.specs.Lines.{is_line_end}
use Rattle.byte_text.proofs.lines.line_number.Goals as goal

pub returns-clause-value : goal.returns-clause-value
returns-clause-value c =
    let cut : c.min-end.result ≡ min c.args.at (length c.args.bytes.now) = first_of (search rules, omega arith) in
    ap (λ n. 1 + n) (c.count_line_ends.ensures.value ∙ ap (λ n. count_by is_line_end (take n c.args.bytes.now)) cut ∙ ap (count_by is_line_end) (take_min c.args.at c.args.bytes.now))
