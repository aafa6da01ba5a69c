use Rattle.std.proofs.Common.{◌+◌, ◌∷◌, rules, tests, take, drop, sym, ap, ap₂, ◌∙◌}
use Rattle.std.proofs.lemmas.Iterator.{YieldsList-from_slice}
use Rattle.std.proofs.lemmas.Iterator.Search.{position_from_yields_List}
use Rattle.std.proofs.lemmas.List.{take_rest}
use Rattle.std.proofs.lemmas.List.Splits.{slice_split_first}
use Rattle.std.specs.List.{slice_split}
use Rattle.byte_text.proofs.Places.{found_at, found_none, found_inside}
use Rattle.byte_text.specs.Lines.{is_line_end}
use Rattle.byte_text.proofs.ReadLines.{one_line}
use Rattle.byte_text.proofs.lines.split_line.Goals as goal

pub returns-in-Some-clause-line : goal.returns-in-Some-clause-line
returns-in-Some-clause-line c =
    let text = c.args.text.now in
    let found = position_from_yields_List is_line_end _ _ c.position.result c.position.ensures.ran (YieldsList-from_slice text (cc)) (λ x b q k. search (rules, tests)) in
    let at = found_at is_line_end text c.position.result c.in-Some.end found c.in-Some.is in
    slice_split_first is_line_end text 0 (found_inside _ _ c.in-Some.end c.position.result found c.in-Some.is)
    ∙ sym (ap₂ (λ line rest. line ∷ slice_split is_line_end rest) (ap (λ n. take n text) at) (take_rest text (c.in-Some.end + 1) ∙ ap (λ n. drop (n + 1) text) at))

pub returns-in-None-clause-line : goal.returns-in-None-clause-line
returns-in-None-clause-line c =
    let text = c.args.text.now in
    let found = position_from_yields_List is_line_end _ _ c.position.result c.position.ensures.ran (YieldsList-from_slice text (cc)) (λ x b q k. search (rules, tests)) in
    one_line text (found_none is_line_end text c.position.result found c.in-None.is)
