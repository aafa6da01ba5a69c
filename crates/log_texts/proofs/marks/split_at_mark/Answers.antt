use Rattle.std.proofs.Common.{ℕ, ◌+◌, ◌==◌, ◌∷◌, rules, tests, take, drop, sym, ap, ap₂, ◌∙◌}
use Rattle.std.proofs.lemmas.Iterator.{YieldsList-from_slice}
use Rattle.std.proofs.lemmas.Iterator.Search.{position_from_yields_List}
use Rattle.std.proofs.lemmas.List.{take_rest}
use Rattle.std.proofs.lemmas.List.Splits.{slice_split_first}
use Rattle.byte_text.proofs.Places.{found_at, found_none, found_inside}
use Rattle.log_texts.specs.Reading.{pieces_at}
use Rattle.log_texts.proofs.Cut.{one_piece}
use Rattle.log_texts.proofs.marks.split_at_mark.Goals as goal

pub returns-in-Some-clause-pieces : goal.returns-in-Some-clause-pieces
returns-in-Some-clause-pieces c =
    let text = c.args.text.now in
    let is = λ (byte : ℕ). byte == c.args.mark in
    let found = position_from_yields_List is _ _ c.position.result c.position.ensures.ran (YieldsList-from_slice text (cc)) (λ x b q k. search (rules, tests)) in
    let at = found_at is text c.position.result c.in-Some.end found c.in-Some.is in
    slice_split_first is text 0 (found_inside _ _ c.in-Some.end c.position.result found c.in-Some.is)
    ∙ sym (ap₂ (λ piece rest. piece ∷ pieces_at c.args.mark rest) (ap (λ n. take n text) at) (take_rest text (c.in-Some.end + 1) ∙ ap (λ n. drop (n + 1) text) at))

pub returns-in-None-clause-pieces : goal.returns-in-None-clause-pieces
returns-in-None-clause-pieces c =
    let text = c.args.text.now in
    let is = λ (byte : ℕ). byte == c.args.mark in
    let found = position_from_yields_List is _ _ c.position.result c.position.ensures.ran (YieldsList-from_slice text (cc)) (λ x b q k. search (rules, tests)) in
    one_piece c.args.mark text (found_none is text c.position.result found c.in-None.is)
