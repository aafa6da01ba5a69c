use Rattle.std.proofs.Common.{◌∙◌, ◌==◌, not, rules, tests}
use Rattle.std.proofs.lemmas.Iterator.{YieldsList-from_slice}
use Rattle.std.proofs.lemmas.Iterator.Search.{position_from_yields_List}
use Rattle.byte_text.proofs.Places.{end_from_position}
use Rattle.page_text.proofs.steps.indentation.Goals as goal

pub returns : goal.returns
returns c =
    let text = c.args.text.now in
    let found = position_from_yields_List (λ byte. not (byte == 32)) _ _ c.position.result c.position.ensures.ran (YieldsList-from_slice text cc) (λ x b q k. search (rules, tests)) in
    c.unwrap_or.ensures ∙ end_from_position (λ byte. not (byte == 32)) text c.position.result found
