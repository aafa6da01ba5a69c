use Rattle.std.proofs.Common.{◌∙◌, rules, tests}
use Rattle.std.proofs.lemmas.Iterator.{YieldsList-from_slice}
use Rattle.std.proofs.lemmas.Iterator.Search.{position_from_yields_List}
use Rattle.pbn_text.specs.Grammar.{is_no_text}
use Rattle.byte_text.proofs.Places.{end_from_position}
use Rattle.pbn_text.proofs.reading.text_len.Goals as goal

pub returns-clause-len : goal.returns-clause-len
returns-clause-len c =
    let bytes = c.args.bytes.now in
    let found = position_from_yields_List is_no_text _ _ c.position.result c.position.ensures.ran (YieldsList-from_slice bytes (cc)) (λ x b q k. search (rules, tests)) in
    c.unwrap_or.ensures ∙ end_from_position is_no_text bytes c.position.result found
