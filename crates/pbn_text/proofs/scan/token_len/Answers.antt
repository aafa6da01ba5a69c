use Rattle.std.proofs.Common.{rules, tests}
use Rattle.std.proofs.lemmas.Iterator.{YieldsList-from_slice}
use Rattle.std.proofs.lemmas.Iterator.Search.{position_from_yields_List}
use Rattle.pbn_text.specs.Pieces.{ends_token}
use Rattle.pbn_text.proofs.Ends.{end_within}
use Rattle.pbn_text.proofs.scan.token_len.Goals as goal

pub returns : goal.returns
returns c =
    let found = position_from_yields_List ends_token _ _ c.position.result c.position.ensures.ran (YieldsList-from_slice c.args.text.now (cc)) (λ x b q k. search (rules, tests)) in
    let ends = end_within ends_token c.args.text.now c.position.result _ c.unwrap_or.ensures found in
    record { len = ends.0; inside = ends.1 }
