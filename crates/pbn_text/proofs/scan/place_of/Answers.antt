use Rattle.std.proofs.Common.{ℕ, Bool, ◌==◌, rules, tests}
use Rattle.std.proofs.lemmas.Iterator.{YieldsList-from_slice}
use Rattle.std.proofs.lemmas.Iterator.Search.{position_from_yields_List}
use Rattle.pbn_text.proofs.Ends.{end_within}
use Rattle.pbn_text.proofs.scan.place_of.Goals as goal

pub returns : goal.returns
returns c =
    let is : ℕ → Bool = λ b. b == c.args.byte in
    let found = position_from_yields_List is _ _ c.position.result c.position.ensures.ran (YieldsList-from_slice c.args.text.now (cc)) (λ x b q k. search (rules, tests)) in
    let ends = end_within is c.args.text.now c.position.result _ c.unwrap_or.ensures found in
    record { place = ends.0; inside = ends.1 }
