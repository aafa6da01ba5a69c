use Rattle.std.proofs.Common.{◌≡◌, ◌∙◌, ℕ, true, false, length, replicate, set, refl, ap}
use Rattle.set_search.proofs.Places.{only_within, core_alone}
use Rattle.set_search.proofs.search.SetSearch.ask.Goals as goal

pub returns-in-Some-clause-verdict : goal.returns-in-Some-clause-verdict
returns-in-Some-clause-verdict c =
    let L = c.args.layouts.now in
    let P = c.args.position.now in
    let S = c.args.set in
    let place = c.in-Some.place in
    let lost = c.in-Some.ensures.lost in
    let is : c.only.result ≡ set (replicate (length S) false) place true = c.only.ensures ∙ ap (λ (w : ℕ). set (replicate w false) place true) c.width.ensures.value in
    (only_within L P S c.requires.layouts place lost c.only.result is, core_alone L P S c.requires.layouts place lost c.only.result is c.args.moves)

pub search-requires-clause-made : goal.search-requires-clause-made
search-requires-clause-made c = c.in_default.ensures.none refl
