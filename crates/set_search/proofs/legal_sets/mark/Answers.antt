use Rattle.std.proofs.Common.{rules, ◌≡◌, ◌<◌, ◌∙◌, ℕ, true, [], length, get_or, set, ap, arith}
use Rattle.std.proofs.lemmas.List.{get_or_default}
use Rattle.win_vectors.specs.Fronts.{Vector}
use Rattle.set_search.proofs.Marked.{marked_more}
use Rattle.set_search.proofs.legal_sets.mark.Goals as goal

pub loop-card-preserved : goal.loop-card-preserved
loop-card-preserved c =
    let now = c.loop-card.legal in
    let card = c.in-Some.card in
    let at : c.from-number.result ≡ card = search rules in
    let low : card < length now = first_of (omega (arith, at, c.number.ensures.below, c.told-legal, c.loop-card.invariant.width), search rules) in
    let got : get_or now c.from-number.result c.index-legal-number.result ≡ get_or now card [] = ap (λ (i : ℕ). get_or now i c.index-legal-number.result) at ∙ get_or_default now card c.index-legal-number.result [] low in
    marked_more c.args.legal.now now c.args.cards c.loop-card.rest c.pop_first.new.self c.args.place card c.in-Some.ensures.value c.loop-card.invariant
    (set now c.from-number.result c.set.result) low
    (ap (λ (i : ℕ). set now i c.set.result) at ∙ ap (λ (v : Vector). set now card v) (c.set.ensures ∙ ap (λ (v : Vector). set v c.args.place true) got))
