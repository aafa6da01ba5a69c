use Rattle.std.proofs.Common.{◌≡◌, ◌<◌, length, get_or, set, sym, ap, ◌∙◌, arith, rules}
use Rattle.std.proofs.lemmas.Option.{get_or_from_slice_get}
use Rattle.trick_rules.specs.Play.{makes}
use Rattle.double_dummy.proofs.LayoutResults.{results_upto, results_upto-more, results_upto-all}
use Rattle.assured_fronts.proofs.ends.judged.Goals as goal

pub loop-place-preserved : goal.loop-place-preserved
loop-place-preserved c =
    let n = c.args.node.now in
    let is : c.left.result ≡ get_or n.lefts c.loop-place.place c.left.result = sym (get_or_from_slice_get n.lefts c.loop-place.place c.left.result c.left.result c.left.ensures) in
    let low : c.loop-place.place < length n.lefts = search rules in
    c.set-made.ensures
    ∙ ap (λ made. set made c.loop-place.place c.makes.result) c.loop-place.invariant
    ∙ ap (λ made. set (results_upto (λ left. makes (record { position = n.position; left = left })) n.lefts c.loop-place.place) c.loop-place.place made) (search rules)
    ∙ results_upto-more (λ left. makes (record { position = n.position; left = left })) n.lefts c.loop-place.place c.left.result low is

pub returns : goal.returns
returns c = c.loop-place.invariant ∙ results_upto-all c.args.node.now.position c.args.node.now.lefts c.loop-place.place (omega arith)
