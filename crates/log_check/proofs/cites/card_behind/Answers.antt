use Rattle.std.proofs.Common.{◌≡◌, ◌<◌, ◌∙◌, ℕ, List, length, take, sym, ap, subst, arith}
use Rattle.std.specs.Prelude.{slice_get}
use Rattle.std.proofs.lemmas.Option.{get_or_from_slice_get}
use Rattle.std.proofs.lemmas.List.{take_more_same}
use Rattle.log_check.proofs.PathCards.{differ, split_last}
use Rattle.log_check.proofs.cites.card_behind.Goals as goal

pub returns-then-ne : goal.returns-then-ne
returns-then-ne c card is =
    let same : c.get.result ≡ c.get-in-loop-place.result
    = differ c.args.path.now card c.loop-place.place c.get.result c.get-in-loop-place.result
    (ap (λ (xs : List ℕ). slice_get xs c.loop-place.place) (sym is) ∙ c.get.ensures) c.get-in-loop-place.ensures in
    grind (arith, c.ne.ensures, c.if-ne.true, same)

pub loop-place-preserved : goal.loop-place-preserved
loop-place-preserved c =
    let same : c.get.result ≡ c.get-in-loop-place.result = grind (arith, c.ne.ensures, c.if-ne.false) in
    let low : c.loop-place.place < length c.args.line.now = omega arith in
    let low_too : c.loop-place.place < length c.args.path.now = omega arith in
    take_more_same c.args.line.now c.args.path.now c.loop-place.place 0 low low_too c.loop-place.invariant
    (get_or_from_slice_get c.args.line.now c.loop-place.place c.get.result 0 c.get.ensures ∙ same
    ∙ sym (get_or_from_slice_get c.args.path.now c.loop-place.place c.get-in-loop-place.result 0 c.get-in-loop-place.ensures))

pub returns : goal.returns
returns c = split_last c.args.line.now c.args.path.now c.get-2.result c.len-3.result c.len-3.ensures.value (omega arith)
    (subst (λ k. take k c.args.line.now ≡ take k c.args.path.now) (omega arith) c.loop-place.invariant) c.get-2.ensures
