use Rattle.std.proofs.Common.{◌∙◌, sym, ap, ◌∷◌, []}
use Rattle.am_match.specs.Defences.{tell as tell_one}
use Rattle.am_match.proofs.Sitting.{tell-none, told_one_more, told_all}
use Rattle.am_match.proofs.seats.tell_past.Goals as goal

pub loop-place-init : goal.loop-place-init
loop-place-init g c = sym (tell-none _)

pub loop-place-preserved : goal.loop-place-preserved
loop-place-preserved g c = c.in_ok-tell.ensures ∙ ap (λ who. tell_one (c.get.result ∷ []) who) c.loop-place.invariant
    ∙ told_one_more c.args.cards.now c.loop-place.place c.get.result _ c.get.ensures

pub returns : goal.returns
returns g c = c.loop-place.invariant ∙ told_all c.args.cards.now c.loop-place.place c.len-place-end.result _ c.len-place-end.ensures.value c.loop-place-test.false
