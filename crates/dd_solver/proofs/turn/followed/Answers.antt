use Rattle.std.proofs.Common.{◌≢◌, ◌<◌, length, sym, subst, ap, ◌∙◌, arith}
use Rattle.trick_rules.specs.Positions.{PositionValue, IsSound}
use Rattle.trick_rules.specs.Play.{CanPlay}
use Rattle.trick_rules.proofs.Soundness.{after_short, after_card_sound, after_card-parts}
use Rattle.trick_rules.proofs.Inside.{seen_as}
use Rattle.dd_solver.proofs.turn.followed.Goals as goal

pub with_card-requires : goal.with_card-requires
with_card-requires c =
    let goes_on : length c.position.inside.trick.cards ≢ 3 = rw (← c.position.view_is) at c.requires.goes_on in
    omega (arith, c.position.invariant.trick_short, goes_on)

pub invariant_of-result : goal.invariant_of-result
invariant_of-result c =
    let t = seen_as c.position.inside in
    let card = c.args.card in
    let can : CanPlay t card = rw (← c.position.view_is) at c.requires.held in
    let goes_on : length t.trick.cards ≢ 3 = rw (← c.position.view_is) at c.requires.goes_on in
    let short : length t.trick.cards < 3 = omega (arith, c.position.invariant.trick_short, goes_on) in
    let same = sym (after_short t card short) in
    let parts = after_card-parts t card c.without.result c.without-2.result c.without-3.result c.with_card.result t.need
    c.without.ensures.value c.without-2.ensures.value c.without-3.ensures.value
    (c.with_card.ensures ∙ ap (λ (q : PositionValue). q.trick) same) (ap (λ (q : PositionValue). q.need) same) in
    subst IsSound (sym parts) (after_card_sound t card c.position.invariant can)
