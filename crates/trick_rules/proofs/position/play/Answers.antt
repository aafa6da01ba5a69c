use Rattle.std.proofs.Common.{sym, subst}
use Rattle.trick_rules.specs.Positions.{IsSound}
use Rattle.trick_rules.specs.Play.{CanPlay}
use Rattle.trick_rules.proofs.Soundness.{after_card_sound, after_card-parts}
use Rattle.trick_rules.proofs.position.play.Goals as goal
use Rattle.trick_rules.proofs.Inside.{seen_as}

pub invariant_of-result : goal.invariant_of-result
invariant_of-result c =
    let t = seen_as c.position.inside in
    let can : CanPlay t c.args.card = rw (← c.position.view_is) at c.requires in
    let parts = after_card-parts t c.args.card c.without.result c.without-2.result c.without-3.result c.trick_after-trick.result.0 c.trick_after-trick.result.1
    c.without.ensures.value c.without-2.ensures.value c.without-3.ensures.value
    (rw (← c.position.view_is) at c.trick_after-trick.ensures.trick) (rw (← c.position.view_is) at c.trick_after-trick.ensures.need) in
    subst IsSound (sym parts) (after_card_sound t c.args.card c.position.invariant can)

pub returns-clause-sound : goal.returns-clause-sound
returns-clause-sound c = invariant_of-result c
