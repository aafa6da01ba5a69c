use Rattle.std.proofs.Common.{◌∙◌, ℕ, List, ap, subst}
use Rattle.trick_rules.specs.Play.{legal_in}
use Rattle.set_search.proofs.LeftOut.{AreKept, kept_all, kept_more, kept_without, enough}
use Rattle.set_search.proofs.neighbours.own_cards.Goals as goal

pub loop-card-init : goal.loop-card-init
loop-card-init c =
    let P = c.args.position.now in
    kept_all P c.legal_in-legal.result (c.legal_in-legal.ensures ∙ ap (λ (left : List ℕ). legal_in (record { position = P; left = left })) c.empty.ensures.value)

pub loop-card-preserved-in-Some-neighbour_above : goal.loop-card-preserved-in-Some-neighbour_above
loop-card-preserved-in-Some-neighbour_above c =
    kept_without c.args.position.now c.loop-card.rest c.pop_first.new.self c.loop-card.kept c.without-kept.result c.in-Some.card c.in-Some-neighbour_above.high c.in-Some.ensures.value c.without-kept.ensures.value
    c.in-Some-neighbour_above.ensures c.loop-card.invariant

pub loop-card-preserved : goal.loop-card-preserved
loop-card-preserved c = kept_more c.args.position.now c.loop-card.rest c.pop_first.new.self c.loop-card.kept c.in-Some.card c.in-Some.ensures.value c.loop-card.invariant

pub returns : goal.returns
returns c = enough c.args.position.now c.requires c.loop-card.kept (subst (λ (rest : List ℕ). AreKept c.args.position.now rest c.loop-card.kept) c.in_default.ensures.value.0 c.loop-card.invariant)
