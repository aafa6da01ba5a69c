use Rattle.std.proofs.Common.{◌≡◌, ◌∙◌, ℕ, true, false, length, replicate, set, refl, sym, ap, subst}
use Rattle.trick_rules.specs.Positions.{PositionValue}
use Rattle.set_nodes.specs.SetNodes.{node_at, AreLayoutsAt}
use Rattle.set_nodes.proofs.Numbers.{width_below}
use Rattle.set_memo.specs.Known.{IsLostAt}
use Rattle.set_search.specs.Judged.{AreAllMade}
use Rattle.set_search.proofs.Places.{only_within, core_alone}
use Rattle.set_search.proofs.OurCards.{comes, can_play_ours, layouts_after_ours}
use Rattle.set_search.proofs.Opened.{judged_none, judged_made, judged_lost, judged_all}
use Rattle.set_search.proofs.open_cards.open_cards.Goals as goal

pub rest-init : goal.rest-init
rest-init c = judged_none c.args.layouts.now c.args.position.now c.args.set c.args.tried c.none-core.result c.requires.legal
    (c.none-core.ensures ∙ ap (λ (w : ℕ). replicate w false) c.width-width.ensures.value)

pub play-after-requires : goal.play-after-requires
play-after-requires c =
    let own = c.rest.invariant.to_come c.in-Some.card (comes c.rest.rest c.pop_first.new.self c.in-Some.card c.in-Some.ensures.value) in
    can_play_ours c.args.layouts.now c.args.position.now c.requires.ours c.args.set c.in-Some.card c.requires.layouts own

pub lost_first_in-requires-clause-layouts : goal.lost_first_in-requires-clause-layouts
lost_first_in-requires-clause-layouts c =
    let own = c.rest.invariant.to_come c.in-Some.card (comes c.rest.rest c.pop_first.new.self c.in-Some.card c.in-Some.ensures.value) in
    subst (λ (t : PositionValue). AreLayoutsAt c.args.layouts.now t c.args.set) (sym c.play-after.ensures.value)
    (layouts_after_ours c.args.layouts.now c.args.position.now c.requires.ours c.args.set c.in-Some.card c.requires.layouts own)

pub lost_first_in-requires-clause-core : goal.lost_first_in-requires-clause-core
lost_first_in-requires-clause-core c = c.rest.invariant.within

pub either-core-requires : goal.either-core-requires
either-core-requires c =
    let L = c.args.layouts.now in
    let P = c.args.position.now in
    let S = c.args.set in
    let A = c.play-after.result in
    let own = c.rest.invariant.to_come c.in-Some.card (comes c.rest.rest c.pop_first.new.self c.in-Some.card c.in-Some.ensures.value) in
    let are = subst (λ (t : PositionValue). AreLayoutsAt L t S) (sym c.play-after.ensures.value) (layouts_after_ours L P c.requires.ours S c.in-Some.card c.requires.layouts own) in
    let place = c.in-Some-lost_first_in.place in
    let is : c.only.result ≡ set (replicate (length S) false) place true = c.only.ensures ∙ ap (λ (w : ℕ). set (replicate w false) place true) c.width-width.ensures.value in
    sym (width_below S c.rest.core c.rest.invariant.within) ∙ width_below S c.only.result (only_within L A S are place c.in-Some-lost_first_in.ensures.lost c.only.result is)

pub rest-preserved-in-Some-lost_first_in : goal.rest-preserved-in-Some-lost_first_in
rest-preserved-in-Some-lost_first_in c =
    let L = c.args.layouts.now in
    let P = c.args.position.now in
    let S = c.args.set in
    let A = c.play-after.result in
    let card = c.in-Some.card in
    let own = c.rest.invariant.to_come card (comes c.rest.rest c.pop_first.new.self card c.in-Some.ensures.value) in
    let are = subst (λ (t : PositionValue). AreLayoutsAt L t S) (sym c.play-after.ensures.value) (layouts_after_ours L P c.requires.ours S card c.requires.layouts own) in
    let place = c.in-Some-lost_first_in.place in
    let lost = c.in-Some-lost_first_in.ensures.lost in
    let is : c.only.result ≡ set (replicate (length S) false) place true = c.only.ensures ∙ ap (λ (w : ℕ). set (replicate w false) place true) c.width-width.ensures.value in
    judged_lost L P S c.args.tried c.rest.rest c.pop_first.new.self card c.in-Some.ensures.value c.rest.cards c.rest.core c.rest.invariant c.only.result c.either-core.result c.without-cards.result
    c.either-core.ensures c.without-cards.ensures.value (only_within L A S are place lost c.only.result is)
    (λ less. subst (λ (t : PositionValue). IsLostAt L t less c.only.result) c.play-after.ensures.value (core_alone L A S are place lost c.only.result is less))

pub rest-preserved : goal.rest-preserved
rest-preserved c =
    let L = c.args.layouts.now in
    let S = c.args.set in
    judged_made L c.args.position.now S c.args.tried c.rest.rest c.pop_first.new.self c.in-Some.card c.in-Some.ensures.value c.rest.cards c.rest.core c.rest.invariant
    (subst (λ (t : PositionValue). AreAllMade (node_at L t S)) c.play-after.ensures.value (c.in-None.ensures.none refl))

pub returns : goal.returns
returns c = judged_all c.args.layouts.now c.args.position.now c.args.set c.args.tried c.rest.rest c.rest.cards c.rest.core c.in_default.ensures.value.0 c.rest.invariant
