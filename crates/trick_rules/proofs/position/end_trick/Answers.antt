use Rattle.std.proofs.Common.{◌≡◌, ◌-◌, cond, [], ◌∷◌, ◌++◌, length, sym, subst, ap, ◌∙◌}
use Rattle.card_sets.specs.declared.seat.Seat.{Seat}
use Rattle.trick_rules.specs.declared.position.Position.TheInside.{Inside}
use Rattle.trick_rules.specs.Positions.{TrickValue, PositionValue, seat_after, IsSound}
use Rattle.trick_rules.specs.Play.{is_declarers, take_out, winning_place, CanPlay}
use Rattle.trick_rules.proofs.Soundness.{after_third, after_card_sound, after_card-parts}
use Rattle.trick_rules.proofs.position.end_trick.Goals as goal
use Rattle.trick_rules.proofs.position.end_trick.Goals.{then-is_ours, else-is_ours}
use Rattle.trick_rules.proofs.Inside.{seen_as}

pub invariant_of-result : goal.invariant_of-result
invariant_of-result c =
    let t = seen_as c.position.inside in
    let card = c.args.card in
    let can : CanPlay t card = rw (← c.position.view_is) at c.requires.held in
    let fourth : length t.trick.cards ≡ 3 = rw (← c.position.view_is) at c.requires.fourth in
    let wins : c.args.place ≡ winning_place t.trump (t.trick.cards ++ card ∷ []) = rw (← c.position.view_is) at c.requires.wins in
    let third = after_third t card fourth in
    let winner : Seat = seat_after (winning_place t.trump (t.trick.cards ++ card ∷ [])) t.trick.leader in
    let leads : c.seat_after-leader.result ≡ winner = c.seat_after-leader.ensures ∙ ap (λ (q : Inside). seat_after c.args.place q.trick.leader) c.position-inside.view_is ∙ ap (λ n. seat_after n t.trick.leader) wins in
    let flag : c.is_ours.result ≡ is_declarers winner = c.is_ours.ensures ∙ ap is_declarers leads in
    let need : c.if-is_ours.need ≡ cond (is_declarers winner) (t.need - 1) t.need =
    elim c.if-is_ours.branch as (λ _. c.if-is_ours.need ≡ cond (is_declarers winner) (t.need - 1) t.need) [
      | then-is_ours w ↦ w.need-is ∙ w.saturating_sub-need.ensures ∙ ap (λ (q : Inside). q.need - 1) c.position-inside.view_is ∙ ap (λ b. cond b (t.need - 1) t.need) (sym w.if-is_ours.true ∙ flag)
      | else-is_ours w ↦ w.need-is ∙ ap (λ (q : Inside). q.need) c.position-inside.view_is ∙ ap (λ b. cond b (t.need - 1) t.need) (sym w.if-is_ours.false ∙ flag)
    ] in
    let parts = after_card-parts t card c.without.result c.without-2.result c.without-3.result c.led_by.result c.if-is_ours.need
    (c.without.ensures.value ∙ ap (λ (q : Inside). take_out card q.declarer) c.position-inside.view_is)
    (c.without-2.ensures.value ∙ ap (λ (q : Inside). take_out card q.dummy) c.position-inside.view_is)
    (c.without-3.ensures.value ∙ ap (λ (q : Inside). take_out card q.unseen) c.position-inside.view_is)
    (c.led_by.ensures ∙ ap (λ (l : Seat). let trick : TrickValue = record { leader = l; cards = [] } in trick) leads ∙ sym (ap (λ (q : PositionValue). q.trick) third))
    (need ∙ sym (ap (λ (q : PositionValue). q.need) third)) in
    subst (λ (q : Inside). IsSound (record { declarer = c.without.result; dummy = c.without-2.result; unseen = c.without-3.result; trick = c.led_by.result; need = c.if-is_ours.need; trump = q.trump }))
    (sym c.position-inside.view_is) (subst IsSound (sym parts) (after_card_sound t card c.position.invariant can))

pub returns-clause-sound : goal.returns-clause-sound
returns-clause-sound c = invariant_of-result c
