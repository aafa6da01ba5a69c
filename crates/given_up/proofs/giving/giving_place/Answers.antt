use Rattle.std.proofs.Common.{◌≡◌, ◌<◌, ◌+◌, ◌∙◌, ℕ, List, true, false, length, ap, ap₂, sym, subst, arith, rules}
use Rattle.trick_rules.specs.Positions.{PositionValue, State}
use Rattle.trick_rules.specs.Play.{after, after_card, take_out, makes}
use Rattle.trick_rules.proofs.PlayLaws as play
use Rattle.given_up.proofs.OnTheWay.{IsUnderWay, sets_out, card_legal, next_state, goes_on, gives_up, never}
use Rattle.given_up.proofs.giving.giving_place.Goals as goal

-- the position and the hand after a card make the state after it
arrives : (s : State) (card : ℕ) (t : PositionValue) (hand : List ℕ) → t ≡ after_card s.position card → hand ≡ take_out card s.left → record { position = t; left = hand } ≡ after s card
arrives s card t hand at held = ap₂ (λ (u : PositionValue) (h : List ℕ). record { position = u; left = h }) at held

pub loop-place-init : goal.loop-place-init
loop-place-init c = rw c.copy-at.ensures (sets_out (record { position = c.args.position.now; left = c.args.left }) c.args.cards.now c.requires.state c.requires.legal)

pub play-at-requires : goal.play-at-requires
play-at-requires c =
    let s : State = record { position = c.loop-place.at; left = c.loop-place.held } in
    let low : c.loop-place.place < length c.args.cards.now = search rules in
    let legal = card_legal _ _ _ s c.get-card.result c.loop-place.invariant low c.get-card.ensures in
    play.a_legal_card_can_be_played s c.get-card.result c.loop-place.invariant.state legal

pub makes-requires : goal.makes-requires
makes-requires c =
    let s : State = record { position = c.loop-place.at; left = c.loop-place.held } in
    let low : c.loop-place.place < length c.args.cards.now = search rules in
    rw (c.play-at.ensures.value, c.without-held.ensures.value) (next_state _ _ _ s c.get-card.result c.loop-place.invariant low c.get-card.ensures).fits

pub loop-place-preserved : goal.loop-place-preserved
loop-place-preserved c =
    let start : State = record { position = c.args.position.now; left = c.args.left } in
    let s : State = record { position = c.loop-place.at; left = c.loop-place.held } in
    let low : c.loop-place.place < length c.args.cards.now = search rules in
    let there = arrives s c.get-card.result _ _ c.play-at.ensures.value c.without-held.ensures.value in
    let kept : c.makes.result ≡ true = search rules in
    let made = sym (ap makes there) ∙ sym c.makes.ensures.answer ∙ kept in
    subst (λ (t : State). IsUnderWay start c.args.cards.now (c.loop-place.place + 1) t) (sym there) (goes_on _ _ _ s c.get-card.result c.loop-place.invariant low c.get-card.ensures made)

pub returns-then-not-makes : goal.returns-then-not-makes
returns-then-not-makes c =
    let s : State = record { position = c.loop-place.at; left = c.loop-place.held } in
    let low : c.loop-place.place < length c.args.cards.now = search rules in
    let there = arrives s c.get-card.result _ _ c.play-at.ensures.value c.without-held.ensures.value in
    let lost : c.makes.result ≡ false = search rules in
    gives_up _ _ _ s c.get-card.result c.loop-place.invariant low c.get-card.ensures (sym (ap makes there) ∙ sym c.makes.ensures.answer ∙ lost)

pub returns : goal.returns
returns c =
    let s : State = record { position = c.loop-place.at; left = c.loop-place.held } in
    never _ _ c.loop-place.place s c.loop-place.invariant (omega (arith, c.len-place-end.ensures.value, c.loop-place-test.false))
