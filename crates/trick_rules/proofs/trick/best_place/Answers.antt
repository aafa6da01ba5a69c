use Rattle.std.proofs.Common.{◌≡◌, ◌+◌, ◌<◌, ltb, length, get_or, map, sym, ◌∙◌, arith}
use Rattle.std.proofs.lemmas.Bool.{ltb-true, ltb-false}
use Rattle.std.proofs.lemmas.Grind.{get_or_default_zero}
use Rattle.card_sets.specs.Cards.{suit_of}
use Rattle.trick_rules.specs.Play.{strength}
use Rattle.trick_rules.proofs.TrickLemmas.{IsHighest, IsHighest-takes, IsHighest-keeps, beats-strength, led_strong, strong_card, strength_read}
use Rattle.trick_rules.proofs.BestCard.{place_from_highest}
use Rattle.trick_rules.proofs.trick.best_place.Goals as goal
use Rattle.trick_rules.proofs.trick.best_place.Goals.{then-takes, else-takes}

pub loop-place-preserved : goal.loop-place-preserved
loop-place-preserved c =
    let trump = c.args.trump in
    let cards = c.args.cards.now in
    let led = get_or cards 0 0 in
    let xs = map (strength trump (suit_of led)) cards in
    let some : c.loop-place.place < length cards = c.loop-place-test.true in
    let first : led ≡ get_or cards 0 led = sym (get_or_default_zero cards 0 led (omega (arith, some))) in
    let card_best : c.index-cards-best.result ≡ get_or cards c.loop-place.best c.index-cards-best.result = c.index-cards-best.is in
    let card_place : c.index-cards-place.result ≡ get_or cards c.loop-place.place c.index-cards-place.result = c.index-cards-place.is in
    let at_best : get_or xs c.loop-place.best 0 ≡ strength trump (suit_of led) c.index-cards-best.result =
    strength_read trump cards c.loop-place.best led c.index-cards-best.result (omega (arith, c.loop-place.invariant.within, some)) first card_best in
    let at_place : get_or xs c.loop-place.place 0 ≡ strength trump (suit_of led) c.index-cards-place.result =
    strength_read trump cards c.loop-place.place led c.index-cards-place.result some first card_place in
    let at_first : get_or xs 0 0 ≡ strength trump (suit_of led) led = strength_read trump cards 0 led led (omega (arith, some)) first first in
    let strong : 0 < strength trump (suit_of led) c.index-cards-best.result = omega (arith, led_strong trump led, at_first, at_best, c.loop-place.invariant.most 0 (omega (arith, c.loop-place.invariant.within))) in
    let test : c.takes.result ≡ ltb (strength trump (suit_of led) c.index-cards-best.result) (strength trump (suit_of led) c.index-cards-place.result) =
    c.takes.ensures (suit_of led) (strong_card trump (suit_of led) c.index-cards-best.result strong)
    ∙ beats-strength trump (suit_of led) c.index-cards-place.result c.index-cards-best.result in
    elim c.if-takes.branch as (λ _. IsHighest xs (c.loop-place.place + 1) c.if-takes.best) [
      | then-takes w ↦ rw w.best-is (IsHighest-takes xs c.loop-place.place c.loop-place.best c.loop-place.invariant (omega (arith, at_best, at_place, ltb-true _ _ (sym test ∙ w.if-takes.true))))
      | else-takes w ↦ rw w.best-is (IsHighest-keeps xs c.loop-place.place c.loop-place.best c.loop-place.invariant (omega (arith, at_best, at_place, ltb-false _ _ (sym test ∙ w.if-takes.false))))
    ]

pub returns-clause-value : goal.returns-clause-value
returns-clause-value c =
    let cards = c.args.cards.now in
    let end : c.loop-place.place ≡ length cards = omega (arith, c.loop-place.auto.place-end, c.loop-place-test.false, c.requires) in
    place_from_highest c.args.trump cards c.loop-place.best c.requires (rw end at c.loop-place.invariant)
