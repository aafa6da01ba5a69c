use Rattle.std.proofs.Common.{◌≡◌, ◌==◌, true, false, not, eqb, filter, ap, sym, subst, ◌∙◌, rules}
use Rattle.card_sets.specs.SetWords.{has_card}
use Rattle.trick_rules.specs.Positions.{FitsLeft}
use Rattle.trick_rules.specs.Play.{CanPlay, after_card}
use Rattle.trick_rules.proofs.CardLists.{first_has, or_true}
use Rattle.trick_rules.proofs.PlayLaws.{a_choice_can_be_played}
use Rattle.fusion_base.proofs.Sampled.{makes_there, sifted, sifted-start, sifted-made, sifted-failed, sifted-all, fits_after}
use Rattle.fusion_base.proofs.table.made_cards.Goals as goal

pub loop-card-init : goal.loop-card-init
loop-card-init c =
    record {
      made = c.choices-made.ensures ∙ sifted-start c.args.node.now c.args.left ∙ ap (sifted c.args.node.now c.args.left) (sym c.choices-made.ensures);
      legal = λ card h. sym (ap (λ xs. has_card xs card) c.choices-made.ensures) ∙ h;
    }

pub play-after-requires : goal.play-after-requires
play-after-requires c =
    let card = c.in-Some.card in
    let choice = c.loop-card.invariant.legal card (rw c.in-Some.ensures.value (first_has card c.pop_first.new.self)) in
    subst (λ table. CanPlay table card) (sym c.position.ensures.value) (a_choice_can_be_played c.args.node.now card c.position.ensures.a_node choice)

pub makes-requires : goal.makes-requires
makes-requires c =
    let n = c.args.node.now in
    let card = c.in-Some.card in
    let choice = c.loop-card.invariant.legal card (rw c.in-Some.ensures.value (first_has card c.pop_first.new.self)) in
    subst (λ table. FitsLeft table c.without.result) (sym (c.play-after.ensures.value ∙ ap (λ table. after_card table card) c.position.ensures.value))
    (subst (λ left. FitsLeft (after_card n.position card) left) (sym c.without.ensures.value) (fits_after n c.args.left c.position.ensures.a_node c.requires.ours c.requires.fits card choice))

pub loop-card-preserved-then-not-makes : goal.loop-card-preserved-then-not-makes
loop-card-preserved-then-not-makes c =
    let n = c.args.node.now in
    let card = c.in-Some.card in
    let same = makes_there n c.args.left card c.makes.result _ c.play-after.result c.without.result c.makes.ensures.answer c.play-after.ensures.value c.position.ensures.value c.without.ensures.value in
    let failed : c.makes.result ≡ false = search rules in
    record {
      made = c.without-made.ensures.value ∙ ap (filter (λ d. not (d == card))) c.loop-card.invariant.made ∙ sifted-failed n c.args.left c.loop-card.rest c.pop_first.new.self card c.in-Some.ensures.value c.pop_first.ensures.a_set (sym same ∙ failed);
      legal = λ d h. c.loop-card.invariant.legal d (rw (c.in-Some.ensures.value, h) (or_true (eqb card d)));
    }

pub loop-card-preserved : goal.loop-card-preserved
loop-card-preserved c =
    let n = c.args.node.now in
    let card = c.in-Some.card in
    let same = makes_there n c.args.left card c.makes.result _ c.play-after.result c.without.result c.makes.ensures.answer c.play-after.ensures.value c.position.ensures.value c.without.ensures.value in
    let made : c.makes.result ≡ true = search rules in
    record {
      made = c.loop-card.invariant.made ∙ sifted-made n c.args.left c.loop-card.rest c.pop_first.new.self card c.in-Some.ensures.value (sym same ∙ made);
      legal = λ d h. c.loop-card.invariant.legal d (rw (c.in-Some.ensures.value, h) (or_true (eqb card d)));
    }

pub returns : goal.returns
returns c = c.loop-card.invariant.made ∙ sifted-all c.args.node.now c.args.left c.loop-card.rest (search rules)
