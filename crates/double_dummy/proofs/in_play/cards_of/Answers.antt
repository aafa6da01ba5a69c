use Rattle.std.proofs.Common.{ap, ◌∙◌}
use Rattle.card_sets.specs.SetWords.{has_card, cards_where}
use Rattle.trick_rules.specs.Positions.{TrickValue}
use Rattle.double_dummy.proofs.InPlay.{first-none, first-more, first-all}
use Rattle.double_dummy.proofs.in_play.cards_of.Goals as goal

pub loop-card-init : goal.loop-card-init
loop-card-init c = first-none c.as_slice-card-items.result.now c.empty-cards.result c.empty-cards.ensures.value

pub loop-card-preserved : goal.loop-card-preserved
loop-card-preserved c =
    c.with-cards.ensures.value
    ∙ first-more c.as_slice-card-items.result.now c.loop-card.cards c.loop-card.card-index c.card-item.result c.loop-card-test.true c.card-item.is c.loop-card.invariant

pub returns : goal.returns
returns c =
    first-all c.as_slice-card-items.result.now c.loop-card.cards c.loop-card.card-index c.loop-card-test.false c.loop-card.invariant
    ∙ ap (λ xs. cards_where (has_card xs)) (c.as_slice-card-items.ensures.value ∙ ap (λ (trick : TrickValue). trick.cards) c.trick.view_is)
