use Rattle.std.proofs.Common.{◌++◌, [], ◌∷◌, take, ap, sym, ◌∙◌}
use Rattle.std.specs.Prelude.{◌==◌, ◌||◌}
use Rattle.std.proofs.lemmas.List.{take_more, take_all}
use Rattle.card_sets.specs.SetWords.{has_card, cards_where}
use Rattle.layout_maker.specs.MadeProblem.{set_of}
use Rattle.layout_maker.proofs.MadePacks.{set_of-nil, set_of-push}
use Rattle.suit_problem.proofs.sides.set_of.Goals as goal

pub loop-card-init : goal.loop-card-init
loop-card-init c = c.empty-set.ensures.value ∙ sym set_of-nil

pub loop-card-preserved : goal.loop-card-preserved
loop-card-preserved c =
    let done = take c.loop-card.card-index c.args.cards.now in
    c.with-set.ensures.value
    ∙ ap (λ cards. cards_where (λ d. has_card cards d || (d == c.card-item.result))) c.loop-card.invariant
    ∙ set_of-push done c.card-item.result
    ∙ ap set_of (ap (λ card. done ++ card ∷ []) c.card-item.is ∙ sym (take_more c.args.cards.now c.loop-card.card-index c.card-item.result c.loop-card-test.true))

pub returns : goal.returns
returns c = c.loop-card.invariant ∙ ap set_of (take_all c.loop-card.card-index c.args.cards.now c.loop-card-test.false)
