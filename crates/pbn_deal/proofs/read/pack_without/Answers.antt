use Rattle.std.proofs.Common.{ℕ, ap, ◌∙◌}
use Rattle.std.specs.Prelude.{filter, not, true}
use Rattle.card_sets.specs.SetWords.{has_card}
use Rattle.card_sets.proofs.Sets.{filter-cards_where}
use Rattle.pbn_deal.proofs.read.pack_without.Goals as goal

pub returns : goal.returns
returns c =
    let own = λ (card : ℕ). not (has_card c.args.own card) in
    let dummy = λ (card : ℕ). not (has_card c.args.dummy card) in
    let first = c.minus.ensures.value ∙ ap (filter own) c.pack.ensures.value ∙ filter-cards_where own (λ _. true) in
    c.minus-2.ensures.value ∙ ap (filter dummy) first ∙ filter-cards_where dummy own
