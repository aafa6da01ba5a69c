use Rattle.std.proofs.Common.{ℕ, List, ap, ap₂, ◌∙◌}
use Rattle.std.specs.Prelude.{◌==◌, ◌||◌}
use Rattle.card_sets.specs.SetWords.{has_card, cards_where}
use Rattle.hand_conditions.proofs.Honours.{four_cards}
use Rattle.hand_conditions.proofs.counted.at_place.Goals as goal

pub returns : goal.returns
returns c =
    let put = λ (these : List ℕ) (x : ℕ). cards_where (λ d. has_card these d || (d == x)) in
    four_cards c.args.place c.with.result c.with-2.result c.with-3.result c.with-4.result c.requires
    (c.with.ensures.value ∙ ap₂ put c.empty.ensures.value c.from_number.ensures)
    (c.with-2.ensures.value ∙ ap (put c.with.result) c.from_number-2.ensures)
    (c.with-3.ensures.value ∙ ap (put c.with-2.result) c.from_number-3.ensures)
    (c.with-4.ensures.value ∙ ap (put c.with-3.result) c.from_number-4.ensures)
