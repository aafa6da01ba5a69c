use Rattle.std.proofs.Common.{◌-◌, ◌/◌, length, slice_index_or, ap, ap₂, ◌∙◌}
use Rattle.layout_maker.specs.Choosing.{ways}
use Rattle.layout_maker.specs.Divisions.{hands_of_size}
use Rattle.layout_maker.proofs.Hands.{length-hands_of_size}
use Rattle.suit_problem.specs.SuitTexts.{commons}
use Rattle.suit_problem.proofs.weights.division_weight.Goals as goal

pub returns : goal.returns
returns c =
    let room = 13 - c.args.west in
    let cards = c.others.result in
    ap₂ (λ n d. n / d)
    (c.count.ensures
    ∙ ap (λ wanted. length (hands_of_size wanted cards)) c.saturating_sub.ensures
    ∙ length-hands_of_size room cards
    ∙ ap (λ n. ways n room) c.others.ensures)
    (ap (λ place. slice_index_or commons place 0) c.from.ensures)
