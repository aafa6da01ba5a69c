use Rattle.std.proofs.Common.{◌≡◌, map, ap, ◌∙◌}
use Rattle.std.proofs.lemmas.Result.{IfOk-weaker}
use Rattle.pbn_deal.specs.BoardRead.{together}
use Rattle.layout_maker.specs.Divisions.{layout_with, hands_of_size, divisions}
use Rattle.suit_problem.proofs.Lists.{hands_alone}
use Rattle.suit_problem.proofs.texts.divisions.Goals as goal

pub returns : goal.returns
returns c =
    let missing = c.args.missing in
    let size = c.args.size in
    IfOk-weaker c.layouts.result
    (λ layouts. layouts.items ≡ map (layout_with missing) (map (together c.empty.result) (hands_of_size size missing)))
    (λ layouts. layouts.items ≡ divisions size missing)
    (λ layouts is. is
    ∙ ap (λ none. map (layout_with missing) (map (together none) (hands_of_size size missing))) c.empty.ensures.value
    ∙ ap (map (layout_with missing)) (hands_alone size missing c.requires))
    c.layouts.ensures
