use Rattle.std.proofs.Common.{◌∙◌, ap, ◌++◌}
use Rattle.page_text.proofs.Grown.{cell_more}
use Rattle.page_text.proofs.lines.push_cells.Goals as goal

pub loop-place-preserved : goal.loop-place-preserved
loop-place-preserved c =
    cell_more c.args.page.now c.loop-place.page c.own.new.self c.args.vector c.loop-place.place c.get.result c.get.ensures c.loop-place.invariant
    (c.in_ok-own.ensures ∙ ap (λ t. c.loop-place.page ++ t) c.sign.ensures)
