use Rattle.std.proofs.Common.{◌++◌, ◌∙◌, ap}
use Rattle.std.specs.Fmt.{decimal}
use Rattle.am_report.specs.Lines.{space_before}
use Rattle.am_report.proofs.Grown.{item_more}
use Rattle.am_report.proofs.head.push_each_weight.Goals as goal

pub loop-place-preserved : goal.loop-place-preserved
loop-place-preserved c =
    item_more decimal c.args.text.now c.loop-place.text c.push_space.new.text c.push_number.new.self c.args.weights.now c.loop-place.place c.get.result c.get.ensures.value c.loop-place.invariant
    (c.in_ok-push_space.ensures ∙ ap (λ n. c.loop-place.text ++ space_before n) c.from.ensures) (c.in_ok-push_number.ensures.appended ∙ ap (λ n. c.push_space.new.text ++ decimal n) c.from-in-loop-place.ensures)
