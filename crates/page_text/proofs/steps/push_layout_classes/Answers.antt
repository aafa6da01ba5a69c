use Rattle.page_text.specs.Steps.{layout_class}
use Rattle.page_text.proofs.Grown.{place_more}
use Rattle.page_text.proofs.steps.push_layout_classes.Goals as goal

pub loop-place-preserved : goal.loop-place-preserved
loop-place-preserved c =
    place_more (layout_class c.args.layouts) c.args.page.now c.loop-place.page c.push_layout_class.new.page c.loop-place.place c.loop-place.invariant c.in_ok-push_layout_class.ensures
