use Rattle.page_text.specs.Layouts.{shown_by, layout_at}
use Rattle.page_text.proofs.Grown.{place_more}
use Rattle.page_text.proofs.layouts.push_layouts.Goals as goal

pub loop-place-preserved : goal.loop-place-preserved
loop-place-preserved c =
    place_more (layout_at (shown_by c.args.shown.now)) c.own.new.self c.loop-place.page c.push_layout.new.page c.loop-place.place c.loop-place.invariant c.in_ok-push_layout.ensures
