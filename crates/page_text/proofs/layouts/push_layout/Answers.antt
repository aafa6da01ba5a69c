use Rattle.page_text.specs.Layouts.{shown_by}
use Rattle.page_text.proofs.OneLayout.{layout_added}
use Rattle.page_text.proofs.layouts.push_layout.Goals as goal

pub returns : goal.returns
returns c =
    layout_added c.push_plays.result (shown_by c.args.shown.now) c.args.place c.position-position.result.now c.left.result c.get.result c.args.page.now c.push_hands.new.page c.push_worth.new.page c.push_makers.new.page c.push_plays.new.page
    c.position-position.ensures.value c.left.ensures c.get.ensures.value c.in_ok-push_hands.ensures c.in_ok-push_worth.ensures c.in_ok-push_makers.ensures c.push_plays.ensures
