use Rattle.page_text.specs.Refutations.{given_layout}
use Rattle.page_text.proofs.Grown.{place_more}
use Rattle.page_text.proofs.refutations.push_given_layouts.Goals as goal

pub loop-place-preserved : goal.loop-place-preserved
loop-place-preserved c =
    place_more (given_layout c.args.refuted.now c.args.card) c.args.page.now c.loop-place.page c.push_given_layout.new.page c.loop-place.place c.loop-place.invariant c.in_ok-push_given_layout.ensures
