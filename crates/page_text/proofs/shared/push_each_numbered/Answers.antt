use Rattle.page_text.specs.Shared.{numbered}
use Rattle.page_text.proofs.Grown.{number_more}
use Rattle.page_text.proofs.shared.push_each_numbered.Goals as goal

pub loop-place-preserved : goal.loop-place-preserved
loop-place-preserved c =
    number_more (numbered c.args.before.now c.args.after.now) c.args.page.now c.loop-place.page c.push_numbered.new.page c.loop-place.place c.loop-place.invariant c.in_ok-push_numbered.ensures
