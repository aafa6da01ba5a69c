use Rattle.page_text.specs.Picking.{rule}
use Rattle.page_text.proofs.Grown.{number_more}
use Rattle.page_text.proofs.picking.push_rules.Goals as goal

pub loop-place-preserved : goal.loop-place-preserved
loop-place-preserved c = number_more rule c.args.page.now c.loop-place.page c.push_rule.new.page c.loop-place.place c.loop-place.invariant c.in_ok-push_rule.ensures
