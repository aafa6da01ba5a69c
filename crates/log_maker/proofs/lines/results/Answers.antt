use Rattle.std.proofs.Common.{◌∙◌, arith, rules}
use Rattle.trick_rules.specs.Play.{makes}
use Rattle.double_dummy.proofs.LayoutResults.{one_more_result, results_upto-all}
use Rattle.log_maker.proofs.lines.results.Goals as goal

pub loop-place-preserved : goal.loop-place-preserved
loop-place-preserved c = one_more_result (λ left. makes (record { position = c.args.node.now.position; left = left })) c.args.node.now.lefts c.loop-place.place c.left.result c.makes.result c.loop-place.made c.set-made.result (search rules) c.left.ensures c.loop-place.invariant (search rules) c.set-made.ensures

pub returns : goal.returns
returns c = c.loop-place.invariant ∙ results_upto-all c.args.node.now.position c.args.node.now.lefts c.loop-place.place (omega arith)
