use Rattle.std.proofs.Common.{replicate, true, ap, ◌∙◌}
use Rattle.alphamu_core.proofs.Inherited.{all_made}
use Rattle.assured_fronts.proofs.ends.results.Goals as goal

pub returns-then-all_made : goal.returns-then-all_made
returns-then-all_made c = c.all.ensures ∙ ap (λ width. replicate width true) c.width.ensures.value ∙ all_made c.args.node.now (c.requires c.if-all_made.true)
