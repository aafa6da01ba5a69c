use Rattle.std.proofs.Common.{◌∙◌, false, set, sym}
use Rattle.alphamu_core.specs.Judging.{makes_at}
use Rattle.alphamu_core.proofs.Judging.{chosen_first, chosen_second}
use Rattle.alphamu_core.proofs.results.judge_at.Goals as goal

pub returns-then-is_made : goal.returns-then-is_made
returns-then-is_made c =
    chosen_first (makes_at c.args.node.now c.args.place) c.args.made (set c.args.made c.args.place false) (sym c.is_made.ensures ∙ c.if-is_made.true)

pub returns-else-is_made : goal.returns-else-is_made
returns-else-is_made c =
    c.set.ensures ∙ chosen_second (makes_at c.args.node.now c.args.place) c.args.made (set c.args.made c.args.place false) (sym c.is_made.ensures ∙ c.if-is_made.false)
