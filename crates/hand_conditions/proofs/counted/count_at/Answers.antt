use Rattle.std.proofs.Common.{length, ap, ◌∙◌}
use Rattle.hand_conditions.proofs.Honours.{both_at}
use Rattle.hand_conditions.proofs.counted.count_at.Goals as goal

pub returns : goal.returns
returns c = c.count.ensures.value ∙ ap length (c.both.ensures.value ∙ both_at c.args.place c.args.hand c.at_place.result c.requires.a_set c.at_place.ensures)
