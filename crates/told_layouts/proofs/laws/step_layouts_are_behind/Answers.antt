use Rattle.told_layouts.proofs.Behind.{step_layouts_are_behind}
use Rattle.told_layouts.proofs.laws.step_layouts_are_behind.Goals as goal

pub returns : goal.returns
returns c = step_layouts_are_behind
