use Rattle.std.proofs.Common.{length}
use Rattle.layout_maker.proofs.dividing.+add_layouts.Given as goal

abbrev pub decreases-add_layouts : goal.decreases-add_layouts
decreases-add_layouts l = length l.free
