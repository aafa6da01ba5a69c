use Rattle.std.proofs.Common.{refl}
use Rattle.win_vectors.specs.Fronts.{Covers}
use Rattle.win_vectors.proofs.Insertion.{covered-reduced}
use Rattle.pareto_fronts.proofs.front.Front.insert.Goals as goal

pub returns-in_default-clause-ok : goal.returns-in_default-clause-ok
returns-in_default-clause-ok c =
    let above : Covers c.self.inside.vectors.items c.args.vector = rw (← c.as_slice.ensures) (c.in_default.ensures.covered refl) in
    rw (← c.self.view_is) (covered-reduced c.args.vector c.self.inside.vectors.items c.self.inside.vectors.items c.self.invariant.reduced above)
