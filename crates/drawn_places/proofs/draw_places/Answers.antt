use Rattle.std.proofs.Common.{sym, subst}
use Rattle.rand.specs.Sample.{IsSampleOf}
use Rattle.drawn_places.proofs.Drawn.{sample-sorted}
use Rattle.drawn_places.proofs.draw_places.Goals as goal

pub returns : goal.returns
returns c =
    sample-sorted c.args.length c.args.amount c.into_vec-places.result.items c.sort.new.self.items
    (subst (IsSampleOf c.args.length c.args.amount) (sym c.into_vec-places.ensures) c.in_ok-sample.ensures) c.in_ok-sort.ensures.permutation c.in_ok-sort.ensures.sorted
