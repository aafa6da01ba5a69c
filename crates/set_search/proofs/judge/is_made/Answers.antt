use Rattle.std.proofs.Common.{ℕ, List, sym, subst}
use Rattle.trick_rules.specs.Positions.{FitsLeft}
use Rattle.set_search.proofs.Places.{fits_there}
use Rattle.set_search.proofs.judge.is_made.Goals as goal

pub makes-requires : goal.makes-requires
makes-requires c = subst (λ (left : List ℕ). FitsLeft c.args.position.now left) (sym c.left_at.ensures)
    (fits_there c.args.layouts.now c.args.position.now c.args.set c.requires.layouts c.args.place c.requires.chosen)
