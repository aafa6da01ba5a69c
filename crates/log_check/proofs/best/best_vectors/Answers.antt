use Rattle.std.proofs.Common.{◌≡◌, List, sym, subst}
use Rattle.std.specs.Prelude.{Result, Ok, Err, IfOk}
use Rattle.win_vectors.specs.Fronts.{Vector}
use Rattle.log_check.specs.Steps.{CoverAlike}
use Rattle.log_check.proofs.Joined.{alike-refl}
use Rattle.log_check.proofs.best.best_vectors.Goals as goal

-- a list that is one of two alike is like the other
made : {E : Type 0} (vs list : List Vector) (made : Result (List Vector) E) → CoverAlike vs list → IfOk made (λ best. best ≡ list) → IfOk made (CoverAlike vs)
made vs list (Ok best) alike is = subst (CoverAlike vs) (sym is) alike
made vs list (Err e) alike is = tt

pub returns-then-not-have_width : goal.returns-then-not-have_width
returns-then-not-have_width c = made c.args.vectors.now c.args.vectors.now c.of.result (alike-refl c.args.vectors.now) c.of.ensures

pub returns : goal.returns
returns c = made c.args.vectors.now c.as_slice.result.now c.of-2.result
    (subst (CoverAlike c.args.vectors.now) (sym c.as_slice.ensures.value) c.in_ok-front.ensures.alike) c.of-2.ensures
