use Rattle.std.proofs.Common.{◌∙◌, List, refl, sym, subst}
use Rattle.win_vectors.specs.Fronts.{Vector}
use Rattle.log_check.specs.Steps.{CoverAlike}
use Rattle.log_check.proofs.best.best_line.Goals as goal

pub returns : goal.returns
returns c = record {
  rule = refl;
  path = sym c.same_path.ensures;
  moves = refl;
  from = sym (c.in_ok-from.ensures ∙ c.as_slice.ensures);
  vectors = subst (λ (vs : List Vector). CoverAlike vs c.in_ok-vectors.vectors) c.as_slice-2.ensures c.in_ok-vectors.ensures;
}
