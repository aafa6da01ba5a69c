use Rattle.std.proofs.Common.{◌+◌, ◌≤◌, ◌∙◌, sym, length, true, false, ◌∷◌, [], replicate, arith}
use Rattle.std.proofs.lemmas.List.{length-replicate}
use Rattle.win_vectors.specs.Fronts.{IsReduced}
use Rattle.win_vectors.proofs.Reduction.{reduced-not_empty}
use Rattle.pareto_fronts.proofs.FrontLemmas.{on_ok}
use Rattle.front_join.proofs.joiner.Joiner.new.Goals as goal

-- the vector of all ones went in
front_is : (c : goal.After-none) → IsReduced (replicate c.args.width true ∷ []) c.insert.new.self.vectors
front_is c =
    let spare : length c.new-optimistic.result.vectors + 1 ≤ c.new-optimistic.result.room = rw (c.new-optimistic.ensures.empty, c.new-optimistic.ensures.room) (omega arith) in
    rw (c.all.ensures, c.new-optimistic.ensures.empty) at (on_ok c.insert.result (c.insert.ensures.succeeds spare) c.insert.ensures.ok)

pub invariant_of-result : goal.invariant_of-result
invariant_of-result c = record {
  front = c.insert.ensures.front;
  not_empty = reduced-not_empty (replicate c.args.width true ∷ []) c.insert.new.self.vectors (front_is c) (omega arith);
  width = rw c.none.ensures (length-replicate c.args.width false ∙ sym c.new-optimistic.ensures.width ∙ sym c.insert.ensures.width);
}

pub returns-clause-front : goal.returns-clause-front
returns-clause-front c = front_is c
