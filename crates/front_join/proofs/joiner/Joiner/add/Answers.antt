use Rattle.std.proofs.Common.{◌≡◌, ◌≤◌, ◌∙◌, sym, ap, length}
use Rattle.std.proofs.lemmas.List.{length-map}
use Rattle.win_vectors.specs.Fronts.{meets, IsReduced, spreads}
use Rattle.win_vectors.proofs.VectorLemmas.{length-either_of}
use Rattle.win_vectors.proofs.Reduction.{reduced-not_empty, reduced-of_meets_left, meets-not_empty}
use Rattle.front_join.specs.Joins.{joined}
use Rattle.front_join.proofs.joiner.Joiner.add.Goals as goal

pub invariant_of-self : goal.invariant_of-self
invariant_of-self c =
    let spread = spreads c.args.mask.now c.args.child.now.vectors in
    let some : 1 ≤ length spread = rw length-map c.requires.not_empty in
    let optimistic = c.self.inside.optimistic in
    let same : length c.self.inside.covered ≡ length c.args.mask.now = c.self.invariant.width ∙ ap (λ j. j.optimistic.width) c.self.view_is ∙ sym c.requires.mask_width in
    record {
      front = c.in_ok-front.ensures.front;
      not_empty = reduced-not_empty (meets optimistic.vectors spread) c.in_ok-front.front.vectors c.in_ok-front.ensures.reduced (meets-not_empty optimistic.vectors spread c.self.invariant.not_empty some);
      width = rw c.either-self-inside.ensures (length-either_of c.self.inside.covered c.args.mask.now same ∙ c.self.invariant.width ∙ sym c.in_ok-front.ensures.width);
    }

pub returns-clause-joined : goal.returns-clause-joined
returns-clause-joined c = λ children h.
    let old = c.args.self.now.optimistic in
    let spread = spreads c.args.mask.now c.args.child.now.vectors in
    let reduced : IsReduced (meets old.vectors spread) c.in_ok-front.front.vectors = rw (← c.self.view_is) c.in_ok-front.ensures.reduced in
    (reduced-of_meets_left (joined old.width children) old.vectors spread c.in_ok-front.front.vectors h).0 reduced
