use Rattle.std.proofs.Common.{◌≡◌, ◌∙◌, ◌+◌, ◌≤◌, ◌∷◌, sym, ap, length, arith, insert}
use Rattle.std.proofs.lemmas.List.Elements.{All-cons}
use Rattle.win_vectors.specs.Fronts.{IsReduced}
use Rattle.win_vectors.proofs.Reduction.{reduced-its_own}
use Rattle.pareto_fronts.specs.Places.{IsPlaceFor}
use Rattle.pareto_fronts.proofs.FrontLemmas.{on_ok, put-reduced, put-long, HaveWidth-reduced}
use Rattle.pareto_fronts.proofs.front.Front.put.Goals as goal

pub insert-requires : goal.insert-requires
insert-requires c =
    let place : IsPlaceFor c.self.inside.vectors.items c.args.vector c.args.place = rw (← c.self.view_is) at c.requires.place in
    (omega arith, put-long c.args.vector c.self.inside.vectors.items c.remove_dominated.new.vectors.items c.args.place place c.remove_dominated.ensures.kept)

-- what insert leaves
put_is : (c : goal.After-insert) → IsReduced (c.args.vector ∷ c.self.inside.vectors.items) c.insert.new.self.items
put_is c =
    let old = c.self.inside.vectors.items in
    let place : IsPlaceFor old c.args.vector c.args.place = rw (← c.self.view_is) at c.requires.place in
    let spare : length old + 1 ≤ c.self.inside.vectors.capacity = rw (← c.self.view_is) at c.requires.spare in
    let fits : length c.remove_dominated.new.vectors.items + 1 ≤ c.remove_dominated.new.vectors.capacity = omega (arith, c.remove_dominated.ensures.bound, c.remove_dominated.ensures.capacity) in
    let new : c.insert.new.self.items ≡ insert c.remove_dominated.new.vectors.items c.args.place c.args.vector = on_ok c.insert.result (c.insert.ensures.succeeds fits) c.insert.ensures.ok in
    rw new (put-reduced c.args.vector old c.remove_dominated.new.vectors.items c.args.place place c.self.invariant.reduced c.remove_dominated.ensures.kept)

pub invariant_of-self : goal.invariant_of-self
invariant_of-self c = record {
  low = c.self.invariant.low;
  high = c.self.invariant.high;
  one_width = HaveWidth-reduced c.self.inside.width (c.args.vector ∷ c.self.inside.vectors.items) c.insert.new.self.items (put_is c)
      (All-cons (λ v. length v ≡ c.self.inside.width) c.args.vector c.self.inside.vectors.items (c.requires.same_width ∙ sym (ap (λ f. f.width) c.self.view_is)) c.self.invariant.one_width);
  reduced = reduced-its_own (c.args.vector ∷ c.self.inside.vectors.items) c.insert.new.self.items (put_is c);
}

pub returns-clause-front : goal.returns-clause-front
returns-clause-front c = invariant_of-self c

pub returns-clause-reduced : goal.returns-clause-reduced
returns-clause-reduced c = rw (← c.self.view_is) (put_is c)
