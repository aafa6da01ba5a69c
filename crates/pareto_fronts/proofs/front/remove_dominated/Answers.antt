use Rattle.std.proofs.Common.{◌≡◌, ◌∙◌, sym, rules, Any, drop, take, take_all, length, ◌-◌, arith}
use Rattle.std.proofs.lemmas.List.{length-drop}
use Rattle.std.proofs.lemmas.Bool.{false≢true}
use Rattle.arrayvec.proofs.ArrayVecLemmas.{filter-from_retain}
use Rattle.win_vectors.specs.Fronts.{Vector, Dominates}
use Rattle.pareto_fronts.proofs.FrontLemmas.{put-all}
use Rattle.pareto_fronts.proofs.front.remove_dominated.Goals as goal

pub returns-then-dominates_one-clause-kept : goal.returns-then-dominates_one-clause-kept
returns-then-dominates_one-clause-kept c = filter-from_retain _ _ _ (λ x b f' y called. search rules) _ _ c.retain.ensures.filtered

pub returns-else-dominates_one-clause-kept : goal.returns-else-dominates_one-clause-kept
returns-else-dominates_one-clause-kept c =
    let items = c.args.vectors.now.items in
    let part : take (length items - c.args.place) (drop c.args.place items) ≡ drop c.args.place items =
    take_all (length items - c.args.place) (drop c.args.place items) (omega (arith, length-drop c.args.place items)) in
    let none : Any (λ (u : Vector). Dominates c.args.vector u) (drop c.args.place items) → ⊥ = λ one.
    false≢true (sym c.if-dominates_one.false ∙ c.dominates_one.ensures.1 (rw (c.as_slice.ensures, part) one)) in
    put-all c.args.vector items c.args.place c.requires.place none
