use Rattle.std.proofs.Common.{◌≡◌, ◌∙◌, ◌+◌, ◌∷◌, ◌++◌, List, sym, ap, subst, take, take_all, true≢false, []}
use Rattle.std.proofs.lemmas.List.{take_more}
use Rattle.win_vectors.specs.Fronts.{Vector}
use Rattle.pareto_fronts.specs.FrontValue.{FrontValue}
use Rattle.strategy_games.proofs.Lists.{Contains-nil}
use Rattle.plan_finder.specs.Above.{IsPartAbove}
use Rattle.plan_finder.proofs.PartsAbove.{TakesAbove, part_none, part_more, part_skip}
use Rattle.plan_finder.proofs.above.part_above.Goals as goal
use Rattle.plan_finder.proofs.above.part_above.Goals.{then-dominates+in_ok-insert, else-dominates}

pub loop-vector-init : goal.loop-vector-init
loop-vector-init c = record {
  part = part_none c.args.target.now [] c.new-part.result.vectors (λ v m over. Contains-nil v m) c.new-part.ensures.empty;
  width = c.new-part.ensures.width ∙ c.width.ensures.value ∙ c.requires;
}

pub loop-vector-preserved : goal.loop-vector-preserved
loop-vector-preserved c =
    let t : Vector = c.args.target.now in
    let items : List Vector = c.as_slice-vector-items.result.now in
    let done = c.loop-vector.vector-index in
    let so = c.loop-vector.invariant in
    let more : take done items ++ c.vector-item.result ∷ [] ≡ take (done + 1) items =
    sym (take_more items done c.vector-item.result c.loop-vector-test.true ∙ ap (λ (v : Vector). take done items ++ v ∷ []) (sym c.vector-item.is)) in
    elim c.if-dominates.branch as (λ _. TakesAbove t items (done + 1) c.args.front.now.width c.if-dominates.part) [
      | then-dominates+in_ok-insert w ↦ subst (λ (f : FrontValue). TakesAbove t items (done + 1) c.args.front.now.width f) (sym w.part-is) (record {
        part = subst (λ (vs : List Vector). IsPartAbove t vs w.insert.new.self.vectors) more
            (part_more t (take done items) c.loop-vector.part.vectors w.insert.new.self.vectors c.vector-item.result so.part (c.dominates.ensures.meaning.0 w.if-dominates.true) w.in_ok-insert.ensures.ok);
        width = w.in_ok-insert.ensures.width ∙ so.width;
      })
      | else-dominates w ↦ subst (λ (f : FrontValue). TakesAbove t items (done + 1) c.args.front.now.width f) (sym w.part-is) (record {
        part = subst (λ (vs : List Vector). IsPartAbove t vs c.loop-vector.part.vectors) more
            (part_skip t (take done items) c.loop-vector.part.vectors c.vector-item.result so.part (λ over. true≢false (sym (c.dominates.ensures.meaning.1 over) ∙ w.if-dominates.false)));
        width = so.width;
      })
    ]

pub returns-clause-part : goal.returns-clause-part
returns-clause-part c =
    let items = c.as_slice-vector-items.result.now in
    let whole : take c.loop-vector.vector-index items ≡ items = take_all c.loop-vector.vector-index items c.loop-vector-test.false in
    rw (whole, c.as_slice-vector-items.ensures.value) at c.loop-vector.invariant.part
