use Rattle.std.proofs.Common.{◌≡◌, ◌∙◌, sym, subst, All, take, take_all}
use Rattle.std.proofs.lemmas.Bool.{false≢true}
use Rattle.std.proofs.lemmas.List.Elements.{All-more, All-contains}
use Rattle.win_vectors.specs.Fronts.{Vector, Covers, Dominates}
use Rattle.pareto_fronts.proofs.FrontLemmas.{first_above}
use Rattle.pareto_fronts.proofs.front.Front.pick.Goals as goal

pub returns-then-dominates-clause-first : goal.returns-then-dominates-clause-first
returns-then-dominates-clause-first c =
    let above = c.dominates.ensures.meaning.0 c.if-dominates.true in
    rw (← c.self.view_is, ← c.deref-mine-items.ensures)
    (first_above c.deref-mine-items.result.now c.args.target.now c.loop-mine.mine-index c.mine-item.result c.loop-mine-test.true c.mine-item.is above c.loop-mine.invariant
    (rw c.deref-mine-items.ensures c.self.invariant.reduced.ordered))

pub loop-mine-preserved : goal.loop-mine-preserved
loop-mine-preserved c =
    let mine = c.mine-item.result in
    let below : ¬ Dominates mine c.args.target.now = λ d. false≢true (sym c.if-dominates.false ∙ c.dominates.ensures.meaning.1 d) in
    let at = subst (λ (x : Vector). ¬ Dominates x c.args.target.now) c.mine-item.is below in
    All-more (λ (x : Vector). ¬ Dominates x c.args.target.now) c.deref-mine-items.result.now c.loop-mine.mine-index mine c.loop-mine-test.true c.loop-mine.invariant at

pub returns-clause-found : goal.returns-clause-found
returns-clause-found c = (
  λ e. absurd (false≢true e),
  λ h.
      let items = c.deref-mine-items.result.now in
      let whole : take c.loop-mine.mine-index items ≡ items = take_all c.loop-mine.mine-index items c.loop-mine-test.false in
      let none : All (λ (x : Vector). ¬ Dominates x c.args.target.now) items = rw whole at c.loop-mine.invariant in
      let mine : Covers c.self.inside.vectors.items c.args.target.now = rw (← c.self.view_is) at h in
      let above : Covers items c.args.target.now = rw c.deref-mine-items.ensures mine in
      absurd (All-contains (λ (x : Vector). ¬ Dominates x c.args.target.now) items above.0 none above.1 above.2),
)
