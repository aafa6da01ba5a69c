use Rattle.std.proofs.Common.{ℕ, List, [], ◌∷◌, ◌++◌, refl, sym, ap, subst, ◌∙◌, append_assoc, append-nil}
use Rattle.dd_solver.specs.Keys.{key_state}
use Rattle.dd_solver.specs.RelativeRanks.{AreGapsClosed}
use Rattle.dd_solver.proofs.GapAfterGap.{closing-start, closing-step, closing-shape, gaps-still}
use Rattle.dd_solver.proofs.relative_ranks.RelativeRanks.of.Goals as goal

pub loop-gap-init : goal.loop-gap-init
loop-gap-init c = (
  [],
  refl,
  closing-start c.args.first.now c.either-ours.result c.either.result [] c.gaps_of-gaps.result c.either-ours.ensures.value c.either.ensures.value refl
      c.gaps_of-gaps.ensures.a_set c.gaps_of-gaps.ensures.free,
)

pub loop-gap-preserved : goal.loop-gap-preserved
loop-gap-preserved c =
    let closed = c.loop-gap.invariant.0 in
    let gap = c.in-Some.gap in
    let left = c.pop_first.new.self in (
      closed ++ gap ∷ [],
      append_assoc closed (gap ∷ []) left ∙ ap (λ (l : List ℕ). closed ++ l) (sym c.in-Some.ensures.value) ∙ c.loop-gap.invariant.1,
      closing-step c.args.first.now c.loop-gap.key c.raised_to-key.result closed (closed ++ gap ∷ []) c.loop-gap.rest left gap
          c.loop-gap.invariant.2 c.in-Some.ensures.value refl c.raised_to-key.ensures.shape c.raised_to-key.ensures.state,
    )

pub returns-clause-closed : goal.returns-clause-closed
returns-clause-closed c =
    let closed = c.loop-gap.invariant.0 in
    let all = sym (append-nil closed) ∙ ap (λ (l : List ℕ). closed ++ l) (sym c.in_default.ensures.value.0) ∙ c.loop-gap.invariant.1 in
    subst (λ (l : List ℕ). AreGapsClosed l (key_state c.args.first.now) (key_state c.loop-gap.key)) all c.loop-gap.invariant.2.closed

pub returns-clause-state : goal.returns-clause-state
returns-clause-state c = (gaps-still c.loop-gap.invariant.0 (key_state c.args.first.now) (key_state c.loop-gap.key) c.requires.state c.loop-gap.invariant.2.closed).state

pub returns-clause-shape : goal.returns-clause-shape
returns-clause-shape c = closing-shape c.args.first.now c.loop-gap.key c.loop-gap.invariant.0 c.loop-gap.rest c.requires.state c.requires.shape c.loop-gap.invariant.2
