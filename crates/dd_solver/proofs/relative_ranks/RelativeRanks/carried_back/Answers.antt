use Rattle.std.proofs.Common.{ℕ, List, [], ◌∷◌, ◌++◌, length, sym, ap, ◌∙◌, arith}
use Rattle.card_sets.proofs.SetCounts.{length-take_out}
use Rattle.dd_solver.proofs.GapAfterGap.{carried-step, carried-all, last_apart}
use Rattle.dd_solver.proofs.relative_ranks.RelativeRanks.carried_back.Goals as goal

pub loop-gap-smaller : goal.loop-gap-smaller
loop-gap-smaller c =
    let last = c.in-Some.ensures.value in
    omega (arith, length-take_out c.loop-gap.rest c.in-Some.gap c.last.ensures.a_set last.held, ap (length {A = ℕ}) c.without-rest.ensures.value)

pub loop-gap-preserved : goal.loop-gap-preserved
loop-gap-preserved c =
    let rest = c.loop-gap.rest in
    let gap = c.in-Some.gap in
    let apart = last_apart rest gap c.last.ensures.a_set c.in-Some.ensures.value ∙ ap (λ (l : List ℕ). l ++ gap ∷ []) (sym c.without-rest.ensures.value) in
    carried-step c.args.self.gaps rest c.without-rest.result gap c.args.answer.now.counting c.loop-gap.counting c.before_gap-counting.result
    c.loop-gap.invariant apart c.before_gap-counting.ensures.closed c.before_gap-counting.ensures.back

pub returns : goal.returns
returns c s t ok closed answer = record {
  closed = c.loop-gap.invariant.closed;
  answers = carried-all c.args.self.gaps c.loop-gap.rest c.args.answer.now.counting c.loop-gap.counting c.loop-gap.invariant c.in_default.ensures.value s t c.args.answer.now.made ok closed answer.answers;
}
