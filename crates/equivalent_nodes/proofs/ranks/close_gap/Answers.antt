use Rattle.std.proofs.Common.{◌≡◌, ℕ, suc, ◌+◌, List, get_or, sym, ap, ◌∙◌, arith}
use Rattle.std.specs.Prelude.{slice_set}
use Rattle.card_sets.specs.Raised.{with_raised}
use Rattle.equivalent_nodes.proofs.Hands.{first_mapped, next_mapped, all_mapped}
use Rattle.equivalent_nodes.proofs.ranks.close_gap.Goals as goal

pub loop-hand-preserved : goal.loop-hand-preserved
loop-hand-preserved c =
    let old : List (List ℕ) = c.args.hands.now in
    let i = c.loop-hand.hand-index in
    let x : List ℕ = c.hand-item.result in
    let y : List ℕ = c.raised_to.result in
    let next : suc i ≡ i + 1 = omega arith in
    ap (λ (h : List (List ℕ)). slice_set h i y) c.loop-hand.invariant
    ∙ next_mapped (with_raised c.args.gap) old i x y (omega (arith, c.loop-hand-test.true)) (c.hand-item.is ∙ ap (λ (h : List (List ℕ)). get_or h i x) c.loop-hand.invariant)
    (c.raised_to.ensures.value ∙ ap (with_raised c.args.gap) (sym c.hand-item.is))
    ∙ ap (λ k. first_mapped (with_raised c.args.gap) k old) next

pub returns : goal.returns
returns c = c.loop-hand.invariant ∙ all_mapped (with_raised c.args.gap) c.args.hands.now c.loop-hand.hand-index (omega (arith, c.loop-hand-test.false))
