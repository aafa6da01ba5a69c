use Rattle.std.proofs.Common.{ℕ, Bool, List, ◌≡◌, ◌+◌, ◌<◌, ◌≤◌, ◌∙◌, sym, ap, length, get_or, arith}
use Rattle.std.proofs.lemmas.Option.{get_or_from_slice_get}
use Rattle.std.proofs.lemmas.Simd.{map-map}
use Rattle.trick_rules.specs.Positions.{PositionValue}
use Rattle.trick_rules.specs.Nodes.{NodeValue}
use Rattle.trick_rules.proofs.NodeLemmas.{state_of}
use Rattle.trick_rules.proofs.KeptLayouts.{mask_upto, mask_set, mask_keep, mask_all}
use Rattle.layout_facts.specs.Facts.{holds_in}
use Rattle.layout_facts.proofs.judged.where_so.Goals as goal
use Rattle.layout_facts.proofs.judged.where_so.Goals.{then-holds_in, else-holds_in}

pub loop-place-preserved : goal.loop-place-preserved
loop-place-preserved c =
    let n : NodeValue = c.args.node.now in
    let p : List ℕ → Bool = λ left. holds_in c.args.fact.now (state_of n.position left) in
    let place = c.loop-place.place in
    let x = c.left.result in
    let low : place < length n.lefts = omega (arith, c.width-width.ensures.value, c.loop-place-test.true) in
    let here : x ≡ get_or n.lefts place x = sym (get_or_from_slice_get n.lefts place x x c.left.ensures) in
    let so : p x ≡ c.holds_in.result = sym (c.holds_in.ensures ∙ ap (λ (t : PositionValue). holds_in c.args.fact.now (state_of t x)) c.position.ensures.value) in
    elim c.if-holds_in.branch as (λ _. c.if-holds_in.vector ≡ mask_upto p n.lefts (place + 1)) [
      | then-holds_in w ↦ w.vector-is ∙ w.set-vector.ensures ∙ rw c.loop-place.invariant (mask_set p 0 n.lefts place x low here (so ∙ w.if-holds_in.true))
      | else-holds_in w ↦ w.vector-is ∙ c.loop-place.invariant ∙ mask_keep p 0 n.lefts place x low here (so ∙ w.if-holds_in.false)
    ]

pub returns : goal.returns
returns c =
    let n : NodeValue = c.args.node.now in
    let all : length n.lefts ≤ c.loop-place.place = omega (arith, c.width-width.ensures.value, c.loop-place-test.false) in
    c.loop-place.invariant ∙ mask_all (λ left. holds_in c.args.fact.now (state_of n.position left)) n.lefts c.loop-place.place all
    ∙ sym (map-map (holds_in c.args.fact.now) (state_of n.position) n.lefts)
