use Rattle.std.proofs.Common.{◌≡◌, ◌∙◌, ◌&&◌, ◌<◌, ◌≤◌, ◌+◌, ℕ, Bool, true, not, List, map, length, get_or, set, sym, ap, ap₂, subst, arith, rules}
use Rattle.std.proofs.lemmas.Option.{get_or_from_slice_get}
use Rattle.trick_rules.specs.Nodes.{states}
use Rattle.double_dummy.proofs.LayoutResults.{results_upto, results_upto-more}
use Rattle.strategy_tree.specs.PlanMeaning.{plan_of}
use Rattle.told_layouts.specs.declared.steps.StepLayouts.{StepLayouts}
use Rattle.told_layouts.specs.Looking.{somewhere, loses, gives_up, is_won, step_layouts}
use Rattle.told_layouts.specs.Behind.{AreBehind}
use Rattle.told_layouts.proofs.Behind.{upto_all, step_layouts_are_behind}
use Rattle.told_layouts.proofs.steps.layouts_at.Goals as goal

-- one layout more
one_more : (f : List ℕ → Bool) (lefts : List (List ℕ)) (place : ℕ) (left : List ℕ) (before after : List Bool) (bit : Bool) → place < length lefts → left ≡ get_or lefts place left → before ≡ results_upto f lefts place
    → after ≡ set before place bit → bit ≡ f left → after ≡ results_upto f lefts (place + 1)
one_more f lefts place left before after bit low is so_far put bit_is =
    put ∙ ap₂ (λ (bits : List Bool) (b : Bool). set bits place b) so_far bit_is ∙ results_upto-more f lefts place left low is

abbrev layouts : List Bool → List Bool → List Bool → StepLayouts
layouts won lost given_up = record { won = won; lost = lost; given_up = given_up }

pub loop-place-preserved : goal.loop-place-preserved
loop-place-preserved c =
    let n = c.args.node.now in
    let plan = plan_of c.args.plan.now in
    let sets = c.args.sets.now in
    let place = c.loop-place.place in
    let left = c.left.result in
    let is : left ≡ get_or n.lefts place left = sym (get_or_from_slice_get n.lefts place left left c.left.ensures) in
    let low : place < length n.lefts = search rules in
    let reached_is = c.standing_at-standing.ensures.reached ∙ ap (λ t. somewhere (λ rest place. true) sets plan (record { position = t; left = left })) c.position.ensures.value in
    let lost_is = c.standing_at-standing.ensures.lost ∙ ap (λ t. somewhere loses sets plan (record { position = t; left = left })) c.position.ensures.value in
    let given_up_is = c.standing_at-standing.ensures.given_up ∙ ap (λ t. somewhere gives_up sets plan (record { position = t; left = left })) c.position.ensures.value in
    record {
      won = one_more (λ left. is_won sets plan (record { position = n.position; left = left })) n.lefts place left c.loop-place.won c.set-won.result c.is_won.result low is
          c.loop-place.invariant.won c.set-won.ensures (c.is_won.ensures ∙ ap₂ (λ (a b : Bool). a && not b) reached_is lost_is);
      lost = one_more (λ left. somewhere loses sets plan (record { position = n.position; left = left })) n.lefts place left c.loop-place.lost c.set-lost.result c.standing_at-standing.result.lost low is
          c.loop-place.invariant.lost c.set-lost.ensures lost_is;
      given_up = one_more (λ left. somewhere gives_up sets plan (record { position = n.position; left = left })) n.lefts place left c.loop-place.given_up c.set-given_up.result c.standing_at-standing.result.given_up low is
          c.loop-place.invariant.given_up c.set-given_up.ensures given_up_is;
    }

pub returns-clause-value : goal.returns-clause-value
unfolding step_layouts
returns-clause-value c =
    let n = c.args.node.now in
    let plan = plan_of c.args.plan.now in
    let sets = c.args.sets.now in
    let place = c.loop-place.place in
    let all : length n.lefts ≤ place = omega arith in
    let won = c.loop-place.invariant.won ∙ upto_all (λ s. is_won sets plan s) n.position n.lefts place all in
    let lost = c.loop-place.invariant.lost ∙ upto_all (λ s. somewhere loses sets plan s) n.position n.lefts place all in
    let given_up = c.loop-place.invariant.given_up ∙ upto_all (λ s. somewhere gives_up sets plan s) n.position n.lefts place all in
    ap (λ bits. layouts bits c.loop-place.lost c.loop-place.given_up) won ∙ ap₂ (λ (a b : List Bool). layouts (map (λ s. is_won sets plan s) (states n)) a b) lost given_up

pub returns-clause-behind : goal.returns-clause-behind
returns-clause-behind c =
    subst (λ layouts. AreBehind c.args.sets.now (plan_of c.args.plan.now) c.args.node.now layouts) (sym (returns-clause-value c))
    (step_layouts_are_behind (plan_of c.args.plan.now) c.args.node.now c.requires.0 c.args.sets.now c.width-width.ensures.a_node c.requires.1)
