use Rattle.std.proofs.Common.{◌∙◌, ◌++◌, ℕ, List, All, [], ◌∷◌, map, take, ap, sym, subst, arith}
use Rattle.std.proofs.lemmas.List.{map_more, take_all}
use Rattle.std.proofs.lemmas.List.Elements.{All-get_or}
use Rattle.trick_rules.specs.Positions.{FitsLeft}
use Rattle.fusion_base.specs.Sampling.{cards_that_make}
use Rattle.fusion_base.proofs.table.made_in_turn.Goals as goal

pub made_cards-requires-clause-fits : goal.made_cards-requires-clause-fits
made_cards-requires-clause-fits c =
    let n = c.args.node.now in
    let lefts = c.lefts-left-items.result.now in
    let all : All (FitsLeft n.position) lefts = subst (λ ls. All (FitsLeft n.position) ls) (sym c.lefts-left-items.ensures.value) c.lefts-left-items.ensures.a_node.fits in
    subst (λ left. FitsLeft n.position left) (sym c.left-item.is) (All-get_or (FitsLeft n.position) lefts c.loop-left.left-index c.left-item.result c.loop-left-test.true all)

pub loop-left-preserved : goal.loop-left-preserved
loop-left-preserved c =
    let made = cards_that_make c.args.node.now in
    let lefts = c.lefts-left-items.result.now in
    let left = c.left-item.result in
    c.in_ok-push.ensures.items
    ∙ ap (λ (items : List (List ℕ)). items ++ c.made_cards.result ∷ []) c.loop-left.invariant
    ∙ ap (λ (last : List ℕ). map made (take c.loop-left.left-index lefts) ++ last ∷ []) (c.made_cards.ensures ∙ ap made c.left-item.is)
    ∙ sym (map_more made lefts c.loop-left.left-index left c.loop-left-test.true)

pub returns : goal.returns
returns c =
    let made = cards_that_make c.args.node.now in
    let lefts = c.lefts-left-items.result.now in
    c.loop-left.invariant ∙ ap (map made) (take_all c.loop-left.left-index lefts (omega (arith, c.loop-left-test.false)) ∙ c.lefts-left-items.ensures.value)
