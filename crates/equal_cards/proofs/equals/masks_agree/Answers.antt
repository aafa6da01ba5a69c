use Rattle.std.proofs.Common.{◌≡◌, true, false, refl, ap, sym, ◌∙◌}
use Rattle.card_sets.specs.SetWords.{has_card}
use Rattle.trick_rules.specs.Nodes.{is_legal}
use Rattle.equal_cards.proofs.Masks.{bits-agree, bits-differ, agree-more, agree-all, differ-at}
use Rattle.equal_cards.proofs.equals.masks_agree.Goals as goal

pub returns-then-has : goal.returns-then-has
returns-then-has c = (
  λ no. absurd (bits-differ false true refl no),
  λ same.
      let legal = differ-at c.position-position.result.now c.args.card c.args.other c.lefts-left-items.result.now c.args.node.now c.position-position.ensures.value c.lefts-left-items.ensures.value
      c.loop-left.left-index c.left-item.result c.loop-left-test.true c.left-item.is same in
      absurd (bits-differ c.has.result c.has-in-loop-left.result c.if-has.true
      (c.has.ensures.value ∙ ap (λ x. has_card x c.args.card) c.legal_in-legal.ensures ∙ legal
      ∙ sym (c.has-in-loop-left.ensures.value ∙ ap (λ x. has_card x c.args.other) c.legal_in-legal.ensures))),
)

pub loop-left-preserved : goal.loop-left-preserved
loop-left-preserved c =
    let t = c.position-position.result.now in
    let left = c.left-item.result in
    let here : is_legal t c.args.card left ≡ is_legal t c.args.other left =
    sym (c.has.ensures.value ∙ ap (λ x. has_card x c.args.card) c.legal_in-legal.ensures) ∙ bits-agree c.has.result c.has-in-loop-left.result c.if-has.false
    ∙ c.has-in-loop-left.ensures.value ∙ ap (λ x. has_card x c.args.other) c.legal_in-legal.ensures in
    agree-more t c.args.card c.args.other c.lefts-left-items.result.now c.loop-left.left-index left c.loop-left-test.true c.left-item.is here c.loop-left.invariant

pub returns : goal.returns
returns c = (
  λ _. agree-all c.position-position.result.now c.args.card c.args.other c.lefts-left-items.result.now c.args.node.now c.position-position.ensures.value c.lefts-left-items.ensures.value
      c.loop-left.left-index c.loop-left-test.false c.loop-left.invariant,
  λ _. refl,
)
