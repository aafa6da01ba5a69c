use Rattle.std.proofs.Common.{◌≡◌, Some, sym, ◌∙◌, arith, suc}
use Rattle.equal_cards.proofs.Kept.{kept-all, kept-more, kept-without, kept-lowest, each_kept}
use Rattle.equal_cards.proofs.equals.one_of_equals.Goals as goal

pub loop-card-init : goal.loop-card-init
loop-card-init c = kept-all c.args.node.now c.choices-choices.result c.choices-choices.result c.choices-choices.ensures c.choices-choices.ensures

pub loop-card-preserved-in-Some-next_equal : goal.loop-card-preserved-in-Some-next_equal
loop-card-preserved-in-Some-next_equal c =
    let next = c.in-Some-next_equal.next in
    let equal = (c.next_equal.ensures next).0 c.in-Some-next_equal.is in
    kept-without c.args.node.now c.loop-card.rest c.pop_first.new.self c.loop-card.kept c.without-kept.result c.in-Some.card next c.in-Some.ensures.value c.without-kept.ensures.value equal
    (λ high eq. let both : Some next ≡ Some high = sym c.in-Some-next_equal.is ∙ (c.next_equal.ensures high).1 eq in cc)
    c.loop-card.invariant

pub loop-card-preserved : goal.loop-card-preserved
loop-card-preserved c =
    kept-more c.args.node.now c.loop-card.rest c.pop_first.new.self c.loop-card.kept c.in-Some.card c.in-Some.ensures.value
    (λ high eq. c.in_default-next_equal.not-Some high ((c.next_equal.ensures high).1 eq)) c.loop-card.invariant

pub returns-clause-lowest : goal.returns-clause-lowest
returns-clause-lowest c = kept-lowest c.args.node.now c.loop-card.rest c.loop-card.kept c.in_default.ensures.value.0 c.loop-card.invariant

pub returns-clause-each : goal.returns-clause-each
returns-clause-each c card h = each_kept c.args.node.now c.loop-card.rest c.loop-card.kept c.position.ensures.a_node c.loop-card.invariant (suc card) card (omega arith) h
