use Rattle.std.proofs.Common.{◌≡◌, ◌∙◌, false, sym, subst}
use Rattle.trick_rules.specs.Nodes.{NodeValue}
use Rattle.plain_fronts.proofs.CardByCard.{our_width}
use Rattle.assured_fronts.specs.AssuredAt.{IsAssuredAt, claims}
use Rattle.assured_fronts.proofs.LastMove.{last_none, last_claimed, last_open, last_all, all_are}
use Rattle.assured_fronts.proofs.last.last_move.Goals as goal

pub loop-card-init : goal.loop-card-init
loop-card-init c = last_none c.args.node.now c.choices-cards.result c.in_ok-front.front c.choices-cards.ensures c.in_ok-front.ensures

pub union-requires : goal.union-requires
union-requires c =
    let left = c.loop-card.invariant in
    c.in_ok-won.ensures.width
    ∙ our_width c.args.node.now c.in_ok-child.child left.earlier c.pop_first.new.self c.in-Some.card c.requires.ours (all_are left c.in-Some.ensures.value) c.in_ok-child.ensures.node
    ∙ sym left.width

pub loop-card-preserved-then-not-claims : goal.loop-card-preserved-then-not-claims
loop-card-preserved-then-not-claims c =
    last_open c.loop-card.invariant c.in-Some.ensures.value c.width-width.ensures.a_node c.requires.ours c.requires.made
    (subst (λ (n : NodeValue). claims n ≡ false) c.in_ok-child.ensures.node (sym c.claims.ensures ∙ c.if-not-claims.true))

pub loop-card-preserved : goal.loop-card-preserved
loop-card-preserved c =
    last_claimed c.loop-card.invariant c.in-Some.ensures.value c.in_ok-won.won c.union.new.self
    (subst (λ (n : NodeValue). IsAssuredAt n 0 c.in_ok-won.won) c.in_ok-child.ensures.node c.in_ok-won.ensures) c.in_ok-union.ensures.width c.in_ok-union.ensures.ok

pub returns : goal.returns
returns c = last_all c.loop-card.invariant c.width-width.ensures.a_node c.requires.goes_on c.requires.ours c.in_default.ensures.value.0
