use Rattle.std.proofs.Common.{sym, ap, subst, ◌∙◌, arith}
use Rattle.card_sets.specs.SetWords.{has_card}
use Rattle.equivalent_positions.specs.Alike.{IsClosedUp}
use Rattle.equivalent_positions.proofs.Counting.{a_card_and_all_higher}
use Rattle.dd_solver.proofs.Highest.{left-start, left-none, left-up, left-fewer, left-drop}
use Rattle.dd_solver.proofs.sure.highest_of.Goals as goal

pub loop-low-init : goal.loop-low-init
loop-low-init c = left-start c.args.hand c.of_suit-rest.result c.args.suit c.args.many c.of_suit-rest.ensures.value

pub returns-then-count-many-clause-closed : goal.returns-then-count-many-clause-closed
returns-then-count-many-clause-closed c = subst IsClosedUp (sym c.up_from.ensures) (a_card_and_all_higher c.in-Some.low)

pub returns-then-count-many-clause-within : goal.returns-then-count-many-clause-within
returns-then-count-many-clause-within c card held is few = ap (λ l. has_card l card) c.up_from.ensures
    ∙ left-up c.args.hand c.requires c.args.suit c.args.many c.loop-low.rest c.first.ensures.a_set c.loop-low.invariant c.in-Some.low (sym c.in-Some.ensures.value) card held is few

pub loop-low-smaller : goal.loop-low-smaller
loop-low-smaller c = left-fewer c.args.hand c.requires c.args.suit c.args.many c.loop-low.rest c.first.ensures.a_set c.loop-low.invariant c.in-Some.low (sym c.in-Some.ensures.value) c.without-rest.result c.without-rest.ensures.value

pub loop-low-preserved : goal.loop-low-preserved
loop-low-preserved c = left-drop c.args.hand c.requires c.args.suit c.args.many c.loop-low.rest c.first.ensures.a_set c.loop-low.invariant c.in-Some.low (sym c.in-Some.ensures.value)
    c.without-rest.result c.without-rest.ensures.value (omega (arith, c.if-count-many.false, c.count.ensures.value))

pub returns-clause-within : goal.returns-clause-within
returns-clause-within c card held is few = absurd (left-none c.args.hand c.requires c.args.suit c.args.many c.loop-low.rest c.first.ensures.a_set c.loop-low.invariant (sym c.in_default.ensures.value) card held is few)
