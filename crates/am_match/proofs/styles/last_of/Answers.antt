use Rattle.am_match.proofs.Choosing.{first_of_all, one_further, last_of_all}
use Rattle.am_match.proofs.styles.last_of.Goals as goal

pub loop-card-init : goal.loop-card-init
loop-card-init c = first_of_all c.args.cards c.in-Some.first c.pop_first.new.self c.in-Some.ensures.value c.in-Some.ensures.a_set

pub loop-card-preserved : goal.loop-card-preserved
loop-card-preserved c = one_further c.args.cards c.loop-card.last c.loop-card.rest c.in-Some-pop_first.card c.pop_first-in-loop-card.new.self c.loop-card.invariant c.in-Some-pop_first.ensures.value

pub returns-clause-last : goal.returns-clause-last
returns-clause-last c = last_of_all c.args.cards c.loop-card.last c.loop-card.rest c.loop-card.invariant c.in_default-pop_first.ensures.value.0
