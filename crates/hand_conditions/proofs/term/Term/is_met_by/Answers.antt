use Rattle.hand_conditions.proofs.Held.{holds_each, lacks_each}
use Rattle.hand_conditions.proofs.term.Term.is_met_by.Goals as goal

pub returns-in-Holds : goal.returns-in-Holds
returns-in-Holds c = rw (c.in-Holds.is) (holds_each c.is_subset.result c.in-Holds.cards c.args.hand c.is_subset.ensures.value.0 c.is_subset.ensures.value.1)

pub returns-in-Lacks : goal.returns-in-Lacks
returns-in-Lacks c = rw (c.in-Lacks.is) (lacks_each c.is_disjoint.result c.in-Lacks.cards c.args.hand c.is_disjoint.ensures.value.0 c.is_disjoint.ensures.value.1)
