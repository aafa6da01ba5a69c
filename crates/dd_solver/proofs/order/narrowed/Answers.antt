use Rattle.card_sets.specs.SetWords.{has_card}
use Rattle.card_sets.proofs.Sets.{IsSubset-filter}
use Rattle.dd_solver.proofs.order.narrowed.Goals as goal

pub returns-else-is_empty-clause-within : goal.returns-else-is_empty-clause-within
returns-else-is_empty-clause-within c card h = IsSubset-filter (has_card c.args.part) c.args.cards card (rw c.both-both.ensures.value at h)
