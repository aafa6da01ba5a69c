use Rattle.std.proofs.Common.{◌≡◌, true}
use Rattle.card_sets.specs.SetWords.{has_card}
use Rattle.dd_solver.proofs.leads.LeadWeights.heaviest_of.Given as goal

abbrev pub invariant-loop-weight : goal.invariant-loop-weight
invariant-loop-weight l = has_card l.fn.cards l.best ≡ true
