use Rattle.std.proofs.Common.{length}
use Rattle.card_sets.specs.SetWords.{IsSubset}
use Rattle.trick_rules.specs.Play.{legal_in}
use Rattle.dd_solver.specs.Closed.{AreSpokenFor}
use Rattle.dd_solver.specs.Turns.{turn_state}
use Rattle.dd_solver.proofs.enough.one_of_equals.Given as goal

abbrev pub invariant-loop-card : goal.invariant-loop-card
invariant-loop-card l =
    let s = turn_state l.turn in
    record { rest : IsSubset l.rest (legal_in s); legal : IsSubset l.kept (legal_in s); spoken : AreSpokenFor s l.kept }

abbrev pub decreases-loop-card : goal.decreases-loop-card
decreases-loop-card l = length l.rest
