use Rattle.given_up.proofs.OnTheWay.{IsUnderWay}
use Rattle.given_up.proofs.giving.giving_place.Given as goal

abbrev pub invariant-loop-place : goal.invariant-loop-place
invariant-loop-place l = IsUnderWay (record { position = l.position; left = l.fn.left }) l.cards l.place (record { position = l.at; left = l.held })
