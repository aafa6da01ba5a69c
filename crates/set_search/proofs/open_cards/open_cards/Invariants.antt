use Rattle.std.proofs.Common.{length}
use Rattle.set_search.proofs.Opened.{AreJudged}
use Rattle.set_search.proofs.open_cards.open_cards.Given as goal

abbrev pub invariant-rest : goal.invariant-rest
invariant-rest l = AreJudged l.layouts l.position l.set l.fn.tried l.rest l.cards l.core

abbrev pub decreases-rest : goal.decreases-rest
decreases-rest l = length l.rest
