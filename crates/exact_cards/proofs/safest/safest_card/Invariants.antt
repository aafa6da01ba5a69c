use Rattle.std.proofs.Common.{take}
use Rattle.exact_cards.proofs.FirstRows.{IsFirstSafest}
use Rattle.exact_cards.proofs.safest.safest_card.Given as goal

abbrev pub invariant-loop-place : goal.invariant-loop-place
invariant-loop-place l = IsFirstSafest (take l.place l.rows) l.best
