use Rattle.std.proofs.Common.{◌≡◌, ◌++◌, ◌-◌}
use Rattle.pbn_deal.specs.Writing.{suit_text}
use Rattle.pbn_deal.proofs.Written.{letters_from}
use Rattle.pbn_deal.proofs.writing.push_suit.Given as goal

abbrev pub invariant-loop-place : goal.invariant-loop-place
invariant-loop-place l = l.text ++ letters_from l.hand l.suit l.place (13 - l.place) ≡ l.fn.text ++ suit_text l.hand l.suit
