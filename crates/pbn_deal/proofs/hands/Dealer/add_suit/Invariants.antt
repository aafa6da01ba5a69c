use Rattle.std.proofs.Common.{drop}
use Rattle.pbn_deal.specs.Hands.{suit_cards}
use Rattle.pbn_deal.proofs.Dealt.{IsReading}
use Rattle.pbn_deal.proofs.hands.Dealer.add_suit.Given as goal

abbrev pub invariant-loop-letter : goal.invariant-loop-letter
invariant-loop-letter l = IsReading l.fn.self.seen l.fn.hand (suit_cards l.suit l.letters) l.self.seen l.full (suit_cards l.suit (drop l.letter-index l.letters))
