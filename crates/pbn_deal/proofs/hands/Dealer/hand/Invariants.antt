use Rattle.std.proofs.Common.{drop}
use Rattle.pbn_deal.specs.Hands.{suit_order, suits_of, cards_in}
use Rattle.pbn_deal.proofs.Dealt.{IsReading}
use Rattle.pbn_deal.proofs.hands.Dealer.hand.Given as goal

abbrev pub invariant-loop-suit : goal.invariant-loop-suit
invariant-loop-suit l = IsReading l.fn.self.seen l.initial.hand (cards_in suit_order (suits_of l.word)) l.self.seen l.hand (cards_in (drop l.suit-index suit_order) (suits_of l.rest))
