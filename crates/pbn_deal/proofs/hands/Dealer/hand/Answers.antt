use Rattle.std.proofs.Common.{◌+◌, drop, sym, ap, subst, ◌∙◌}
use Rattle.std.proofs.lemmas.Result.{err_from_is_err_and}
use Rattle.std.proofs.lemmas.List.{drop_all}
use Rattle.pbn_deal.specs.Hands.{suit_order, suits_of, cards_in}
use Rattle.pbn_deal.proofs.Suits.{cards_in-next}
use Rattle.pbn_deal.proofs.Dealt.{IsReading, IsReading-repeated, IsReading-more, IsHandRead-hidden, IsHandRead-shown, hand_cards-shown}
use Rattle.pbn_deal.proofs.hands.Dealer.hand.Goals as goal

pub returns-then-is_hidden : goal.returns-then-is_hidden
returns-then-is_hidden c =
    let read = IsHandRead-hidden c.args.self.now.seen c.args.word.now (sym c.is_hidden.ensures ∙ c.if-is_hidden.true) in
    (read.value, read.new, read.adds)

pub returns-in_err-hand : goal.returns-in_err-hand
returns-in_err-hand c =
    let at = c.loop-suit.suit-index in
    let word = c.args.word.now in
    let all = cards_in suit_order (suits_of word) in
    let p = err_from_is_err_and c.from_residual.result c.from_residual.ensures.1 in
    let next = cards_in-next at _ c.loop-suit.rest.now c.first_suit.result.0.now c.first_suit.result.1.now c.loop-suit-test.true c.first_suit.ensures.letters c.first_suit.ensures.others in
    let reading = subst (IsReading c.args.self.now.seen c.empty-hand.result all c.loop-suit.self.seen c.loop-suit.hand) next c.loop-suit.invariant in
    let repeated = IsReading-repeated c.args.self.now.seen c.empty-hand.result all c.loop-suit.self.seen c.loop-suit.hand _ (cards_in (drop (at + 1) suit_order) (suits_of c.first_suit.result.1.now)) reading c.in_err-hand.ensures.1 in
    rw (p.1, p.2) (c.in_err-hand.ensures.0, rw (hand_cards-shown word (sym c.is_hidden.ensures ∙ c.if-is_hidden.false)) repeated)

pub loop-suit-preserved : goal.loop-suit-preserved
loop-suit-preserved c =
    let at = c.loop-suit.suit-index in
    let word = c.args.word.now in
    let next = cards_in-next at _ c.loop-suit.rest.now c.first_suit.result.0.now c.first_suit.result.1.now c.loop-suit-test.true c.first_suit.ensures.letters c.first_suit.ensures.others in
    let reading = subst (IsReading c.args.self.now.seen c.empty-hand.result (cards_in suit_order (suits_of word)) c.loop-suit.self.seen c.loop-suit.hand) next c.loop-suit.invariant in
    IsReading-more c.args.self.now.seen c.empty-hand.result (cards_in suit_order (suits_of word)) c.loop-suit.self.seen c.loop-suit.hand _ (cards_in (drop (at + 1) suit_order) (suits_of c.first_suit.result.1.now)) c.add_suit.new.self.seen c.in_ok-hand.hand
    reading c.in_ok-hand.ensures.1 c.in_ok-hand.ensures.2 c.in_ok-hand.ensures.3 c.in_ok-hand.ensures.0

pub returns : goal.returns
returns c =
    let read = IsHandRead-shown c.args.self.now.seen c.loop-suit.self.seen c.loop-suit.hand c.args.word.now (cards_in (drop c.loop-suit.suit-index suit_order) (suits_of c.loop-suit.rest.now)) c.empty-hand.result
    (sym c.is_hidden.ensures ∙ c.if-is_hidden.false) c.empty-hand.ensures.value (ap (λ suits. cards_in suits (suits_of c.loop-suit.rest.now)) (drop_all c.loop-suit.suit-index suit_order c.loop-suit-test.false)) c.loop-suit.invariant in
    (read.value, read.new, read.adds)
