use Rattle.std.proofs.Common.{refl}
use Rattle.std.proofs.lemmas.Result.{err_from_is_err_and}
use Rattle.pbn_deal.specs.Hands.{hand_cards}
use Rattle.pbn_deal.proofs.Dealt.{all_dealt, hand_repeats, more_dealt, none_dealt}
use Rattle.pbn_deal.proofs.hands.FourHands.deal.Goals as goal

pub returns-in_err-first : goal.returns-in_err-first
returns-in_err-first c =
    let s = c.args.self.now in
    let p = err_from_is_err_and c.from_residual.result c.from_residual.ensures.1 in
    rw (p.1, p.2) (c.in_err-first.ensures.0, hand_repeats (hand_cards s.first.now) _ (none_dealt c.new-dealer.ensures) c.in_err-first.ensures.1)

pub returns-in_err-second : goal.returns-in_err-second
returns-in_err-second c =
    let s = c.args.self.now in
    let p = err_from_is_err_and c.from_residual-in_err-second.result c.from_residual-in_err-second.ensures.1 in
    rw (p.1, p.2) (c.in_err-second.ensures.0, hand_repeats (hand_cards s.second.now) _ (more_dealt (hand_cards s.first.now) _ (none_dealt c.new-dealer.ensures) c.in_ok-first.ensures.1 c.in_ok-first.ensures.2) c.in_err-second.ensures.1)

pub returns-in_err-third : goal.returns-in_err-third
returns-in_err-third c =
    let s = c.args.self.now in
    let p = err_from_is_err_and c.from_residual-in_err-third.result c.from_residual-in_err-third.ensures.1 in
    rw (p.1, p.2) (c.in_err-third.ensures.0, hand_repeats (hand_cards s.third.now) _ (more_dealt (hand_cards s.second.now) _ (more_dealt (hand_cards s.first.now) _ (none_dealt c.new-dealer.ensures) c.in_ok-first.ensures.1 c.in_ok-first.ensures.2) c.in_ok-second.ensures.1 c.in_ok-second.ensures.2) c.in_err-third.ensures.1)

pub returns-in_err-fourth : goal.returns-in_err-fourth
returns-in_err-fourth c =
    let s = c.args.self.now in
    let p = err_from_is_err_and c.from_residual-in_err-fourth.result c.from_residual-in_err-fourth.ensures.1 in
    rw (p.1, p.2) (c.in_err-fourth.ensures.0, hand_repeats (hand_cards s.fourth.now) _ (more_dealt (hand_cards s.third.now) _ (more_dealt (hand_cards s.second.now) _ (more_dealt (hand_cards s.first.now) _ (none_dealt c.new-dealer.ensures) c.in_ok-first.ensures.1 c.in_ok-first.ensures.2) c.in_ok-second.ensures.1 c.in_ok-second.ensures.2) c.in_ok-third.ensures.1 c.in_ok-third.ensures.2) c.in_err-fourth.ensures.1)

pub returns : goal.returns
returns c =
    let s = c.args.self.now in
    (rw (c.in_ok-first.ensures.0, c.in_ok-second.ensures.0, c.in_ok-third.ensures.0, c.in_ok-fourth.ensures.0) refl, all_dealt (more_dealt (hand_cards s.fourth.now) _ (more_dealt (hand_cards s.third.now) _ (more_dealt (hand_cards s.second.now) _ (more_dealt (hand_cards s.first.now) _ (none_dealt c.new-dealer.ensures) c.in_ok-first.ensures.1 c.in_ok-first.ensures.2) c.in_ok-second.ensures.1 c.in_ok-second.ensures.2) c.in_ok-third.ensures.1 c.in_ok-third.ensures.2) c.in_ok-fourth.ensures.1 c.in_ok-fourth.ensures.2))
