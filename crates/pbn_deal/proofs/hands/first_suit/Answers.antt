use Rattle.std.proofs.Common.{◌+◌, arith, rules, tests, take, drop, sym, ap, ◌∙◌}
use Rattle.std.proofs.lemmas.Iterator.{YieldsList-from_slice}
use Rattle.std.proofs.lemmas.Iterator.Search.{position_from_yields_List}
use Rattle.std.proofs.lemmas.List.{take_all, drop_all, take_rest}
use Rattle.pbn_deal.specs.Hands.{is_full_stop}
use Rattle.byte_text.proofs.Places.{found_at, found_none}
use Rattle.pbn_deal.proofs.hands.first_suit.Goals as goal

pub returns-in-Some-clause-letters : goal.returns-in-Some-clause-letters
returns-in-Some-clause-letters c =
    let hand = c.args.hand.now in
    let found = position_from_yields_List is_full_stop _ _ c.position.result c.position.ensures.ran (YieldsList-from_slice hand (cc)) (λ x b q k. search (rules, tests)) in
    let at = found_at is_full_stop hand c.position.result c.in-Some.at found c.in-Some.is in
    ap (λ n. take n hand) at

pub returns-in-Some-clause-others : goal.returns-in-Some-clause-others
returns-in-Some-clause-others c =
    let hand = c.args.hand.now in
    let found = position_from_yields_List is_full_stop _ _ c.position.result c.position.ensures.ran (YieldsList-from_slice hand (cc)) (λ x b q k. search (rules, tests)) in
    let at = found_at is_full_stop hand c.position.result c.in-Some.at found c.in-Some.is in
    take_rest hand (c.in-Some.at + 1) ∙ ap (λ n. drop (n + 1) hand) at

pub returns-in-None-clause-letters : goal.returns-in-None-clause-letters
returns-in-None-clause-letters c =
    let hand = c.args.hand.now in
    let found = position_from_yields_List is_full_stop _ _ c.position.result c.position.ensures.ran (YieldsList-from_slice hand (cc)) (λ x b q k. search (rules, tests)) in
    sym (take_all _ hand (found_none is_full_stop hand c.position.result found c.in-None.is))

pub returns-in-None-clause-others : goal.returns-in-None-clause-others
returns-in-None-clause-others c =
    let hand = c.args.hand.now in
    let found = position_from_yields_List is_full_stop _ _ c.position.result c.position.ensures.ran (YieldsList-from_slice hand (cc)) (λ x b q k. search (rules, tests)) in
    let past = found_none is_full_stop hand c.position.result found c.in-None.is in
    sym (drop_all _ hand (omega (arith, past)))
