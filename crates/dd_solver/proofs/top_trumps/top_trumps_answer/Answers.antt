use Rattle.std.proofs.Common.{◌≡◌, ◌⊎◌, ◌+◌, ◌<◌, not, ◌||◌, filter, sym, ap, subst, ◌∙◌, arith}
use Rattle.card_sets.specs.SetWords.{has_card, cards_where}
use Rattle.trick_rules.specs.Positions.{PositionValue, State, tricks_left, IsSound, IsState}
use Rattle.trick_rules.specs.Play.{right_of}
use Rattle.dd_solver.specs.Sure.{AreOutOfReach}
use Rattle.dd_solver.proofs.TopTrumps.{few_tricks, our_reach_answer, their_reach_answer}
use Rattle.dd_solver.proofs.top_trumps.top_trumps_answer.Goals as goal

pub returns-in-Some : goal.returns-in-Some
returns-in-Some c =
    let s : State = record { position = c.args.position.now; left = c.args.left } in
    let ok : IsState s = record { sound = subst IsSound c.position.view_is c.position.invariant; fits = c.requires.fits } in
    let suit = c.in-Suit.suit in
    let counting = c.in-Some.counting in
    our_reach_answer s ok c.requires.between suit (sym (ap (λ (t : PositionValue). t.trump) c.position.view_is) ∙ c.in-Suit.is) counting
    (subst (λ (t : PositionValue). AreOutOfReach t.declarer t.unseen suit t.need counting ⊎ AreOutOfReach t.dummy t.unseen suit t.need counting) c.position.view_is c.in-Some.ensures)

pub overflow_add-tricks_left : goal.overflow_add-tricks_left
overflow_add-tricks_left c = omega (arith, c.tricks_left.ensures.value, few_tricks c.args.position.now c.tricks_left.ensures.sound)

pub returns : goal.returns
returns c =
    let t = c.args.position.now in
    let left = c.args.left in
    let s : State = record { position = t; left = left } in
    let ok : IsState s = record { sound = c.tricks_left.ensures.sound; fits = c.requires.fits } in
    let suit = c.in-Suit.suit in
    let counting = c.in_ok-counting.counting in
    let many = c.saturating_sub-enough.result in
    let ours : c.either-ours.result ≡ cards_where (λ d. has_card t.declarer d || has_card t.dummy d) =
    c.either-ours.ensures.value ∙ ap (λ (p : PositionValue). cards_where (λ d. has_card p.declarer d || has_card p.dummy d)) c.position.view_is in
    let right : c.minus.result ≡ right_of s = c.minus.ensures.value ∙ ap (λ (p : PositionValue). filter (λ d. not (has_card left d)) p.unseen) c.position.view_is in
    let enough : tricks_left t < t.need + many = omega (arith, c.tricks_left.ensures.value, c.saturating_sub-enough.ensures, ap (λ (p : PositionValue). p.need) c.position.view_is) in
    their_reach_answer s ok c.requires.between suit (sym (ap (λ (p : PositionValue). p.trump) c.position.view_is) ∙ c.in-Suit.is) counting many enough
    (subst (λ cards. AreOutOfReach left cards suit many counting ⊎ AreOutOfReach (right_of s) cards suit many counting) ours
    (subst (λ hand. AreOutOfReach left c.either-ours.result suit many counting ⊎ AreOutOfReach hand c.either-ours.result suit many counting) right c.in_ok-counting.ensures))
