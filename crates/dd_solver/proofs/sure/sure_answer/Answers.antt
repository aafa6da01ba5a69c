use Rattle.std.proofs.Common.{◌≡◌, ◌≢◌, ◌+◌, ◌<◌, ◌≤◌, refl, sym, subst, ◌∙◌}
use Rattle.card_sets.specs.SetWords.{IsCardSet}
use Rattle.trick_rules.specs.declared.trump.Trump.TheVariants.{NoTrump}
use Rattle.trick_rules.specs.Positions.{State, to_play, tricks_left}
use Rattle.sure_tricks.specs.Sure.{sure_of}
use Rattle.sure_tricks.proofs.Hands.{hand_set}
use Rattle.dd_solver.specs.Answers.{IsAnswer}
use Rattle.equivalent_positions.proofs.RankWinners.{WinnersCount}
use Rattle.dd_solver.specs.Sure.{number_in, AreWinners}
use Rattle.dd_solver.proofs.SureCards as sure
use Rattle.dd_solver.proofs.sure.sure_answer.Goals as goal

pub rank_winners-requires : goal.rank_winners-requires
rank_winners-requires c =
    let s : State = record { position = c.args.position.now; left = c.args.left } in
    subst IsCardSet (sym c.of-hands.ensures.own) (hand_set s c.own_counts-own.ensures.state c.to_play.result)

pub returns-then-are_enough : goal.returns-then-are_enough
returns-then-are_enough c =
    let s : State = record { position = c.args.position.now; left = c.args.left } in
    let turn = to_play s.position in
    let own = c.own_counts-own.result in
    let is = c.own_counts-own.ensures in
    let needed = c.needed_of-needed.result in
    let less = c.needed_of-needed.ensures in
    let cards = c.rank_winners.result in
    let hands = c.of-hands.result in
    let held = c.of-hands.ensures in
    let won = c.rank_winners.ensures in
    let winners : WinnersCount cards s turn (number_in needed) = subst (λ x. WinnersCount cards s x (number_in needed)) c.to_play.ensures.value
    (sure.counts_winners needed (number_in needed) refl refl refl refl s c.to_play.result hands.own hands.next hands.partner hands.last cards cards held.own held.next held.partner held.last
    won.next won.partner won.last (λ card h. h)) in
    let at_no_trump : s.position.trump ≡ NoTrump → IsAnswer s (record { made = c.is_ours.result; counting = cards }) = λ e. record {
      closed = c.rank_winners.ensures.closed;
      answers = sure.needed_answer s is.state cards c.rank_winners.ensures.closed c.requires.between e (number_in needed)
          (sure.fewer needed own (sure_of s) is.spades is.hearts is.diamonds is.clubs less.spades less.hearts less.diamonds less.clubs)
          winners c.is_ours.result (sym c.is_ours.ensures) (needed.spades + needed.hearts + needed.diamonds + needed.clubs) refl
          (λ h. less.ours (sym c.is_ours.ensures ∙ h) (subst (λ n. s.position.need ≤ n) c.total.ensures (c.are_enough.ensures.ours c.if-are_enough.true (sym c.is_ours.ensures ∙ h))))
          (λ h. less.theirs (sym c.is_ours.ensures ∙ h)
          (subst (λ n. tricks_left s.position < s.position.need + n) c.total.ensures (c.are_enough.ensures.theirs c.if-are_enough.true (sym c.is_ours.ensures ∙ h))));
    } in
    let with_trumps : s.position.trump ≢ NoTrump → IsAnswer s (record { made = c.is_ours.result; counting = cards }) = λ e.
    let count : WinnersCount cards s turn (sure_of s) = subst (λ x. WinnersCount cards s x (sure_of s)) c.to_play.ensures.value
    (sure.counts_winners own (sure_of s) is.spades is.hearts is.diamonds is.clubs s c.to_play.result hands.own hands.next hands.partner hands.last cards cards held.own held.next held.partner held.last
    (subst (λ n. AreWinners n hands.own hands.next cards) (less.all e) won.next) (subst (λ n. AreWinners n hands.own hands.partner cards) (less.all e) won.partner)
    (subst (λ n. AreWinners n hands.own hands.last cards) (less.all e) won.last) (λ card h. h)) in
    record {
      closed = c.rank_winners.ensures.closed;
      answers = sure.own_answer s is.state cards c.rank_winners.ensures.closed c.requires.between count c.is_ours.result (sym c.is_ours.ensures) c.total.result
          (sure.counts_total own (sure_of s) is.spades is.hearts is.diamonds is.clubs c.total.result c.total.ensures)
          (λ h. c.are_enough.ensures.ours c.if-are_enough.true (sym c.is_ours.ensures ∙ h))
          (λ h. c.are_enough.ensures.theirs c.if-are_enough.true (sym c.is_ours.ensures ∙ h));
    } in
    sure.by_trump s.position.trump (IsAnswer s (record { made = c.is_ours.result; counting = cards })) at_no_trump with_trumps
