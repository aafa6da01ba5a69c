use Rattle.std.proofs.Common.{◌≡◌, ◌+◌, ℕ, min, sym, ap, ap₂, subst, ◌∙◌}
use Rattle.card_sets.specs.Seats.{next_seat}
use Rattle.card_sets.specs.SetWords.{IsCardSet}
use Rattle.trick_rules.specs.Positions.{State, IsState, seat_after, to_play}
use Rattle.sure_tricks.specs.Sure.{sure_of, partners_of}
use Rattle.sure_tricks.proofs.Hands.{hand_set}
use Rattle.equivalent_positions.proofs.RankWinners.{WinnersCount}
use Rattle.dd_solver.proofs.SureCards as sure
use Rattle.dd_solver.proofs.sure.joint_answer.Goals as goal

pub rank_winners-ours-requires : goal.rank_winners-ours-requires
rank_winners-ours-requires c =
    let s : State = record { position = c.args.position.now; left = c.args.left } in
    let ok : IsState s = record { sound = c.tricks_left.ensures.sound; fits = c.requires.fits } in
    subst IsCardSet (sym c.of.ensures.own) (hand_set s ok c.to_play-seat.result)

pub rank_winners-theirs-requires : goal.rank_winners-theirs-requires
rank_winners-theirs-requires c =
    let s : State = record { position = c.args.position.now; left = c.args.left } in
    let ok : IsState s = record { sound = c.tricks_left.ensures.sound; fits = c.requires.fits } in
    subst IsCardSet (sym c.of-2.ensures.own) (hand_set s ok c.next-2.result)

pub returns : goal.returns
returns c =
    let s : State = record { position = c.args.position.now; left = c.args.left } in
    let ok : IsState s = record { sound = c.tricks_left.ensures.sound; fits = c.requires.fits } in
    let turn = to_play s.position in
    let own = c.args.own.now in
    let theirs = c.partners_counts-partners.result in
    let their = c.partners_counts-partners.ensures in
    let cards = c.joined.result in
    let seat' : c.next-2.result ≡ seat_after 2 turn = c.next-2.ensures ∙ ap next_seat (c.next.ensures ∙ ap next_seat c.to_play-seat.ensures.value) in
    let total = sure.counts_total own (sure_of s) c.requires.spades c.requires.hearts c.requires.diamonds c.requires.clubs c.total.result c.total.ensures in
    let total' = sure.counts_total theirs (partners_of s) their.spades their.hearts their.diamonds their.clubs c.total-2.result c.total-2.ensures in
    let count : WinnersCount cards s turn (sure_of s) = subst (λ x. WinnersCount cards s x (sure_of s)) c.to_play-seat.ensures.value
    (sure.counts_winners own (sure_of s) c.requires.spades c.requires.hearts c.requires.diamonds c.requires.clubs s c.to_play-seat.result c.of.result.own c.of.result.next c.of.result.partner c.of.result.last
    c.rank_winners-ours.result cards c.of.ensures.own c.of.ensures.next c.of.ensures.partner c.of.ensures.last
    c.rank_winners-ours.ensures.next c.rank_winners-ours.ensures.partner c.rank_winners-ours.ensures.last c.joined.ensures.first_within) in
    let count' : WinnersCount cards s (seat_after 2 turn) (partners_of s) = subst (λ x. WinnersCount cards s x (partners_of s)) seat'
    (sure.counts_winners theirs (partners_of s) their.spades their.hearts their.diamonds their.clubs s c.next-2.result c.of-2.result.own c.of-2.result.next c.of-2.result.partner c.of-2.result.last
    c.rank_winners-theirs.result cards c.of-2.ensures.own c.of-2.ensures.next c.of-2.ensures.partner c.of-2.ensures.last
    c.rank_winners-theirs.ensures.next c.rank_winners-theirs.ensures.partner c.rank_winners-theirs.ensures.last c.joined.ensures.second_within) in
    let leads = sure.leads_from s theirs their.spades their.hearts their.diamonds their.clubs c.can_lead_over.result c.can_lead_over.ensures c.if-not-can_lead_over.false in
    record {
      closed = c.joined.ensures.closed;
      answers = sure.joint_answer s ok c.joined.result c.joined.ensures.closed c.requires.between count c.requires.no_trump count' leads c.is_ours.result (sym c.is_ours.ensures) c.min-both.result
          (c.min-both.ensures ∙ ap₂ (λ (i j : ℕ). min i j) c.tricks_left.ensures.value (ap₂ (λ (i j : ℕ). i + j) total total'))
          (λ h. c.are_enough.ensures.ours c.if-not-are_enough.false (sym c.is_ours.ensures ∙ h))
          (λ h. c.are_enough.ensures.theirs c.if-not-are_enough.false (sym c.is_ours.ensures ∙ h));
    }
