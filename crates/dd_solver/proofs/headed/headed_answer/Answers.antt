use Rattle.std.proofs.Common.{sym, subst}
use Rattle.card_sets.specs.SetWords.{IsCardSet}
use Rattle.trick_rules.specs.Positions.{State, IsSound, IsState, seat_after, to_play}
use Rattle.sure_tricks.proofs.Hands.{hand_set}
use Rattle.dd_solver.specs.Headed.{AreHandsOf}
use Rattle.dd_solver.proofs.headed.headed_answer.Goals as goal

pub answer-requires-clause-partner : goal.answer-requires-clause-partner
answer-requires-clause-partner c =
    let s : State = record { position = c.args.position.now; left = c.args.left } in
    let ok : IsState s = record { sound = subst IsSound c.position.view_is c.position.invariant; fits = c.requires.fits } in
    subst IsCardSet (sym c.of-hands.ensures.partner) (hand_set s ok (seat_after 2 (to_play s.position)))

pub answer-requires-clause-third : goal.answer-requires-clause-third
answer-requires-clause-third c =
    let s : State = record { position = c.args.position.now; left = c.args.left } in
    let ok : IsState s = record { sound = subst IsSound c.position.view_is c.position.invariant; fits = c.requires.fits } in
    subst IsCardSet (sym c.of-hands.ensures.third) (hand_set s ok (seat_after 2 s.position.trick.leader))

pub answer-requires-in-None-clause-partner : goal.answer-requires-in-None-clause-partner
answer-requires-in-None-clause-partner c =
    let s : State = record { position = c.args.position.now; left = c.args.left } in
    let ok : IsState s = record { sound = subst IsSound c.position.view_is c.position.invariant; fits = c.requires.fits } in
    let is : AreHandsOf s (seat_after 2 (to_play s.position)) c.of_partner.result = c.of_partner.ensures s (to_play s.position) c.of-hands.ensures in
    subst IsCardSet (sym is.partner) (hand_set s ok (seat_after 2 (seat_after 2 (to_play s.position))))

pub answer-requires-in-None-clause-third : goal.answer-requires-in-None-clause-third
answer-requires-in-None-clause-third c =
    let s : State = record { position = c.args.position.now; left = c.args.left } in
    let ok : IsState s = record { sound = subst IsSound c.position.view_is c.position.invariant; fits = c.requires.fits } in
    let is : AreHandsOf s (seat_after 2 (to_play s.position)) c.of_partner.result = c.of_partner.ensures s (to_play s.position) c.of-hands.ensures in
    subst IsCardSet (sym is.third) (hand_set s ok (seat_after 2 s.position.trick.leader))
