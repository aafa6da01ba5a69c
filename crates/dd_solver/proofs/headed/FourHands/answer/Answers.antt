use Rattle.std.proofs.Common.{subst, ap}
use Rattle.trick_rules.specs.Positions.{PositionValue, State, IsSound, IsState}
use Rattle.dd_solver.specs.Headed.{HeadsTrick, IsFollowed}
use Rattle.dd_solver.proofs.HeadingHand.{heading_answers, enough}
use Rattle.dd_solver.proofs.headed.FourHands.answer.Goals as goal

pub returns : goal.returns
returns c = λ x is side.
    let s : State = record { position = c.args.position.now; left = c.args.left } in
    let ok : IsState s = record { sound = subst IsSound c.position.view_is c.position.invariant; fits = c.requires.fits } in
    let trump = ap (λ (t : PositionValue). t.trump) c.position.view_is in
    let four = c.args.self.now in
    let card = c.in_ok-card.card in
    let counting = c.in_ok-counting.counting in
    record {
      closed = c.in_ok-counting.ensures.closed;
      answers = heading_answers s ok x four is side c.args.led c.requires.one card
          (subst (λ t. HeadsTrick t c.args.led four card) trump c.in_ok-card.ensures)
          c.saturating_sub-rest.result counting
          (subst (λ t. IsFollowed t four card c.saturating_sub-rest.result counting) trump c.in_ok-counting.ensures)
          c.is_ours.result c.is_ours.ensures
          (enough c.is_ours.result s.position c.wanted.result c.saturating_sub-rest.result c.is_ours.ensures c.wanted.ensures c.saturating_sub-rest.ensures);
    }
