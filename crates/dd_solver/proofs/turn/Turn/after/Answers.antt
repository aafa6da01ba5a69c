use Rattle.std.proofs.Common.{sym, ap, ◌∙◌}
use Rattle.card_sets.specs.SetWords.{cards_where}
use Rattle.trick_rules.specs.Positions.{PositionValue}
use Rattle.trick_rules.proofs.PlayLaws.{a_legal_card_can_be_played, a_legal_card_leads_to_a_state}
use Rattle.double_dummy.specs.Equals.{in_play}
use Rattle.dd_solver.specs.Turns.{turn_state}
use Rattle.dd_solver.proofs.Turns.{playing-after}
use Rattle.dd_solver.proofs.turn.Turn.after.Goals as goal

pub followed-requires-clause-held : goal.followed-requires-clause-held
followed-requires-clause-held c = a_legal_card_can_be_played (turn_state c.args.self.now) c.args.card c.requires.turn.state c.requires.legal

pub returns-clause-turn : goal.returns-clause-turn
returns-clause-turn c =
    let s = turn_state c.args.self.now in
    let card = c.args.card in
    let can = a_legal_card_can_be_played s card c.requires.turn.state c.requires.legal in
    record {
      state = rw (c.followed.ensures, c.without.ensures.value) (a_legal_card_leads_to_a_state s card c.requires.turn.state c.requires.legal);
      playing = c.requires.turn.playing ∙ playing-after s.position card c.requires.turn.state.sound can c.requires.goes_on
          ∙ ap (λ (p : PositionValue). cards_where (in_play p)) (sym c.followed.ensures);
      shape = rw (c.followed.ensures, c.without.ensures.value) c.shape_after.ensures;
    }
