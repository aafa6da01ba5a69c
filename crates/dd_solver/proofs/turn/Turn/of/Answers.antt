use Rattle.std.proofs.Common.{sym, ap, subst, ◌∙◌}
use Rattle.card_sets.specs.SetWords.{cards_where}
use Rattle.trick_rules.specs.Positions.{PositionValue, IsState}
use Rattle.double_dummy.specs.Equals.{in_play}
use Rattle.dd_solver.specs.Shapes.{shape_of}
use Rattle.dd_solver.proofs.turn.Turn.of.Goals as goal

pub returns-clause-turn : goal.returns-clause-turn
returns-clause-turn c =
    let same = sym c.copy.ensures in
    record {
      state = subst (λ (p : PositionValue). IsState (record { position = p; left = c.args.left })) same c.requires.state;
      playing = c.cards_in_play.ensures ∙ ap (λ (p : PositionValue). cards_where (in_play p)) same;
      shape = c.requires.shape ∙ ap (λ (p : PositionValue). shape_of (record { position = p; left = c.args.left })) same;
    }
