use Rattle.std.proofs.Common.{rules, sym, ◌∙◌}
use denote.Enum.Bare.{same_true, same_false}
use Rattle.card_sets.specs.contracts.seat.Seat.{the_type}
use Rattle.pbn_games.proofs.Hands.{its_card, another_s_card}
use Rattle.pbn_games.proofs.game.played_by.Goals as goal
use Rattle.pbn_games.proofs.game.played_by.Goals.{then-eq, else-eq}

pub loop-play-preserved : goal.loop-play-preserved
loop-play-preserved c =
    elim c.if-eq.branch [
      | then-eq w ↦ w.cards-is ∙ w.with-cards.ensures.value
          ∙ its_card c.args.plays.now c.args.seat c.loop-play.play-index c.play-item.result c.loop-play-test.true c.play-item.is c.loop-play.cards
          (same_true the_type (search rules) _ _ (sym c.eq.ensures ∙ w.if-eq.true)) c.loop-play.invariant
      | else-eq w ↦ w.cards-is
          ∙ another_s_card c.args.plays.now c.args.seat c.loop-play.play-index c.play-item.result c.loop-play-test.true c.play-item.is c.loop-play.cards
          (λ same. same_false the_type _ _ (sym c.eq.ensures ∙ w.if-eq.false) same) c.loop-play.invariant
    ]
