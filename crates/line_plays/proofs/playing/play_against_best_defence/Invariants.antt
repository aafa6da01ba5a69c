use Rattle.trick_rules.specs.Positions.{State}
use Rattle.trick_rules.specs.Play.{cards_left}
use Rattle.strategy_tree.specs.PlanMeaning.{plan_of}
use Rattle.line_plays.proofs.Shown.{IsUnderWay}
use Rattle.line_plays.proofs.playing.play_against_best_defence.Given as goal

abbrev pub invariant-loop-rest : goal.invariant-loop-rest
invariant-loop-rest l =
    IsUnderWay (plan_of l.plan) (record { position = l.position; left = l.fn.left }) l.cards (plan_of l.rest) (record { position = l.at; left = l.held })

abbrev pub decreases-loop-rest : goal.decreases-loop-rest
decreases-loop-rest l = cards_left l.at
