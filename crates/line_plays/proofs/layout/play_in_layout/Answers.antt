use Rattle.std.proofs.Common.{◌≡◌}
use Rattle.strategy_games.specs.Plans.{wins}
use Rattle.strategy_tree.specs.Bridge.{bridge}
use Rattle.strategy_tree.specs.PlanMeaning.{plan_of}
use Rattle.line_plays.specs.Defended.{PlaysOut}
use Rattle.line_plays.proofs.Placed.{followed_at, so_at}
use Rattle.line_plays.proofs.layout.play_in_layout.Goals as goal

pub play_against_best_defence-requires : goal.play_against_best_defence-requires
play_against_best_defence-requires c =
    followed_at (plan_of c.args.plan.now) c.args.node.now c.args.place c.position.result.now c.left.result c.position.ensures.value c.left.ensures c.position.ensures.a_node c.requires.fits

pub returns-clause-cards : goal.returns-clause-cards
returns-clause-cards c = λ s at_layout.
    so_at (plan_of c.args.plan.now) c.args.node.now c.args.place c.position.result.now c.left.result c.position.ensures.value c.left.ensures
    (λ t. PlaysOut (plan_of c.args.plan.now) t c.play_against_best_defence.result.cards) s at_layout c.play_against_best_defence.ensures.cards

pub returns-clause-made : goal.returns-clause-made
returns-clause-made c = λ s at_layout.
    so_at (plan_of c.args.plan.now) c.args.node.now c.args.place c.position.result.now c.left.result c.position.ensures.value c.left.ensures
    (λ t. c.play_against_best_defence.result.made ≡ wins bridge (plan_of c.args.plan.now) t) s at_layout c.play_against_best_defence.ensures.made
