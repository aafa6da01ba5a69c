use Rattle.std.proofs.Common.{◌≡◌, rules}
use Rattle.strategy_games.specs.Plans.{wins}
use Rattle.strategy_tree.specs.Bridge.{bridge}
use Rattle.line_plays.specs.Defended.{PlaysOut}
use Rattle.strategy_tree.specs.PlanMeaning.{plan_of}
use Rattle.job_lines.proofs.Placed.{followed_at, so_at}
use Rattle.job_lines.proofs.lines.play_at.Goals as goal

pub play_against_best_defence-requires : goal.play_against_best_defence-requires
play_against_best_defence-requires c =
    let is_plan : plan_of c.read-inside.inside.0.0.plan ≡ c.args.read.now.entry.plan = search rules in
    followed_at c.args.read.now.entry.plan _ c.args.node.now c.args.place c.position.result.now c.left.result
    is_plan
    c.position.ensures.value c.left.ensures c.position.ensures.a_node c.requires.fits

pub returns-clause-cards : goal.returns-clause-cards
returns-clause-cards c = λ s at_layout.
    let is_plan : plan_of c.read-inside.inside.0.0.plan ≡ c.args.read.now.entry.plan = search rules in
    so_at c.args.read.now.entry.plan _ c.args.node.now c.args.place c.position.result.now c.left.result
    is_plan
    c.position.ensures.value c.left.ensures (λ p t. PlaysOut p t c.play_against_best_defence.result.cards) s at_layout c.play_against_best_defence.ensures.cards

pub returns-clause-made : goal.returns-clause-made
returns-clause-made c = λ s at_layout.
    let is_plan : plan_of c.read-inside.inside.0.0.plan ≡ c.args.read.now.entry.plan = search rules in
    so_at c.args.read.now.entry.plan _ c.args.node.now c.args.place c.position.result.now c.left.result
    is_plan
    c.position.ensures.value c.left.ensures (λ p t. c.play_against_best_defence.result.made ≡ wins bridge p t) s at_layout c.play_against_best_defence.ensures.made
