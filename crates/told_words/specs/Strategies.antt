-- A strategy that is told.
use Rattle.std.specs.Prelude.{ℕ}
use Rattle.strategy_games.specs.Plans.{Fits}
use Rattle.strategy_tree.specs.Bridge.{bridge}
use Rattle.strategy_tree.specs.PlanMeaning.{plan_of}
use Rattle.told_layouts.specs.Looking.{step_layouts, reached}
use Rattle.told_words.specs.declared.steps.Strategy.{Strategy}
use Rattle.told_words.specs.Words.{Layouts}
use Rattle.told_words.specs.Reached.{Reached}

-- its plan fits its node, with some number of moves
abbrev pub FitsItsNode : Strategy → Type 0
FitsItsNode strategy = (moves : ℕ) × Fits bridge (plan_of strategy.plan.now) strategy.node.now moves

-- the layouts behind each of its steps
abbrev pub layouts_of : Strategy → Layouts
layouts_of strategy = step_layouts (plan_of strategy.plan.now) strategy.node.now

-- the layouts that can reach each of its steps
abbrev pub reached_of : Strategy → Reached
reached_of strategy = reached (plan_of strategy.plan.now) strategy.node.now
