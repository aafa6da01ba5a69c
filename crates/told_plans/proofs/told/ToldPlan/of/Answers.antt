use Rattle.std.proofs.Common.{◌≡◌, ℕ}
use Rattle.std.proofs.lemmas.Result.{IfOk-weaker}
use Rattle.trick_rules.specs.Nodes.{NodeValue}
use Rattle.strategy_games.specs.Plans.{Fits}
use Rattle.strategy_tree.specs.Bridge.{bridge}
use Rattle.strategy_tree.specs.PlanMeaning.{plan_of}
use Rattle.told_plans.specs.Told.{IsTold}
use Rattle.told_plans.specs.ToldMeaning.{told_of}
use Rattle.told_plans.specs.Cuts.{cut}
use Rattle.told_plans.proofs.Cutting.{lossless}
use Rattle.told_plans.proofs.told.ToldPlan.of.Goals as goal

pub returns-clause-lossless : goal.returns-clause-lossless
returns-clause-lossless c =
    IfOk-weaker c.tell.result (λ told. IsTold (told_of told) (plan_of c.args.plan.now)) (λ told. (n : NodeValue) (moves : ℕ) → Fits bridge (plan_of c.args.plan.now) n moves → cut (told_of told) n ≡ plan_of c.args.plan.now)
    (λ told is n moves fits. lossless (plan_of c.args.plan.now) (told_of told) n moves is fits) c.tell.ensures
