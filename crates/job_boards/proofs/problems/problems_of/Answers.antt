use Rattle.std.proofs.Common.{◌∙◌, ap, arith}
use Rattle.am_answer.specs.declared.root.Root.{Root}
use Rattle.job_boards.proofs.Roots.{problems-solved, problems-refused}
use Rattle.job_boards.proofs.problems.problems_of.Goals as goal
use Rattle.job_boards.proofs.problems.problems_of.Goals.{in-Ok+in_ok-push-in-Ok, in-Err}

pub loop-game-preserved : goal.loop-game-preserved
loop-game-preserved c = record {
  counted = omega (arith, c.loop-game.invariant.counted);
  problems = elim c.match-game.branch [
    | in-Ok+in_ok-push-in-Ok w ↦
        problems-solved c.args.games.now c.loop-game.game-index c.game-item.result w.in-Ok.root c.loop-game.problems.items c.match-game.problems.items _ c.loop-game-test.true c.game-item.is c.loop-game.invariant.problems w.in-Ok.is
        (record {
          number = omega (arith, c.loop-game.invariant.counted);
          node = ap (λ (r : Root). r.kept.node) w.root.view_is;
          weights = ap (λ (r : Root). r.kept.weights) w.root.view_is;
        })
        (ap (λ v. v.items) w.problems-is ∙ w.in_ok-push-in-Ok.ensures.items)
    | in-Err w ↦
        problems-refused c.args.games.now c.loop-game.game-index c.game-item.result _ c.loop-game.problems.items c.match-game.problems.items c.loop-game-test.true c.game-item.is c.loop-game.invariant.problems w.in-Err.is
        (ap (λ v. v.items) w.problems-is)
  ];
}
