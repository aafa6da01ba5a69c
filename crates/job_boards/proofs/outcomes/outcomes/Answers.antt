use Rattle.std.proofs.Common.{◌∙◌, inl, inr, sym, drop, suc, arith}
use Rattle.job_boards.proofs.Told.{next-answer, left-now, left-next, texts-next}
use Rattle.job_boards.proofs.outcomes.outcomes.Goals as goal
use Rattle.job_boards.proofs.outcomes.outcomes.Goals.{then-is_ok, else-is_ok}

pub outcome-requires-clause-answer : goal.outcome-requires-clause-answer
outcome-requires-clause-answer c =
    next-answer c.args.moves c.game-item.result (drop (suc c.loop-game.game-index) c.args.games.now) c.args.answers.now c.loop-game.place
    (left-now c.args.moves c.args.games.now c.loop-game.game-index c.game-item.result (drop c.loop-game.place c.args.answers.now) c.loop-game-test.true c.game-item.is c.loop-game.invariant.left)

pub loop-game-preserved : goal.loop-game-preserved
loop-game-preserved c = record {
  texts = texts-next c.args.moves c.args.games.now c.loop-game.game-index c.game-item.result c.loop-game.texts.items c.push.new.self.items c.in_ok-text.text c.loop-game-test.true c.game-item.is c.loop-game.invariant.texts c.in_ok-text.ensures c.in_ok-push.ensures.items;
  left = left-next c.args.moves c.args.games.now c.loop-game.game-index c.game-item.result c.args.answers.now c.loop-game.place c.if-is_ok.place c.loop-game-test.true c.game-item.is c.loop-game.invariant.left
      (elim c.if-is_ok.branch [
        | then-is_ok w ↦ inl (sym c.is_ok.ensures.value ∙ w.if-is_ok.true, w.place-is)
        | else-is_ok w ↦ inr (sym c.is_ok.ensures.value ∙ w.if-is_ok.false, w.place-is)
      ]);
  few = elim c.if-is_ok.branch [
    | then-is_ok w ↦ omega (arith, w.place-is, c.loop-game.invariant.few)
    | else-is_ok w ↦ omega (arith, w.place-is, c.loop-game.invariant.few)
  ];
}
