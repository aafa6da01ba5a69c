use Rattle.std.proofs.Common.{◌≡◌, ◌∙◌, ◌+◌, ◌-◌, ◌≤◌, arith, ap, sym, subst}
use Rattle.std.specs.Prelude.{⊤}
use Rattle.strategy_games.specs.Plans.{IsFront}
use Rattle.strategy_tree.specs.Bridge.{bridge}
use Rattle.cut_rules.specs.declared.CutRules.{CutRules}
use Rattle.cut_rules.specs.declared.Stop.TheVariants.{SameFront, SameWeight}
use Rattle.front_table.specs.Proven.{IsFrontAt}
use Rattle.strategy_tree.specs.declared.root_fault.RootFault.TheVariants.{Spent}
use Rattle.root_workers.proofs.Seen.{seen_more}
use Rattle.root_workers.proofs.Stops.{passed_on, spent_more}
use Rattle.root_workers.proofs.RootEnds.{spent_end}
use Rattle.root_workers.proofs.deepening.Rounds.deepened.Goals as goal

pub run_round-requires-clause-round : goal.run_round-requires-clause-round
run_round-requires-clause-round g c = λ κs outlives.
    let same : c.loop-fewer.fewer ≡ c.loop-fewer.fewer + 1 - 1 = omega arith in record {
      asked = record {
        ours = c.requires.question.ours;
        goes_on = c.requires.question.goes_on;
        some_moves = omega arith;
        few_moves = omega (arith, c.requires.question.few_moves);
        weights = c.requires.question.weights;
      };
      width = c.loop-fewer.invariant.front.width;
      previous = λ _. subst (λ k. IsFront bridge c.args.self.now.question.now.node.now k c.loop-fewer.front.vectors) same c.loop-fewer.invariant.front.front;
    }

pub returns-in_err-next-clause-spent : goal.returns-in_err-next-clause-spent
returns-in_err-next-clause-spent g c = λ card e.
    let fault = passed_on c.from_residual-in_err-next.result c.in_err-next.field-0.0 (Spent card) c.from_residual-in_err-next.ensures.1 e in
    let fewer : c.loop-fewer.fewer + 1 ≤ c.args.self.now.question.now.moves = omega (arith, c.loop-fewer-test.true) in
    spent_more c.args.self.now.question.now.node.now (c.loop-fewer.fewer + 1) c.args.self.now.question.now.moves c.args.self.now.question.now.options.now.nodes card fewer
    (spent_end c.args.self.now.question.now.node.now (c.loop-fewer.fewer + 1) c.args.self.now.question.now.options.now.nodes c.args.self.now.question.now.weights.now ⊤ ⊤ _ c.in_err-next.field-0.0 card fault c.in_err-next.ensures.end).0

pub returns-in_err-next-clause-grown : goal.returns-in_err-next-clause-grown
returns-in_err-next-clause-grown g c = seen_more c.args.pass.now c.loop-fewer.pass c.run_round.new.pass c.loop-fewer.invariant.grown c.run_round.ensures.grown

pub loop-fewer-preserved : goal.loop-fewer-preserved
loop-fewer-preserved g c = record {
  pass = c.run_round.ensures.pass;
  grown = seen_more c.args.pass.now c.loop-fewer.pass c.run_round.new.pass c.loop-fewer.invariant.grown c.run_round.ensures.grown;
  front = c.in_ok-next.ensures.end.front (λ e. let no : SameFront ≡ SameWeight = sym (ap (λ (r : CutRules). r.stop) c.all.ensures) ∙ e in cc);
  most = c.larger.ensures.within c.args.self.now.question.now.options.now.nodes c.in_ok-next.ensures.end.within c.loop-fewer.invariant.most;
}

pub returns-clause-front : goal.returns-clause-front
returns-clause-front g c =
    let same : c.loop-fewer.fewer ≡ c.args.self.now.question.now.moves - 1 = omega (arith, c.loop-fewer-test.false) in
    subst (λ k. IsFrontAt c.args.self.now.question.now.node.now k c.loop-fewer.front) same c.loop-fewer.invariant.front
