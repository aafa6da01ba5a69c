use Rattle.std.proofs.Common.{ℕ, sym, subst}
use Rattle.strategy_games.specs.Plans.{Fits}
use Rattle.strategy_tree.specs.Bridge.{bridge}
use Rattle.am_report.specs.Answers.{ReadEntryValue}
use Rattle.told_report.proofs.ToldStrategies.{words_more}
use Rattle.told_report.proofs.telling.tell_strategies.Goals as goal

pub push_strategy-requires-clause-fits : goal.push_strategy-requires-clause-fits
push_strategy-requires-clause-fits c =
    subst (λ (read : ReadEntryValue). (moves : ℕ) × Fits bridge read.entry.plan c.args.node.now moves) (sym c.read-item.is) (c.requires.fit c.loop-read.read-index c.read-item.result c.loop-read-test.true)

pub loop-read-preserved : goal.loop-read-preserved
loop-read-preserved c =
    let said = c.in_ok-push_strategy.ensures in
    words_more c.args.declarer c.args.weights.now c.args.node.now c.args.entries.now c.loop-read.read-index c.read-item.result said.0 c.loop-read.writer c.push_strategy.new.writer c.loop-read-test.true c.read-item.is said.1 said.2 c.loop-read.invariant
