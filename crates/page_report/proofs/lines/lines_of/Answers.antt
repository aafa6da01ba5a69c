use Rattle.std.proofs.Common.{ℕ, sym, subst}
use Rattle.strategy_games.specs.Plans.{Fits}
use Rattle.strategy_tree.specs.Bridge.{bridge}
use Rattle.am_report.specs.Answers.{ReadEntryValue}
use Rattle.page_report.proofs.MoreLines.{line_more}
use Rattle.page_report.proofs.lines.lines_of.Goals as goal

pub line_of-requires : goal.line_of-requires
line_of-requires c = record {
  fits = subst (λ (read : ReadEntryValue). (moves : ℕ) × Fits bridge read.entry.plan c.args.node.now moves) (sym c.index-entries-place.is) (c.requires.fit c.loop-place.place c.index-entries-place.result c.loop-place-test.true);
}

pub loop-place-preserved : goal.loop-place-preserved
loop-place-preserved c =
    let said = c.in_ok-line.ensures in
    line_more c.args.declarer c.args.node.now c.args.entries.now c.loop-place.place c.index-entries-place.result said.0 c.in_ok-line.line c.loop-place.lines.items c.push.new.self.items c.loop-place-test.true c.index-entries-place.is said.1 said.2 c.in_ok-push.ensures.items c.loop-place.invariant
