use Rattle.std.proofs.Common.{◌^◌, length, arith}
use Rattle.strategy_games.specs.Misfits.{node_count}
use Rattle.am_report.specs.Answers.{ReadEntryValue}
use Rattle.am_report.specs.Reading.{report_of}
use Rattle.job_check.proofs.ReadEntries.{All-below, report_sizes}
use Rattle.job_check.proofs.judge.count_good_plans.Goals as goal

pub judged-requires-clause-few : goal.judged-requires-clause-few
judged-requires-clause-few g c =
    let sizes = report_sizes c.args.bytes.now (report_of c.in_ok-report.report) c.in_ok-report.ensures.read in
    omega (arith, sizes.0, c.requires.short)

pub judged-requires-clause-countable : goal.judged-requires-clause-countable
judged-requires-clause-countable g c =
    let sizes = report_sizes c.args.bytes.now (report_of c.in_ok-report.report) c.in_ok-report.ensures.read in
    All-below (λ (e : ReadEntryValue). node_count e.entry.plan) (length c.args.bytes.now) (2 ^ 32) (omega (arith, c.requires.short)) c.in_ok-report.report.entries.items sizes.1
