use Rattle.std.proofs.Common.{List, length, sym, subst, arith}
use Rattle.am_report.specs.Answers.{ReadEntryValue}
use Rattle.am_report.specs.Reading.{report_of}
use Rattle.job_check.proofs.ReadEntries.{report_sizes}
use Rattle.job_told.proofs.GoodPlans.{plans_good}
use Rattle.job_lines.specs.LinesJob.{AreLines}
use Rattle.job_lines.proofs.GoodLines.{good_fits}
use Rattle.job_lines.proofs.lines.tell_lines.Goals as goal

pub all_games-requires : goal.all_games-requires
all_games-requires c =
    let root = c.args.root.now in
    let report = report_of c.in_ok-read.read in
    let sizes = report_sizes c.args.report.now report c.in_ok-read.ensures.read in
    let good = plans_good root c.args.report.now report (length report.entries) c.in_ok-read.ensures.read c.in_ok-read.ensures.good in
    let lines : AreLines root report.entries = record {
      few = omega (arith, sizes.0, c.requires.report_short);
      as_many = c.requires.as_many;
      fits = good_fits root.kept.node report.moves report.entries good;
    } in
    record { lines = subst (λ (entries : List ReadEntryValue). AreLines root entries) (sym c.deref.ensures.value) lines }
