use Rattle.std.proofs.Common.{◌≡◌, ◌≤◌, ◌-◌, length}
use Rattle.am_report.specs.Reading.{entries_read}
use Rattle.am_report.proofs.ReportSteps.{entries_after}
use Rattle.am_report.proofs.reading.read_entries.Given as goal

abbrev pub invariant-loop : goal.invariant-loop
invariant-loop l = record {
  within : l.at ≤ length l.bytes;
  so_far : entries_read l.version l.count l.bytes l.start ≡ entries_after l.entries.items (entries_read l.version (l.count - l.counter) l.bytes l.at);
}
