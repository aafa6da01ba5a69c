use Rattle.std.proofs.Common.{◌≡◌, ◌+◌, ◌-◌, ◌++◌, ◌∷◌, [], arith, rules}
use Rattle.std.proofs.lemmas.Result.{err_from_is_err_and}
use Rattle.am_report.specs.Reading.{entry_read, entries_read}
use Rattle.am_report.proofs.ReportSteps.{same_fault, entries_read-broken, entries_read-turn}
use Rattle.am_report.proofs.reading.read_entries.Goals as goal

pub returns-in_err-entry-clause-fault : goal.returns-in_err-entry-clause-fault
returns-in_err-entry-clause-fault c =
    let bytes = c.args.bytes.now in
    let whole = entries_read c.args.version c.args.count bytes c.args.start in
    let p = err_from_is_err_and c.from_residual.result c.from_residual.ensures.1 in
    rw (p.1, p.2) (same_fault (entry_read c.args.version bytes c.loop.at) whole c.in_err-entry.field-0.0 c.in_err-entry.ensures.read
    (λ found e. entries_read-broken c.args.version bytes whole c.loop.entries.items (c.args.count - c.loop.counter) c.loop.at found (omega arith) c.loop.invariant.so_far e))

pub loop-preserved : goal.loop-preserved
loop-preserved c =
    let bytes = c.args.bytes.now in
    let pushed : c.push.new.self.items ≡ c.loop.entries.items ++ c.in_ok-entry.entry ∷ [] = search rules in
    let left : c.args.count - (c.loop.counter + 1) ≡ c.args.count - c.loop.counter - 1 = omega arith in
    record {
      within = c.in_ok-entry.ensures.within;
      so_far = rw (pushed, left) (entries_read-turn c.args.version bytes (entries_read c.args.version c.args.count bytes c.args.start) c.loop.entries.items (c.args.count - c.loop.counter) c.loop.at c.in_ok-entry.entry c.in_ok-entry.end (omega arith) c.loop.invariant.so_far c.in_ok-entry.ensures.read);
    }
