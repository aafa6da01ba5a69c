use Rattle.std.proofs.Common.{length, ◌-◌, ◌≡◌, ◌+◌, ◌≤◌, take}
use Rattle.std.specs.Io.KnownBytes.{append_known}
use Rattle.am_outside.proofs.sink.write_whole.Given as goal

abbrev pub invariant-loop-written : goal.invariant-loop-written
invariant-loop-written g l = record {
  in_piece : l.written ≤ length l.piece;
  told : g.O.Sink.told l.out ≡ append_known (g.O.Sink.told l.initial.out) (take l.written l.piece);
  faults : g.O.Sink.faults l.initial.out ≤ g.O.Sink.faults l.out;
  writes : g.O.Sink.writes l.out ≤ g.O.Sink.writes l.initial.out + l.written;
}

abbrev pub decreases-loop-written : goal.decreases-loop-written
decreases-loop-written g l = length l.piece - l.written
