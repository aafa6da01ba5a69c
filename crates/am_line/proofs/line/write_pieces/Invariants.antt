use Rattle.std.proofs.Common.{◌≡◌, ◌≤◌, map, take}
use Rattle.std.specs.Io.KnownBytes.{append_known}
use Rattle.am_answer.specs.Lines.{joined_pieces}
use Rattle.am_line.proofs.line.write_pieces.Given as goal

abbrev pub invariant-loop-piece : goal.invariant-loop-piece
invariant-loop-piece g l = record {
  told : g.O.Sink.told l.out ≡ append_known (g.O.Sink.told l.initial.out) (joined_pieces (take l.piece-index (map (λ p. p.now) l.pieces)));
  faults : g.O.Sink.faults l.initial.out ≤ g.O.Sink.faults l.out;
}
