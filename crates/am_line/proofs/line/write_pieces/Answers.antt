use Rattle.std.proofs.Common.{arith}
use Rattle.am_line.proofs.Pieces.{told_next, told_part, written_in_part}
use Rattle.am_line.proofs.line.write_pieces.Goals as goal

pub returns-in_err-write_whole-clause-written : goal.returns-in_err-write_whole-clause-written
returns-in_err-write_whole-clause-written g c =
    written_in_part (g.O.Sink.told c.args.out.now) (g.O.Sink.told c.write_whole.new.out) _ c.from_residual.result c.from_residual.ensures.0
    (told_part (λ p. p.now) c.args.pieces.now c.loop-piece.piece-index _ (g.O.Sink.told c.args.out.now) (g.O.Sink.told c.loop-piece.out) (g.O.Sink.told c.write_whole.new.out) c.loop-piece-test.true c.loop-piece.invariant.told c.in_err-write_whole.ensures.part)

pub loop-piece-preserved : goal.loop-piece-preserved
loop-piece-preserved g c = record {
  told = told_next (λ p. p.now) c.args.pieces.now c.loop-piece.piece-index _ (g.O.Sink.told c.args.out.now) (g.O.Sink.told c.loop-piece.out) (g.O.Sink.told c.write_whole.new.out) c.loop-piece-test.true c.loop-piece.invariant.told c.in_ok-write_whole.ensures.whole;
  faults = omega (arith, c.loop-piece.invariant.faults, c.write_whole.ensures.never_falls);
}
