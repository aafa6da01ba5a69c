use Rattle.std.proofs.Common.{rules, arith, ap, ◌∙◌, take, drop}
use Rattle.std.proofs.lemmas.List.{take_rest}
use Rattle.std.specs.Io.KnownBytes.{append_known}
use Rattle.am_outside.proofs.Written.{append_known-take}
use Rattle.am_outside.proofs.sink.write_whole.Goals as goal

pub loop-written-preserved : goal.loop-written-preserved
loop-written-preserved g c =
    let piece = c.args.piece.now in
    let written = c.loop-written.written in
    let taken = c.in_ok-taken.taken in
    record {
      in_piece = search rules;
      told =
          c.in_ok-taken.ensures.appended
          ∙ ap (λ rest. append_known (g.O.Sink.told c.loop-written.out) (take taken rest)) (take_rest piece written)
          ∙ ap (λ told. append_known told (take taken (drop written piece))) c.loop-written.invariant.told
          ∙ append_known-take (g.O.Sink.told c.args.out.now) written taken piece;
      faults = omega (arith, c.loop-written.invariant.faults, c.in_ok-taken.ensures.never_falls);
      writes = omega (arith, c.loop-written.invariant.writes, c.in_ok-taken.ensures.one_write);
    }
