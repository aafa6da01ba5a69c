use Rattle.std.proofs.Common.{subst, [], ◌∷◌}
use Rattle.std.specs.Prelude.{codes}
use Rattle.std.specs.Fmt.{decimal}
use Rattle.am_answer.specs.Lines.{joined_pieces}
use Rattle.am_line.specs.Said.{IsWritten}
use Rattle.am_line.proofs.line.write_game_spent.Goals as goal

pub returns-clause-written : goal.returns-clause-written
returns-clause-written g c =
    subst (λ letters. IsWritten (g.O.Sink.told c.args.out.now) (joined_pieces (codes "alphamu: game " ∷ decimal c.args.game ∷ codes ": nodes spent at " ∷ letters ∷ codes "\n" ∷ [])) (g.O.Sink.told c.write_pieces.new.out) c.write_pieces.result)
    c.letters_of-letters.ensures (rw (← c.format.ensures.text, ← c.as_bytes-number.ensures.value) c.write_pieces.ensures.written)
