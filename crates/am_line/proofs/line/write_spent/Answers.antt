use Rattle.std.proofs.Common.{subst, [], ◌∷◌}
use Rattle.std.specs.Prelude.{codes}
use Rattle.am_answer.specs.Lines.{joined_pieces}
use Rattle.am_line.specs.Said.{IsWritten}
use Rattle.am_line.proofs.line.write_spent.Goals as goal

pub returns-clause-written : goal.returns-clause-written
returns-clause-written g c =
    subst (λ letters. IsWritten (g.O.Sink.told c.args.out.now) (joined_pieces (codes "alphamu: nodes spent at " ∷ letters ∷ codes "\n" ∷ [])) (g.O.Sink.told c.write_pieces.new.out) c.write_pieces.result)
    c.letters_of-letters.ensures c.write_pieces.ensures.written
