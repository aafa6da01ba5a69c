use Rattle.am_line.proofs.words.write_word.Goals as goal

pub returns-clause-written : goal.returns-clause-written
returns-clause-written g c =
    rw (← c.format.ensures.text, ← c.as_bytes-number.ensures.value) c.write_pieces.ensures.written
