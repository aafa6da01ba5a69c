use Rattle.am_line.specs.Words.{word_line}
use Rattle.am_line.proofs.words.write_words.Goals as goal

pub returns-in-At-clause-written : goal.returns-in-At-clause-written
unfolding word_line
returns-in-At-clause-written g c = rw (c.in-At.is) c.write_place.ensures.written

pub returns-in-Missing-clause-written : goal.returns-in-Missing-clause-written
unfolding word_line
returns-in-Missing-clause-written g c =
    rw (c.in-Missing.is, ← c.option_text.ensures) c.write_pieces.ensures.written

pub returns-in-NotTaken-clause-written : goal.returns-in-NotTaken-clause-written
unfolding word_line
returns-in-NotTaken-clause-written g c =
    rw (c.in-NotTaken.is, ← c.option_text-in-NotTaken.ensures) c.write_pieces-in-NotTaken.ensures.written

pub returns-in-Value-clause-written : goal.returns-in-Value-clause-written
unfolding word_line
returns-in-Value-clause-written g c =
    rw (c.in-Value.is, ← c.option_text-in-Value.ensures) c.write_pieces-in-Value.ensures.written

pub returns-in-Term-clause-written : goal.returns-in-Term-clause-written
unfolding word_line
returns-in-Term-clause-written g c =
    rw (c.in-Term.is, ← c.option_text-in-Term.ensures, ← c.term_text.ensures, ← c.bytes.ensures) c.write_term.ensures.written

pub returns-in-NotDefender-clause-written : goal.returns-in-NotDefender-clause-written
unfolding word_line
returns-in-NotDefender-clause-written g c =
    rw (c.in-NotDefender.is, ← c.option_text-in-NotDefender.ensures) c.write_pieces-in-NotDefender.ensures.written
