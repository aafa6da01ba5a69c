use Rattle.std.proofs.Common.{◌≡◌, ◌∙◌, Some, None, sym, rules}
use Rattle.log_texts.specs.Reading.{bits_said, vectors_said}
use Rattle.log_texts.proofs.SaidPieces.{said_nothing, said_all}
use Rattle.log_texts.proofs.words.read_vectors.Goals as goal

pub returns-in_default-read_bits : goal.returns-in_default-read_bits
unfolding vectors_said
returns-in_default-read_bits c =
    let more : c.vectors.rest ≡ Some c.in-Some.text = first_of (search rules, cc) in
    sym (said_nothing 44 bits_said _ c.vectors.vectors c.in-Some.text.now c.split_at_mark.result.0.now c.split_at_mark.result.1 (rw more at c.vectors.invariant) c.split_at_mark.ensures.pieces
    (sym c.read_bits.ensures ∙ c.in_default-read_bits.is))

pub returns : goal.returns
unfolding vectors_said
returns c =
    let none : c.vectors.rest ≡ None = search rules in
    sym (said_all 44 bits_said _ c.vectors.vectors c.vectors.rest none c.vectors.invariant)
