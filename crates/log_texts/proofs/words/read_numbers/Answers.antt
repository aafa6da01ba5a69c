use Rattle.std.proofs.Common.{◌≡◌, ◌∙◌, Some, None, sym, rules}
use Rattle.byte_text.specs.Numerals.{number_within}
use Rattle.log_texts.specs.Reading.{numbers_said}
use Rattle.log_texts.proofs.SaidPieces.{said_nothing, said_all}
use Rattle.log_texts.proofs.words.read_numbers.Goals as goal

pub returns-in_default-read_number : goal.returns-in_default-read_number
unfolding numbers_said
returns-in_default-read_number c =
    let more : c.numbers.rest ≡ Some c.in-Some.text = first_of (search rules, cc) in
    sym (said_nothing 44 (number_within 1 4294967295) _ c.numbers.numbers c.in-Some.text.now c.split_at_mark.result.0.now c.split_at_mark.result.1 (rw more at c.numbers.invariant) c.split_at_mark.ensures.pieces
    (sym c.read_number.ensures.value ∙ c.in_default-read_number.is))

pub returns : goal.returns
unfolding numbers_said
returns c =
    let none : c.numbers.rest ≡ None = search rules in
    sym (said_all 44 (number_within 1 4294967295) _ c.numbers.numbers c.numbers.rest none c.numbers.invariant)
