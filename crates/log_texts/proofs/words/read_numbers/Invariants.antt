use Rattle.std.proofs.Common.{◌≡◌}
use Rattle.std.specs.Option.{option_map}
use Rattle.byte_text.specs.Numerals.{number_within}
use Rattle.log_texts.specs.Reading.{pieces_at, all_said}
use Rattle.log_texts.proofs.Cut.{pieces_left, size_left}
use Rattle.log_texts.proofs.SaidPieces.{said_after}
use Rattle.log_texts.proofs.words.read_numbers.Given as goal

abbrev pub invariant-numbers : goal.invariant-numbers
invariant-numbers l =
    all_said (number_within 1 4294967295) (pieces_at 44 l.word)
    ≡ said_after l.numbers (all_said (number_within 1 4294967295) (pieces_left 44 (option_map (λ text. text.now) l.rest)))

abbrev pub decreases-numbers : goal.decreases-numbers
decreases-numbers l = size_left (option_map (λ text. text.now) l.rest)
