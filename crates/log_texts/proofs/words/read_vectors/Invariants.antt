use Rattle.std.proofs.Common.{◌≡◌}
use Rattle.std.specs.Option.{option_map}
use Rattle.log_texts.specs.Reading.{pieces_at, all_said, bits_said}
use Rattle.log_texts.proofs.Cut.{pieces_left, size_left}
use Rattle.log_texts.proofs.SaidPieces.{said_after}
use Rattle.log_texts.proofs.words.read_vectors.Given as goal

abbrev pub invariant-vectors : goal.invariant-vectors
invariant-vectors l =
    all_said bits_said (pieces_at 44 l.word) ≡ said_after l.vectors (all_said bits_said (pieces_left 44 (option_map (λ text. text.now) l.rest)))

abbrev pub decreases-vectors : goal.decreases-vectors
decreases-vectors l = size_left (option_map (λ text. text.now) l.rest)
