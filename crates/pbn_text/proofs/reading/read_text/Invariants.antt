use Rattle.std.proofs.Common.{◌≡◌, ◌+◌, ◌<◌, ◌^◌, length}
use Rattle.pbn_text.specs.Grammar.{text_read}
use Rattle.pbn_text.specs.Reading.{pieces_left, games_after}
use Rattle.pbn_text.proofs.reading.read_text.Given as goal

abbrev pub invariant-loop-reader : goal.invariant-loop-reader
invariant-loop-reader l = (games_after l.collector (pieces_left l.reader) ≡ text_read l.text) × (l.reader.line + length l.reader.rest.now < 2 ^ 32)

abbrev pub decreases-loop-reader : goal.decreases-loop-reader
decreases-loop-reader l = length l.reader.rest.now
