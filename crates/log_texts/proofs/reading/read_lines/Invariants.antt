use Rattle.std.proofs.Common.{◌≡◌, ◌+◌, ◌≤◌, length}
use Rattle.log_texts.specs.Reading.{pieces_at, lines_read}
use Rattle.log_texts.proofs.SaidLines.{lines_after}
use Rattle.log_texts.proofs.reading.read_lines.Given as goal

abbrev pub invariant-lines : goal.invariant-lines
invariant-lines l = record {
  counted : l.number ≡ length l.log + 2;
  short : length l.log + length l.rest ≤ length l.text;
  so_far : lines_read 2 (pieces_at 10 l.text) ≡ lines_after l.log (lines_read l.number (pieces_at 10 l.rest));
}

abbrev pub decreases-lines : goal.decreases-lines
decreases-lines l = length l.rest
