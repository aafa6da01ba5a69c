use Rattle.std.proofs.Common.{◌≡◌, ◌+◌, length}
use Rattle.std.specs.Io.KnownBytes.{Consumes}
use Rattle.am_outside.proofs.file_shelf.read_all.Given as goal

abbrev pub invariant-loop-got : goal.invariant-loop-got
invariant-loop-got g l = record {
  room : length l.text + l.left ≡ l.limit;
  read : Consumes (g.R.Read.remaining l.initial.reader) (g.R.Read.remaining l.reader) l.text;
}

abbrev pub decreases-loop-got : goal.decreases-loop-got
decreases-loop-got g l = l.left
