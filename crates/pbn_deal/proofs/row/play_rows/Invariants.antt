use Rattle.std.proofs.Common.{◌≡◌, ◌<◌, length}
use Rattle.pbn_deal.specs.Sections.{prepend}
use Rattle.pbn_deal.specs.Rows.{rows_of, rows_played}
use Rattle.pbn_deal.proofs.row.play_rows.Given as goal

-- the plays so far come before those of the rows left
abbrev pub invariant-loop-rest : goal.invariant-loop-rest
invariant-loop-rest l = record {
  short : length l.course.trick.cards < 4;
  read : rows_played l.trump l.first l.tricks l.fn.course (rows_of l.entries) ≡ prepend l.plays.items (rows_played l.trump l.first l.tricks_left l.course (rows_of l.rest));
}

abbrev pub decreases-loop-rest : goal.decreases-loop-rest
decreases-loop-rest l = length l.rest
