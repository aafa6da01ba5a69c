use Rattle.std.proofs.Common.{◌≡◌, ◌<◌, drop, length}
use Rattle.pbn_deal.specs.Boards.{course_after}
use Rattle.pbn_deal.specs.Sections.{prepend}
use Rattle.pbn_deal.specs.Rows.{row_played}
use Rattle.pbn_deal.proofs.row.play_row.Given as goal

-- the plays so far come before those of the entries left
abbrev pub invariant-loop-entry : goal.invariant-loop-entry
invariant-loop-entry l = record {
  short : length l.course.trick.cards < 4;
  after : l.course ≡ course_after l.trump l.fn.course l.plays.items;
  read : row_played l.trump l.tricks l.fn.course l.row ≡ prepend l.plays.items (row_played l.trump l.tricks l.course (drop l.entry-index l.row));
}
