use Rattle.std.proofs.Common.{◌≡◌, drop}
use Rattle.std.specs.Prelude.{option_copied}
use Rattle.pbn_deal.specs.Rows.{gap_line}
use Rattle.pbn_deal.proofs.row.gap_line.Given as goal

abbrev pub invariant-loop-place : goal.invariant-loop-place
invariant-loop-place l = gap_line l.row (option_copied l.next) ≡ gap_line (drop l.place l.row) (option_copied l.next)
