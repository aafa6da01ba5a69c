use Rattle.std.proofs.Common.{◌≡◌, ◌≤◌, ℕ, List, length, drop}
use Rattle.log_check.specs.Logs.{cited_lines, StandBehind}
use Rattle.log_check.specs.Steps.{CoverAlike}
use Rattle.log_check.proofs.Joined.{left_by}
use Rattle.log_check.proofs.joining.joined_lines.Given as goal

abbrev pub invariant-numbers : goal.invariant-numbers
invariant-numbers l = record {
  width : l.front.width ≡ length l.node.lefts;
  within : l.place ≤ length l.numbers;
  so_far : (cards : List ℕ) → StandBehind l.line.path cards (cited_lines l.lines l.line.from)
      → CoverAlike (left_by l.node (drop l.place cards) (cited_lines l.lines (drop l.place l.line.from))) l.front.vectors;
}

abbrev pub decreases-numbers : goal.decreases-numbers
decreases-numbers l = l.place
