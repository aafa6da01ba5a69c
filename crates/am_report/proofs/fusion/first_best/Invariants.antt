use Rattle.std.proofs.Common.{◌≡◌, ◌==◌, drop, find}
use Rattle.win_vectors.specs.Weights.{weight_of}
use Rattle.am_report.proofs.fusion.first_best.Given as goal

-- the first entry of this weight is among those that are left
abbrev pub invariant-loop-entry : goal.invariant-loop-entry
invariant-loop-entry l = find (λ entry. weight_of l.weights entry.vector == l.greatest) l.table ≡ find (λ entry. weight_of l.weights entry.vector == l.greatest) (drop l.entry-index l.table)
