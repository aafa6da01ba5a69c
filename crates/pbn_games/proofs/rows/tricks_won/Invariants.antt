use Rattle.std.proofs.Common.{◌≡◌, ◌≤◌, ◌+◌, length}
use Rattle.pbn_games.specs.PlayRows.{tricks_won}
use Rattle.pbn_games.proofs.rows.tricks_won.Given as goal

abbrev pub invariant-loop-rest : goal.invariant-loop-rest
invariant-loop-rest l = record {
  so_far : l.won + tricks_won l.trump l.leader l.rest ≡ tricks_won l.trump l.fn.first l.cards;
  few : l.won + length l.rest ≤ length l.cards;
}

abbrev pub decreases-loop-rest : goal.decreases-loop-rest
decreases-loop-rest l = length l.rest
