use Rattle.std.proofs.Common.{◌≡◌, ◌++◌, length}
use Rattle.pbn_games.specs.PlayRows.{rows_text}
use Rattle.pbn_games.proofs.rows.push_rows.Given as goal

abbrev pub invariant-loop-rest : goal.invariant-loop-rest
invariant-loop-rest l = l.text ++ rows_text l.trump l.first l.leader l.rest ≡ l.initial.text ++ rows_text l.trump l.first l.first l.cards

abbrev pub decreases-loop-rest : goal.decreases-loop-rest
decreases-loop-rest l = length l.rest
