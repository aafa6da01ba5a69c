use Rattle.std.proofs.Common.{arith}
use Rattle.pbn_games.proofs.LastRow.{next_row}
use Rattle.pbn_games.proofs.rows.push_rows.Goals as goal

pub loop-rest-preserved : goal.loop-rest-preserved
loop-rest-preserved c =
    next_row c.args.trump c.args.first c.loop-rest.leader c.winner_from-leader.result c.loop-rest.rest.now c.split_at.result.0.now c.split_at.result.1.now
    c.four_of-trick.result c.by_columns.result c.loop-rest.text c.push_row.new.text _ (omega (arith, c.loop-rest-test.true))
    c.split_at.ensures.front c.split_at.ensures.back c.four_of-trick.ensures c.by_columns.ensures c.in_ok-push_row.ensures c.winner_from-leader.ensures c.loop-rest.invariant
