use Rattle.std.proofs.Common.{arith}
use Rattle.pbn_games.proofs.LastRow.{next_trick, at_most_one}
use Rattle.pbn_games.proofs.rows.tricks_won.Goals as goal

pub loop-rest-preserved : goal.loop-rest-preserved
loop-rest-preserved c = record {
  so_far = next_trick c.args.trump c.loop-rest.leader c.winner_from-leader.result c.loop-rest.rest.now c.split_at.result.0.now c.split_at.result.1.now
      c.four_of.result c.loop-rest.won c.one_if_declarers-won.result _ (omega (arith, c.loop-rest-test.true))
      c.split_at.ensures.front c.split_at.ensures.back c.four_of.ensures c.winner_from-leader.ensures c.one_if_declarers-won.ensures c.loop-rest.invariant.so_far;
  few = omega (arith, at_most_one c.winner_from-leader.result, c.one_if_declarers-won.ensures, c.split_at.ensures.back_len, c.loop-rest-test.true, c.loop-rest.invariant.few);
}
