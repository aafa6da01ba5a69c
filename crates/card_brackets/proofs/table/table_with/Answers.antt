use Rattle.std.proofs.Common.{◌≤◌, arith}
use Rattle.card_brackets.proofs.table.table_with.Goals as goal

pub round_table-requires-clause-question : goal.round_table-requires-clause-question
round_table-requires-clause-question c =
    let asked = c.requires.question in
    record {
      ours = asked.ours;
      goes_on = asked.goes_on;
      some_moves = c.requires.some;
      few_moves = omega (arith, asked.few_moves, c.requires.few);
      weights = asked.weights;
    }
