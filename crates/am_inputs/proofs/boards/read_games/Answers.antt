use Rattle.std.proofs.Common.{ap, length, arith}
use Rattle.am_inputs.proofs.GameCount.{games-count}
use Rattle.am_inputs.proofs.boards.read_games.Goals as goal

pub overflow_cast-result : goal.overflow_cast-result
overflow_cast-result c =
    let few = games-count c.bytes.result.now c.in_ok-games.games.items c.in_ok-games.ensures.read in
    let short = c.requires in
    let bytes = ap length c.bytes.ensures in
    omega (arith, few, short, bytes, c.len-count.ensures)
