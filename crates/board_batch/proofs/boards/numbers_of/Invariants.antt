use Rattle.std.proofs.Common.{◌≤◌, length}
use Rattle.board_batch.proofs.boards.numbers_of.Given as goal

abbrev pub invariant-loop-number : goal.invariant-loop-number
invariant-loop-number l = 1 ≤ length l.numbers.items
