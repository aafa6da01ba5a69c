use Rattle.dd_solver.proofs.Shards.{holds_last, holds_still}
use Rattle.dd_solver.proofs.shared_memo.SharedMemo.look.Goals as goal

pub slot_mut-requires : goal.slot_mut-requires
slot_mut-requires c = (c.in_ok-seat.ensures.table, holds_last _ c.in_ok-seat.seat.me c.in_ok-seat.ensures.holds)

pub give-requires-clause-holds : goal.give-requires-clause-holds
give-requires-clause-holds c = holds_still _ c.in_ok-seat.seat.me _ c.in_ok-seat.ensures.holds
