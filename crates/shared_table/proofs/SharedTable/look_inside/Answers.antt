use Rattle.std.proofs.Common.{rules}
use Rattle.shared_table.proofs.Holding.{holds_last}
use Rattle.shared_table.proofs.SharedTable.look_inside.Goals as goal

pub slot_mut-list-requires : goal.slot_mut-list-requires
slot_mut-list-requires c = (search rules, holds_last _ _ c.requires.holds)
