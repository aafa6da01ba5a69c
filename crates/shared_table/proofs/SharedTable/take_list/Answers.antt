use Rattle.std.proofs.Common.{rules}
use Rattle.shared_table.proofs.Keeps.{takes_turn}
use Rattle.shared_table.proofs.SharedTable.take_list.Goals as goal

pub compare_exchange-found-requires : goal.compare_exchange-found-requires
compare_exchange-found-requires c = (search rules, search rules, takes_turn _ _ _ _ _ (search rules) (search rules) (search rules) c.requires.outside)
