use Rattle.std.proofs.Common.{rules}
use Rattle.shared_table.proofs.Keeps.{gives_turn}
use Rattle.shared_table.proofs.SharedTable.give.Goals as goal

pub store-requires : goal.store-requires
store-requires c = (search rules, search rules, gives_turn _ _ _ _ _ _ (search rules) (search rules) c.requires.holds c.requires.inside c.requires.begins (search rules))
