use Rattle.std.proofs.Common.{rules}
use Rattle.shared_table.proofs.Making.{begins}
use Rattle.shared_table.proofs.SharedTable.new.Goals as goal

pub new-requires : goal.new-requires
new-requires c = begins _ _ _ (search rules) (search rules)
