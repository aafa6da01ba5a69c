use Rattle.std.proofs.Common.{rules}
use Rattle.work_tickets.proofs.Keeps.{draws}
use Rattle.work_tickets.proofs.Tickets.draw.Goals as goal

pub compare_exchange-found-requires : goal.compare_exchange-found-requires
compare_exchange-found-requires c = (search rules, search rules, draws _ _ _ _ _ (search rules) (search rules))
