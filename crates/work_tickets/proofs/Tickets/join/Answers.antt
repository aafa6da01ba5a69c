use Rattle.std.proofs.Common.{rules}
use Rattle.work_tickets.proofs.Keeps.{joins, compares}
use Rattle.work_tickets.proofs.Tickets.join.Goals as goal

pub join_seat-requires : goal.join_seat-requires
join_seat-requires c = (search rules, search rules, search rules, search rules, joins _ _ _ _ _)

pub load-requires : goal.load-requires
load-requires c = (search rules, search rules, compares _ _ _ _)
