use Rattle.std.proofs.Common.{rules}
use Rattle.work_tickets.proofs.Keeps.{splits}
use Rattle.work_tickets.proofs.Tickets.split.Goals as goal

pub split_seat-seat-requires : goal.split_seat-seat-requires
split_seat-seat-requires c = (search rules, search rules, splits _ _ _)
