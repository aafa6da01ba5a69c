use Rattle.std.proofs.Common.{rules}
use Rattle.work_tickets.proofs.Keeps.{reads}
use Rattle.work_tickets.proofs.Tickets.close.Goals as goal

pub load-word-requires : goal.load-word-requires
load-word-requires c = (search rules, search rules, reads _ _ _ _ (search rules))
