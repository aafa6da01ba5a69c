use Rattle.std.proofs.Common.{◌-◌, ◌≡◌, ◌+◌, ◌≤◌}
use Rattle.work_tickets.specs.Passes.{IsTicketPass, numbers_of, read_of, tries_of}
use Rattle.work_tickets.proofs.Tickets.draw.Given as goal

abbrev pub invariant-loop-next : goal.invariant-loop-next
invariant-loop-next l =
    IsTicketPass l.self l.pass × (numbers_of l.pass ≡ numbers_of l.initial.pass) × (l.next ≤ read_of l.pass) × (tries_of l.pass ≤ tries_of l.initial.pass + l.next) × (l.next ≤ l.self.limit)

abbrev pub decreases-loop-next : goal.decreases-loop-next
decreases-loop-next l = l.self.limit - l.next
