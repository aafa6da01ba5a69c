-- What a clause says of tickets and of a pass.
use Rattle.std.specs.Prelude.{◌≡◌, ℕ, ◌≤◌, List, []}
use Rattle.work_tickets.specs.declared.Tickets.{Tickets}
use Rattle.work_tickets.specs.declared.TicketPass.{TicketPass}
use Rattle.work_tickets.specs.Drawn.{times, once_below}

-- how many tickets there are: the numbers below it
abbrev pub limit_of : Tickets → ℕ
limit_of t = t.limit

-- the pass is of these tickets, and has read no more than there are
abbrev pub IsTicketPass : Tickets → TicketPass → Type 0
IsTicketPass t p = (p.seat.table_id ≡ t.table.shared.table_id) × (p.seat.me.0.limit ≡ t.table.shared.key) × (p.seat.me.0.read ≤ p.seat.me.0.limit) × (p.seat.me.1 ≡ [])

-- the numbers that the pass drew, in the order of its draws
abbrev pub numbers_of : TicketPass → List ℕ
numbers_of p = p.seat.me.0.numbers

-- the greatest number that the pass read from the word
abbrev pub read_of : TicketPass → ℕ
read_of p = p.seat.me.0.read

-- how many exchanges of the word the pass made
abbrev pub tries_of : TicketPass → ℕ
tries_of p = p.seat.me.0.tries

-- the numbers that the pass drew are below n, and none stands twice
abbrev pub DrewBelow : ℕ → TicketPass → Type 0
DrewBelow n p = (k : ℕ) → times k (numbers_of p) ≤ once_below k n
