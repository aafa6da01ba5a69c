use Rattle.dd_solver.proofs.Winner.{first_found}
use Rattle.dd_solver.proofs.order.Order.first_of.Goals as goal

pub returns-in-Begun-2 : goal.returns-in-Begun-2
returns-in-Begun-2 c = first_found c.args.cards c.args.cards c.first.result c.first.ensures.value (λ card h. h) (λ e. e)

pub returns-in-Likely : goal.returns-in-Likely
returns-in-Likely c = first_found c.narrowed.result c.args.cards c.first-in-Likely.result c.first-in-Likely.ensures.value c.narrowed.ensures.within c.narrowed.ensures.some

pub returns-in-Plays : goal.returns-in-Plays
returns-in-Plays c = first_found c.narrowed-in-Plays-2.result c.args.cards c.first-in-Plays.result c.first-in-Plays.ensures.value
    (λ card h. c.narrowed-in-Plays.ensures.within card (c.narrowed-in-Plays-2.ensures.within card h)) (λ e. c.narrowed-in-Plays.ensures.some (c.narrowed-in-Plays-2.ensures.some e))
