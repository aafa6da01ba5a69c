use Rattle.dd_solver.proofs.EqualsDown.{down-with}
use Rattle.dd_solver.proofs.enough.+closed_down.Goals as goal

pub returns-in-Some-next_equal-clause-down : goal.returns-in-Some-next_equal-clause-down
returns-in-Some-next_equal-clause-down t c = down-with c.args.legal c.args.playing c.in-Some.card c.pop_first.new.self c.args.cards c.closed_down-closed.result
    c.in-Some.ensures.value c.pop_first.ensures.a_set c.closed_down-closed.ensures.down c.with_up.result c.with_up.ensures.a_set c.with_up.ensures.value
