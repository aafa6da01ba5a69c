use Rattle.std.proofs.Common.{sym}
use Rattle.trick_rules.specs.Positions.{State}
use Rattle.equivalent_positions.proofs.Likes.{alike_self}
use Rattle.dd_solver.proofs.solver.Solver.makes.Goals as goal

pub returns-clause-answer : goal.returns-clause-answer
returns-clause-answer c =
    let s : State = record { position = c.args.position.now; left = c.args.left } in
    sym (c.search.ensures.answer.answers s c.search.ensures.state (alike_self c.search.result.counting s))
