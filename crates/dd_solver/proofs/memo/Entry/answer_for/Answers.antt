use Rattle.dd_solver.proofs.Keyed.{known_there}
use Rattle.dd_solver.proofs.memo.Entry.answer_for.Goals as goal

pub returns-then-settles : goal.returns-then-settles
returns-then-settles c =
    let entry = c.args.self.now in
    known_there entry.key c.args.key.now entry.answer entry.state c.requires.state entry.shape c.requires.shape (c.is_like.ensures c.if-is_like.true) entry.known (c.settles.ensures c.if-settles.true)
