use Rattle.std.proofs.Common.{rules, ◌≡◌, true}
use Rattle.win_vectors.specs.Fronts.{Dominates}
use Rattle.set_memo.proofs.Follows.{follows_won}
use Rattle.set_memo.proofs.kept_set.KeptSet.verdict_on.Goals as goal

pub returns-then-dominates : goal.returns-then-dominates
returns-then-dominates c =
    let won : c.args.self.now.won ≡ true = search rules in
    let over : Dominates c.args.self.now.set c.args.set = search rules in
    follows_won c.args.self.now c.args.set won over
