use Rattle.std.proofs.Common.{drop, length, ap, ◌∙◌, ◌+◌, ◌-◌, ◌≡◌, arith}
use Rattle.suit_problem.proofs.Lists.{length-rest_of_pack}
use Rattle.suit_problem.proofs.weights.others.Goals as goal

pub returns : goal.returns
returns c =
    let cards = ap length (c.above_lowest.ensures ∙ ap (drop (26 + c.args.missing)) c.pack.ensures.value) in
    omega (arith, cards, length-rest_of_pack (26 + c.args.missing))
