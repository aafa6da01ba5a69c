use Rattle.std.proofs.Common.{◌-◌, subst}
use Rattle.cut_rules.specs.Stops.{IsGreatestOf}
use Rattle.card_brackets.proofs.Leasts.{assured_filled, least_weight}
use Rattle.card_brackets.proofs.bounds.least_after.Goals as goal

pub unreachable-requires : goal.unreachable-requires
unreachable-requires c =
    let front = c.in_ok-front.front.vectors in
    assured_filled c.args.child.now (c.args.question.now.moves - 1) front c.width-width.ensures.a_node c.in_ok-front.ensures.front.front
    (subst (λ found. IsGreatestOf c.args.question.now.weights.now front found) c.in-None.is c.greatest_weight.ensures)

pub returns-clause-least : goal.returns-clause-least
returns-clause-least c =
    let front = c.in_ok-front.front.vectors in
    least_weight c.args.child.now (c.args.question.now.moves - 1) c.args.question.now.weights.now front c.in-Some.weight c.in_ok-front.ensures.front.front
    (subst (λ found. IsGreatestOf c.args.question.now.weights.now front found) c.in-Some.is c.greatest_weight.ensures)
