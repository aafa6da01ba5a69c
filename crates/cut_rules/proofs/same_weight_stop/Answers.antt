use Rattle.std.proofs.Common.{◌≡◌, ℕ, subst}
use Rattle.std.proofs.lemmas.Bool.{eqb-true}
use Rattle.cut_rules.specs.Stops.{IsGreatestWeight}
use Rattle.cut_rules.proofs.GreatestWeights.{greatest_enough}
use Rattle.cut_rules.proofs.same_weight_stop.Goals as goal

pub returns-in-Some-clause-enough : goal.returns-in-Some-clause-enough
returns-in-Some-clause-enough c = λ yes n moves cards our front vector wins e.
    let less = c.args.less.now.vectors in
    let best : ℕ = c.args.best in
    let same : c.in-Some.greatest ≡ best = eqb-true c.in-Some.greatest best yes in
    let greatest : IsGreatestWeight c.args.weights.now less best = subst (λ k. IsGreatestWeight c.args.weights.now less k) same c.in-Some.ensures in
    greatest_enough c.args.weights.now n moves cards less best vector our front greatest wins e
