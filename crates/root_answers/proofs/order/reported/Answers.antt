use Rattle.std.proofs.Common.{◌≡◌, List, length, sym, subst, All}
use Rattle.std.specs.List.{AllPairs}
use Rattle.win_vectors.specs.Fronts.{Vector, Precedes}
use Rattle.root_answers.proofs.ReportedFronts.{front_wide, reported_from}
use Rattle.root_answers.proofs.order.reported.Goals as goal

pub by_weight-requires-clause-wide : goal.by_weight-requires-clause-wide
by_weight-requires-clause-wide c =
    subst (λ (vectors : List Vector). All (λ v. length v ≡ length c.args.question.now.weights.now) vectors) (sym c.as_slice.ensures.value)
    (front_wide c.args.question.now.node.now c.args.question.now.weights.now c.args.question.now.moves c.args.front.now.vectors c.requires.question.weights c.requires.front.front)

pub by_weight-requires-clause-ordered : goal.by_weight-requires-clause-ordered
by_weight-requires-clause-ordered c = subst (λ (vectors : List Vector). AllPairs Precedes vectors) (sym c.as_slice.ensures.value) c.requires.front.front.ordered

pub returns : goal.returns
returns c = reported_from c.args.question.now.node.now c.args.question.now.weights.now c.args.question.now.moves (λ v. v.items) c.args.front.now.vectors _ c.by_weight.result c.as_slice.ensures.value c.requires.front.front c.by_weight.ensures.same c.by_weight.ensures.reported
