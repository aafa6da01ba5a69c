use Rattle.std.proofs.Common.{ap, ◌∙◌}
use Rattle.std.specs.Prelude.{filter}
use Rattle.card_sets.specs.SetWords.{has_card}
use Rattle.dd_solver.proofs.JustBelow.{both-parts, not-empty}
use Rattle.dd_solver.proofs.enough.below_gaps.Goals as goal

pub returns-clause-within : goal.returns-clause-within
returns-clause-within c card h = (both-parts c.args.cards c.one_below.result c.both.result card c.both.ensures.value h).0

pub returns-clause-none : goal.returns-clause-none
returns-clause-none c =
    not-empty c.pack.result c.args.playing c.minus.result c.args.cards c.both.result c.pack.ensures.value c.minus.ensures.value
    (c.both.ensures.value ∙ ap (λ x. filter (has_card x) c.args.cards) c.one_below.ensures.value)
