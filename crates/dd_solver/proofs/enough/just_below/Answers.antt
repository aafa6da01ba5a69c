use Rattle.std.proofs.Common.{◌+◌, ap, ◌∙◌}
use Rattle.std.specs.Prelude.{filter}
use Rattle.card_sets.specs.SetWords.{has_card}
use Rattle.card_sets.proofs.Sets.{has_card-below}
use Rattle.dd_solver.proofs.JustBelow.{one_below, below-parts, below-has, in_both, both-parts}
use Rattle.dd_solver.proofs.enough.just_below.Goals as goal

pub returns-clause-within : goal.returns-clause-within
returns-clause-within c card h = (both-parts c.args.cards c.one_below.result c.both-2.result card c.both-2.ensures.value h).0

pub returns-clause-counts : goal.returns-clause-counts
returns-clause-counts c card h =
    let value = c.both-2.ensures.value ∙ ap (λ x. filter (has_card x) c.args.cards) c.one_below.ensures.value in
    let parts = below-parts c.both.result card (both-parts c.args.cards (one_below c.both.result) c.both-2.result card value h).1 in (
      (both-parts c.args.counting c.args.legal c.both.result (card + 1) c.both.ensures.value parts.0).0,
      parts.1,
    )

pub returns-clause-all : goal.returns-clause-all
returns-clause-all c card h legal counts suit =
    let value = c.both-2.ensures.value ∙ ap (λ x. filter (has_card x) c.args.cards) c.one_below.ensures.value in
    let next = in_both c.args.counting c.args.legal c.both.result (card + 1) c.both.ensures.value counts legal in
    in_both c.args.cards (one_below c.both.result) c.both-2.result card value h
    (below-has c.both.result card (has_card-below c.both.result (card + 1) c.both.ensures.a_set next) next suit)
