use Rattle.std.proofs.Common.{◌∙◌, List, ℕ, filter, sym, ap, subst}
use Rattle.card_sets.specs.SetWords.{has_card}
use Rattle.alphamu_core.specs.Kept.{AreEnough}
use Rattle.alphamu_core.proofs.Bounds.{bounds}
use Rattle.alphamu_core.proofs.Enough.{enough_part, enough_all, lowest_part}
use Rattle.alphamu_core.proofs.kept.cards_to_try.Goals as goal

pub returns-then-rules-clause-enough : goal.returns-then-rules-clause-enough
returns-then-rules-clause-enough c =
    enough_part c.args.node.now c.one_of_equals.result c.both.result
    (c.both.ensures.value ∙ ap (λ (cards : List ℕ). filter (has_card c.one_of_equals.result) cards) c.choices.ensures)
    c.one_of_equals.ensures.lowest c.one_of_equals.ensures.each

pub returns-then-rules-clause-lowest : goal.returns-then-rules-clause-lowest
returns-then-rules-clause-lowest c = λ _. lowest_part c.args.node.now c.one_of_equals.result c.both.result
    (c.both.ensures.value ∙ ap (λ (cards : List ℕ). filter (has_card c.one_of_equals.result) cards) c.choices.ensures)
    c.one_of_equals.ensures.lowest

pub returns-then-rules-clause-each : goal.returns-then-rules-clause-each
returns-then-rules-clause-each c = λ none. absurd (bounds c.args.rules c.if-rules.true none)

pub returns-else-rules-clause-enough : goal.returns-else-rules-clause-enough
returns-else-rules-clause-enough c = subst (λ cards. AreEnough c.args.node.now cards) (sym c.choices-else-rules.ensures) (enough_all c.args.node.now)
