use Rattle.std.proofs.Common.{ap₂, ◌∙◌}
use Rattle.std.specs.Cmp.Lexicographic.{pointwise}
use Rattle.std.specs.Prelude.{nat_eq}
use Rattle.card_sets.proofs.Words.{same_places}
use Rattle.card_sets.proofs.set.CardSetPartialEq.eq.Goals as goal

pub returns : goal.returns
returns c =
    same_places c.self.inside.bits c.other.inside.bits c.self.invariant c.other.invariant
    ∙ ap₂ (λ these those. pointwise nat_eq these those) c.self.view_is c.other.view_is
