use Rattle.std.proofs.Common.{◌≡◌, [], ◌∷◌, sym, ap, ◌∙◌}
use Rattle.card_sets.proofs.Sets.{first_card-none, first_card-some}
use Rattle.card_sets.proofs.set.CardSet.pop_first.Goals as goal

pub returns-in_err-card-clause-value : goal.returns-in_err-card-clause-value
returns-in_err-card-clause-value c =
    let none : c.args.self.now ≡ [] = first_card-none c.args.self.now (sym c.first.ensures.value ∙ c.in_err-card.was) in
    rw c.from_residual.ensures (none, none)

pub returns-clause-value : goal.returns-clause-value
returns-clause-value c =
    first_card-some c.args.self.now c.in_ok-card.card c.first.ensures.a_set (sym c.first.ensures.value ∙ c.in_ok-card.was)
    ∙ ap (λ rest. c.in_ok-card.card ∷ rest) (sym c.without.ensures.value)
