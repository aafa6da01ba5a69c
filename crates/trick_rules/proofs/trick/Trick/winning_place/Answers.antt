use Rattle.std.proofs.Common.{◌≡◌, ℕ, length, sym, ap, ◌∙◌, arith}
use Rattle.trick_rules.specs.Positions.{TrickValue}
use Rattle.trick_rules.proofs.BestCard.{tested_takes, tested_fails}
use Rattle.trick_rules.proofs.trick.Trick.winning_place.Goals as goal

pub returns-then-takes-clause-value : goal.returns-then-takes-clause-value
returns-then-takes-clause-value c =
    let view = c.as_slice-cards.ensures.value ∙ ap (λ (trick : TrickValue). trick.cards) c.self.view_is in
    sym c.requires ∙ tested_takes c.args.trump c.args.self.now.cards c.as_slice-cards.result.now c.best_place-best.result c.index-cards-best.result c.args.last c.takes.result
    (omega (arith, c.requires)) view c.best_place-best.ensures.value c.best_place-best.ensures.within c.index-cards-best.is c.takes.ensures c.if-takes.true

pub returns-else-takes-clause-value : goal.returns-else-takes-clause-value
returns-else-takes-clause-value c =
    let view = c.as_slice-cards.ensures.value ∙ ap (λ (trick : TrickValue). trick.cards) c.self.view_is in
    tested_fails c.args.trump c.args.self.now.cards c.as_slice-cards.result.now c.best_place-best.result c.index-cards-best.result c.args.last c.takes.result
    (omega (arith, c.requires)) view c.best_place-best.ensures.value c.best_place-best.ensures.within c.index-cards-best.is c.takes.ensures c.if-takes.false

pub returns-else-takes-clause-within : goal.returns-else-takes-clause-within
returns-else-takes-clause-within c =
    let view : c.as_slice-cards.result.now ≡ c.args.self.now.cards = c.as_slice-cards.ensures.value ∙ ap (λ (trick : TrickValue). trick.cards) c.self.view_is in
    omega (arith, c.best_place-best.ensures.within, ap (length {A = ℕ}) view, c.requires)
