use Rattle.std.proofs.Common.{◌≡◌, ℕ, true, not, length, refl, sym, ap, ◌∙◌, inr, arith}
use Rattle.std.proofs.lemmas.Bool.{and_parts, not-true, not-false}
use Rattle.std.proofs.lemmas.List.Filters.{length-filter_both}
use Rattle.card_sets.specs.Cards.{suit_of, same_suit}
use Rattle.card_sets.specs.SetWords.{has_card}
use Rattle.card_sets.proofs.Sets.{has_card-filter, IsSubset-filter}
use Rattle.card_sets.proofs.Suits.{same_suit-true}
use Rattle.dd_solver.proofs.enough.without_like.Goals as goal

pub returns-clause-within : goal.returns-clause-within
returns-clause-within c card h =
    IsSubset-filter (λ x. not (has_card c.minus.result x)) c.args.cards card (sym (ap (λ l. has_card l card) c.minus-2.ensures.value) ∙ h)

pub returns-clause-fewer : goal.returns-clause-fewer
returns-clause-fewer c =
    let all = length-filter_both (has_card c.minus.result) (λ x. not (has_card c.minus.result x)) (λ x. refl) c.args.cards in
    omega (arith, all, ap (length {A = ℕ}) c.minus-2.ensures.value)

pub returns-clause-like : goal.returns-clause-like
returns-clause-like c other held out =
    let gone : has_card c.minus.result other ≡ true = not-false (has_card c.minus.result other)
    (rw held at (sym (has_card-filter (λ x. not (has_card c.minus.result x)) c.args.cards other) ∙ sym (ap (λ l. has_card l other) c.minus-2.ensures.value) ∙ out)) in
    let parts = and_parts (has_card c.of_suit.result other) (not (has_card c.args.counting other))
    (sym (ap (λ l. has_card l other) c.minus.ensures.value ∙ has_card-filter (λ x. not (has_card c.args.counting x)) c.of_suit.result other) ∙ gone) in
    let inside = and_parts (has_card c.args.cards other) (same_suit (suit_of other) c.suit.result)
    (sym (ap (λ l. has_card l other) c.of_suit.ensures.value ∙ has_card-filter (λ x. same_suit (suit_of x) c.suit.result) c.args.cards other) ∙ parts.0) in
    inr (
      sym c.has.ensures.value ∙ c.if-has.false,
      not-true (has_card c.args.counting other) parts.1,
      sym c.suit.ensures.value ∙ sym (same_suit-true (suit_of other) c.suit.result inside.1),
    )
