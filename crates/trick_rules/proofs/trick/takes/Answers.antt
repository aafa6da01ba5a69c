use Rattle.std.proofs.Common.{◌≡◌, rules, sym, ap₂, ◌∙◌}
use Rattle.std.specs.Prelude.{nat_lt}
use denote.Enum.Bare.{same_true, same_false}
use Rattle.card_sets.specs.contracts.card.Suit.{the_type}
use Rattle.trick_rules.proofs.BestCard.{takes_in_suit, takes_as_trump}
use Rattle.trick_rules.proofs.trick.takes.Goals as goal

pub returns-then-eq : goal.returns-then-eq
returns-then-eq c led strong =
    let suits : c.suit.result ≡ c.suit-2.result = same_true the_type (search rules) _ _ (sym c.eq.ensures ∙ c.if-eq.true) in
    ap₂ nat_lt c.number.ensures.value c.number-then-eq.ensures.value
    ∙ takes_in_suit c.args.trump led c.args.best c.args.card c.number.ensures.below c.number-then-eq.ensures.below
    (sym c.suit.ensures.value ∙ suits ∙ c.suit-2.ensures.value) strong

pub returns-else-eq : goal.returns-else-eq
returns-else-eq c led strong =
    c.is_trump.ensures
    ∙ takes_as_trump c.args.trump led c.args.best c.args.card
    (λ same. same_false the_type _ _ (sym c.eq.ensures ∙ c.if-eq.false) (c.suit.ensures.value ∙ same ∙ sym c.suit-2.ensures.value)) strong
