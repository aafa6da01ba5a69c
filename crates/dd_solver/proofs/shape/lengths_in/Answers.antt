use Rattle.std.proofs.Common.{◌≡◌, ℕ, ◌+◌, ◌*◌, ◌<◌, ◌≤◌, List, length, ap, subst, arith}
use Rattle.card_sets.specs.declared.card.Suit.{Suit}
use Rattle.card_sets.specs.declared.card.Suit.TheVariants.{Spades, Hearts, Diamonds, Clubs}
use Rattle.card_sets.specs.SetWords.{IsCardSet}
use Rattle.trick_rules.specs.Play.{of_suit}
use Rattle.dd_solver.proofs.Shapes.{at_most_13}
use Rattle.dd_solver.proofs.shape.lengths_in.Goals as goal

four_places : (a b c d : ℕ) → a ≤ 13 → b ≤ 13 → c ≤ 13 → d ≤ 13 → ((a * 16 + b) * 16 + c) * 16 + d < 65536
four_places a b c d p q r s = omega arith

few_at : (suit : Suit) (cards : List ℕ) (n m : ℕ) {ys : List ℕ} → n ≡ m → m ≡ length ys → ys ≡ of_suit suit cards → IsCardSet ys → n ≤ 13
few_at suit cards n m {ys} e f is set = omega (arith, e, f, ap (length {A = ℕ}) is, at_most_13 suit cards (subst IsCardSet is set))

pub returns-clause-small : goal.returns-clause-small
returns-clause-small c =
    let cards = c.args.cards in
    four_places _ _ _ _
    (few_at Spades cards _ _ c.from-spades.ensures c.count.ensures.value c.of_suit.ensures.value c.of_suit.ensures.a_set)
    (few_at Hearts cards _ _ c.from-hearts.ensures c.count-2.ensures.value c.of_suit-2.ensures.value c.of_suit-2.ensures.a_set)
    (few_at Diamonds cards _ _ c.from-diamonds.ensures c.count-3.ensures.value c.of_suit-3.ensures.value c.of_suit-3.ensures.a_set)
    (few_at Clubs cards _ _ c.from-clubs.ensures c.count-4.ensures.value c.of_suit-4.ensures.value c.of_suit-4.ensures.a_set)
