use Rattle.std.proofs.Common.{◌≡◌, ◌∙◌, ◌*◌, ◌^◌, ◌%◌, ℕ, refl, sym, ap}
use Rattle.bit_lists.specs.Bits.{places, below}
use Rattle.card_sets.specs.declared.card.Suit.{Suit}
use Rattle.card_sets.specs.declared.card.Suit.TheVariants.{Spades, Hearts, Diamonds, Clubs}
use Rattle.card_sets.specs.Cards.{suit_of, same_suit}
use Rattle.card_sets.specs.SetWords.{cards_where}
use Rattle.card_sets.proofs.set.suit_bits.Goals as goal
use Rattle.card_sets.proofs.set.suit_bits.Goals.{in-Spades, in-Hearts, in-Diamonds, in-Clubs}

-- the word of a suit that this many cards come before
word_of : (suit named : Suit) (before known : ℕ) → before ≡ known → suit ≡ named → places 52 (8191 * 2 ^ known % 18446744073709551616) ≡ cards_where (λ card. same_suit (suit_of card) named)
    → places 52 (8191 * 2 ^ before % 18446744073709551616) ≡ cards_where (λ card. same_suit (suit_of card) suit)
word_of suit named before known place is word =
    ap (λ n. places 52 (8191 * 2 ^ n % 18446744073709551616)) place ∙ word ∙ ap (λ s. cards_where (λ card. same_suit (suit_of card) s)) (sym is)

pub returns-clause-value : goal.returns-clause-value
unfolding places below cards_where
returns-clause-value c = elim c.match-suit.branch [
  | in-Spades w ↦ word_of _ Spades _ 0 w.before-is w.in-Spades.is refl
  | in-Hearts w ↦ word_of _ Hearts _ 13 w.before-is w.in-Hearts.is refl
  | in-Diamonds w ↦ word_of _ Diamonds _ 26 w.before-is w.in-Diamonds.is refl
  | in-Clubs w ↦ word_of _ Clubs _ 39 w.before-is w.in-Clubs.is refl
]
