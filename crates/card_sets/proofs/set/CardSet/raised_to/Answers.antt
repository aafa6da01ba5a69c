use Rattle.std.proofs.Common.{◌≡◌, ◌-◌, ◌*◌, ◌%◌, ◌^◌, ◌<◌, sym, ap, ◌∙◌, subst, arith}
use Rattle.std.specs.Prelude.{bit_and, bit_or}
use Rattle.std.proofs.lemmas.Nat.{or_lt, and_le_l}
use Rattle.bit_lists.specs.Bits.{places}
use Rattle.card_sets.specs.Cards.{suit_of, same_suit}
use Rattle.card_sets.specs.SetWords.{cards_where}
use Rattle.card_sets.specs.Raised.{with_raised}
use Rattle.card_sets.proofs.Words.{IsCardSet-places}
use Rattle.card_sets.proofs.Raised.{low-fits, shifted, shifted-fits, places-raised}
use Rattle.card_sets.proofs.set.CardSet.raised_to.Goals as goal

pub invariant_of-result : goal.invariant_of-result
invariant_of-result c =
    let n = c.self.inside.bits in
    let m = c.suit_bits.result in
    let is : places 52 m ≡ cards_where (λ d. same_suit (suit_of d) (suit_of c.args.place)) = c.suit_bits.ensures.value ∙ ap (λ s. cards_where (λ d. same_suit (suit_of d) s)) c.suit.ensures.value in
    rw c.bit_of.ensures.value (
    let l = bit_and (bit_and n m) (2 ^ c.args.place - 1) in
    let kept : bit_and n (2 ^ 64 - 1 - l) < 2 ^ 52 = omega (arith, and_le_l n (2 ^ 64 - 1 - l), c.self.invariant) in
    let up : l * 2 ^ 1 % 2 ^ 64 < 2 ^ 52 = omega (arith, shifted n c.args.place m c.self.invariant c.suit.ensures.below is, shifted-fits n c.args.place m c.self.invariant c.suit.ensures.below is) in
    or_lt 52 (bit_and n (2 ^ 64 - 1 - l)) (l * 2 ^ 1 % 2 ^ 64) kept up)

pub returns-clause-value : goal.returns-clause-value
returns-clause-value c =
    let n = c.self.inside.bits in
    let m = c.suit_bits.result in
    let is : places 52 m ≡ cards_where (λ d. same_suit (suit_of d) (suit_of c.args.place)) = c.suit_bits.ensures.value ∙ ap (λ s. cards_where (λ d. same_suit (suit_of d) s)) c.suit.ensures.value in
    ap (λ b. places 52 (bit_or (bit_and n (2 ^ 64 - 1 - bit_and (bit_and n m) (b - 1))) (bit_and (bit_and n m) (b - 1) * 2 ^ 1 % 2 ^ 64))) c.bit_of.ensures.value
    ∙ places-raised n c.args.place m c.self.invariant c.suit.ensures.below is
    ∙ ap (with_raised c.args.place) c.self.view_is

pub returns-clause-a_set : goal.returns-clause-a_set
returns-clause-a_set c = IsCardSet-places _
