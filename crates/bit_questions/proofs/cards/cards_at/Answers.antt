use Rattle.std.proofs.Common.{◌≡◌, ℕ, List, ◌&&◌, sym, ap, ap₂, ◌∙◌, subst, arith}
use Rattle.std.specs.Prelude.{◌==◌, ◌||◌}
use Rattle.bit_lists.specs.Bits.{has_bit}
use Rattle.card_sets.specs.SetWords.{has_card, cards_where, IsCardSet}
use Rattle.card_sets.proofs.Sets.{IsCardSet-cards_where}
use Rattle.bit_questions.proofs.Bits.{upto, upto-next, upto-all}
use Rattle.bit_questions.proofs.cards.cards_at.Goals as goal

pub loop-number-preserved : goal.loop-number-preserved
loop-number-preserved c =
    let bits = c.args.bits in
    let with_one = λ (cards : List ℕ) (place : ℕ). cards_where (λ d. has_card cards d || ((d == place) && has_bit bits place)) in
    record {
      cards = c.with_bit-cards.ensures ∙ ap₂ with_one c.loop-number.invariant.cards c.from_number.ensures ∙ upto-next bits c.loop-number.number;
      a_set = subst IsCardSet (sym c.with_bit-cards.ensures) (IsCardSet-cards_where _);
    }

pub returns : goal.returns
returns c =
    let all : c.loop-number.number ≡ 52 = omega arith in
    c.loop-number.invariant.cards ∙ ap (upto c.args.bits) all ∙ upto-all c.args.bits
