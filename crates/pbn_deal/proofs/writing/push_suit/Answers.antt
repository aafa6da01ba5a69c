use Rattle.std.proofs.Common.{◌++◌, ap, sym, ◌∙◌, arith}
use Rattle.card_sets.specs.SetWords.{has_card}
use Rattle.pbn_deal.specs.Writing.{suit_text}
use Rattle.pbn_deal.proofs.Written.{letters_from-all, written_letter, unwritten_letter, written_all}
use Rattle.pbn_deal.proofs.writing.push_suit.Goals.{then-has+in_ok-push, else-has}
use Rattle.pbn_deal.proofs.writing.push_suit.Goals as goal

pub loop-place-init : goal.loop-place-init
loop-place-init c = ap (λ t. c.args.text.now ++ t) (sym (letters_from-all c.args.hand c.args.suit))

pub loop-place-preserved : goal.loop-place-preserved
loop-place-preserved c =
    let total = c.args.text.now ++ suit_text c.args.hand c.args.suit in
    elim c.if-has.branch [
      | then-has+in_ok-push w ↦ written_letter c.loop-place.text c.if-has.text total c.args.hand c.args.suit c.loop-place.place c.new-rank.result w.rank_letter.result c.loop-place-test.true c.new-rank.ensures (ap (has_card c.args.hand) (sym c.new.ensures.value) ∙ sym c.has.ensures.value ∙ w.if-has.true) w.rank_letter.ensures.value (w.text-is ∙ w.in_ok-push.ensures.appended) c.loop-place.invariant
      | else-has w ↦ rw w.text-is (unwritten_letter c.loop-place.text total c.args.hand c.args.suit c.loop-place.place c.new-rank.result c.loop-place-test.true c.new-rank.ensures (ap (has_card c.args.hand) (sym c.new.ensures.value) ∙ sym c.has.ensures.value ∙ w.if-has.false) c.loop-place.invariant)
    ]

pub returns : goal.returns
returns c = written_all c.loop-place.text (c.args.text.now ++ suit_text c.args.hand c.args.suit) c.args.hand c.args.suit c.loop-place.place (omega arith) c.loop-place.invariant
