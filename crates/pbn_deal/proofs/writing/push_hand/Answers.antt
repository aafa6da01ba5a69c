use Rattle.std.proofs.Common.{◌++◌, sym, ap, ◌∙◌}
use Rattle.card_sets.specs.declared.card.Suit.TheVariants.{Spades, Hearts, Diamonds, Clubs}
use Rattle.pbn_deal.specs.Writing.{suit_text}
use Rattle.pbn_deal.proofs.Written.{four_joined, hand_text-joined}
use Rattle.pbn_deal.proofs.writing.push_hand.Goals as goal

pub returns : goal.returns
returns c =
    let cards = c.args.hand in
    rw (c.in_ok-push_suit-4.ensures, c.in_ok-push-3.ensures.appended, c.in_ok-push_suit-3.ensures, c.in_ok-push-2.ensures.appended, c.in_ok-push_suit-2.ensures, c.in_ok-push.ensures.appended, c.in_ok-push_suit.ensures)
    (four_joined c.args.text.now 46 (suit_text cards Spades) (suit_text cards Hearts) (suit_text cards Diamonds) (suit_text cards Clubs) ∙ ap (λ t. c.args.text.now ++ t) (sym (hand_text-joined cards)))
