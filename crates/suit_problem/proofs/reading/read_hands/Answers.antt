use Rattle.std.proofs.Common.{◌≡◌, ◌∙◌, [], filter, ap, ap₂, sym}
use Rattle.std.specs.Prelude.{Ok}
use Rattle.card_sets.specs.declared.card.Suit.TheVariants.{Spades}
use Rattle.card_sets.specs.Cards.{suit_of, same_suit}
use Rattle.pbn_deal.specs.BoardRead.{together}
use Rattle.layout_maker.specs.Choosing.{without}
use Rattle.suit_problem.specs.Written.{hand_read, hands_over, suit_cards}
use Rattle.suit_problem.proofs.Readings.{both_read}
use Rattle.suit_problem.proofs.reading.read_hands.Goals as goal

pub returns : goal.returns
returns c =
    let dummy = c.args.dummy.now in
    let south = c.args.south.now in
    let first = c.in_ok-first.first in
    let second = c.in_ok-second.second in
    let first_is : hand_read [] dummy ≡ Ok first = ap (λ none. hand_read none dummy) (sym c.empty.ensures.value) ∙ sym c.read_hand.ensures ∙ c.in_ok-first.was in
    let second_is : hand_read first.named south ≡ Ok second = sym c.read_hand-2.ensures ∙ c.in_ok-second.was in
    let suit : c.of_suit.result ≡ suit_cards = c.of_suit.ensures.value ∙ ap (filter (λ card. same_suit (suit_of card) Spades)) c.pack.ensures.value in
    let free : c.minus-free.result ≡ without (together first.named second.named) suit_cards = c.minus-free.ensures.value ∙ ap₂ without c.either-named.ensures.value suit in
    c.hands_over.ensures ∙ ap (λ cards. hands_over cards first second) free ∙ sym (both_read dummy south first second first_is second_is)
