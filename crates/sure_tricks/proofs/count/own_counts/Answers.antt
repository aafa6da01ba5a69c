use Rattle.std.proofs.Common.{◌≡◌, ℕ, not, ◌&&◌, refl, ap, ◌∙◌}
use Rattle.card_sets.specs.declared.card.Suit.{Suit}
use Rattle.card_sets.specs.declared.card.Suit.TheVariants.{Spades, Hearts, Diamonds, Clubs}
use Rattle.trick_rules.specs.Positions.{PositionValue, State, seat_after, to_play}
use Rattle.trick_rules.specs.Play.{of_suit, hand_of}
use Rattle.sure_tricks.specs.Sure.{is_suit, may_ruff, sure_of}
use Rattle.sure_tricks.proofs.Summing.{IsLook, least_of, suit_is, few_in}
use Rattle.sure_tricks.proofs.count.own_counts.Goals as goal
use Rattle.sure_tricks.proofs.count.own_counts.Goals.{After-sure_after-4}

look : (c : After-sure_after-4) → IsLook (record { position = c.args.position.now; left = c.args.left }) c.of-hands.result.own c.of-hands.result.next c.of-hands.result.partner c.of-hands.result.last
    c.position.inside.trump c.drawn-drawn.result
look c =
    let s : State = record { position = c.args.position.now; left = c.args.left } in
    record {
      hands = record {
        own_is = c.of-hands.ensures.own ∙ ap (λ seat. hand_of s seat) c.to_play.ensures.value;
        next_is = c.of-hands.ensures.next ∙ ap (λ seat. hand_of s (seat_after 1 seat)) c.to_play.ensures.value;
        partner_is = c.of-hands.ensures.partner ∙ ap (λ seat. hand_of s (seat_after 2 seat)) c.to_play.ensures.value;
        last_is = c.of-hands.ensures.last ∙ ap (λ seat. hand_of s (seat_after 3 seat)) c.to_play.ensures.value;
      };
      trump_is = ap (λ (t : PositionValue). t.trump) c.position.view_is;
      none = c.drawn-drawn.ensures.none;
      some = c.drawn-drawn.ensures.some;
    }

-- the sure cards of one suit, as they are counted
in_suit : (c : After-sure_after-4) (suit : Suit) (n : ℕ)
    → n ≡ least_of (not (is_suit c.position.inside.trump suit) && c.ruffs-ruffs.result.next) (not (is_suit c.position.inside.trump suit) && c.ruffs-ruffs.result.partner)
    (not (is_suit c.position.inside.trump suit) && c.ruffs-ruffs.result.last) (of_suit suit c.of-hands.result.own) (of_suit suit c.of-hands.result.next)
    (of_suit suit c.of-hands.result.partner) (of_suit suit c.of-hands.result.last)
    → n ≡ sure_of (record { position = c.args.position.now; left = c.args.left }) suit
in_suit c suit n = suit_is (record { position = c.args.position.now; left = c.args.left }) c.of-hands.result.own c.of-hands.result.next c.of-hands.result.partner c.of-hands.result.last
    c.position.inside.trump c.drawn-drawn.result (look c) c.ruffs-ruffs.result c.ruffs-ruffs.ensures.next c.ruffs-ruffs.ensures.partner c.ruffs-ruffs.ensures.last
    suit n (record { next = not (is_suit c.position.inside.trump suit) && c.ruffs-ruffs.result.next; partner = not (is_suit c.position.inside.trump suit) && c.ruffs-ruffs.result.partner; last = not (is_suit c.position.inside.trump suit) && c.ruffs-ruffs.result.last })
    refl refl refl

pub returns-clause-spades : goal.returns-clause-spades
returns-clause-spades c = in_suit c Spades c.sure_after.result c.sure_after.ensures

pub returns-clause-hearts : goal.returns-clause-hearts
returns-clause-hearts c = in_suit c Hearts c.sure_after-2.result c.sure_after-2.ensures

pub returns-clause-diamonds : goal.returns-clause-diamonds
returns-clause-diamonds c = in_suit c Diamonds c.sure_after-3.result c.sure_after-3.ensures

pub returns-clause-clubs : goal.returns-clause-clubs
returns-clause-clubs c = in_suit c Clubs c.sure_after-4.result c.sure_after-4.ensures

pub returns-clause-few : goal.returns-clause-few
returns-clause-few c =
    let s : State = record { position = c.args.position.now; left = c.args.left } in
    few_in s (record { sound = c.to_play.ensures.sound; fits = c.requires }) (to_play c.args.position.now)
    (λ suit seat. not (is_suit c.args.position.now.trump suit) && may_ruff s seat)
