-- What is known after cards moved up, carried back to where they were.
use Rattle.std.proofs.Common.{◌≡◌, ℕ, ◌<◌, ◌≤◌, Bool, true, false, not, ◌&&◌, ◌||◌, List, [], length, refl, sym, ap, subst, ◌∙◌, inl, arith}
use Rattle.std.proofs.lemmas.Bool.{both_ways, eq-eqb, false_from_ne_true, or_right}
use Rattle.std.proofs.lemmas.List.{nil_from_length}
use Rattle.card_sets.specs.declared.card.Suit.{Suit}
use Rattle.card_sets.specs.declared.seat.Seat.{Seat}
use Rattle.card_sets.specs.declared.seat.Seat.TheVariants.{Declarer, Left, Dummy, Right}
use Rattle.card_sets.specs.Cards.{suit_of, suit_place}
use Rattle.card_sets.specs.SetWords.{has_card, IsSubset}
use Rattle.card_sets.proofs.Sets.{has_card-filter}
use Rattle.card_sets.proofs.Suits.{same_suit-true, card_of-suit_of}
use Rattle.trick_rules.specs.Positions.{State, IsState, tricks_left}
use Rattle.trick_rules.specs.Play.{of_suit, hand_of, makes, cards_left, decided}
use Rattle.sure_tricks.proofs.Hands.{hand_set}
use Rattle.double_dummy.specs.Equals.{in_play}
use Rattle.double_dummy.proofs.Swap.{swap, swap-first, swap-second, swap-other, each_card}
use Rattle.double_dummy.proofs.Mirror.{hand-mirrored}
use Rattle.equivalent_positions.specs.Alike.{IsClosedUp, AreAlike, HasAnswer}
use Rattle.equivalent_positions.proofs.Likes.{alike_back}
use Rattle.equivalent_positions.proofs.Answers.{an_alike_state_answers}
use Rattle.dd_solver.specs.Closed.{up_from}
use Rattle.dd_solver.proofs.Winner.{up_has}
use Rattle.dd_solver.proofs.MovedUp.{with_moved, IsMovedUp, nobody, moved-IsState, moved-mirrored, moved-makes, suit-renamed, declarer-length, dummy-length, unseen-length}

-- a place between two cards of one suit is of that suit
pub between_suit : (low c high : ℕ) → low ≤ c → c ≤ high → high < 52 → suit_of low ≡ suit_of high → suit_of c ≡ suit_of low
between_suit low c high above below fits suit =
    same_suit-true (suit_of c) (suit_of low) (eq-eqb (suit_place (suit_of c)) (suit_place (suit_of low))
    (let e = ap suit_place suit in
    let one = card_of-suit_of low (omega (arith, above, below, fits)) in
    let other = card_of-suit_of c (omega (arith, below, fits)) in
    let last = card_of-suit_of high fits in
    omega (arith, e, one, other, last, above, below)))

-- ---- one card

module _ (s : State) (low high : ℕ) (ok : IsState s) (none : s.position.trick.cards ≡ []) (suit : suit_of low ≡ suit_of high) (order : low < high) (fits : high < 52)
    (free : (c : ℕ) → low < c → c ≤ high → in_play s.position c ≡ false) where
  abbrev there : State
  there = with_moved low high s

  -- a hand there has what the hand here has under the new names
  moved_hand : (seat : Seat) (c : ℕ) → has_card (hand_of there seat) c ≡ has_card (hand_of s seat) (swap low high c)
  moved_hand seat c = hand-mirrored low high s there (moved-mirrored s low high ok none suit order fits free) seat c

  moved_lengths : (seat : Seat) (u : Suit) → length (of_suit u (hand_of there seat)) ≡ length (of_suit u (hand_of s seat))
  moved_lengths seat u =
      suit-renamed low high suit order fits (hand_of s seat) (hand_of there seat) (hand_set s ok seat) (hand_set there (moved-IsState s low high ok none suit order fits free) seat)
      (nobody s low high ok none suit order fits free seat high order (omega arith)) (moved_hand seat) u

module _ (s : State) (low high : ℕ) (ok : IsState s) (none : s.position.trick.cards ≡ []) (suit : suit_of low ≡ suit_of high) (order : low < high) (fits : high < 52)
    (free : (c : ℕ) → low < c → c ≤ high → in_play s.position c ≡ false) (counting : List ℕ) (made : Bool) (closed : IsClosedUp counting)
    (answer : HasAnswer counting (with_moved low high s) made) where
  abbrev new : State
  new = with_moved low high s

  -- where the new place doesn't count
  pub place_out : has_card counting high ≡ false → HasAnswer counting s made
  place_out out = an_alike_state_answers counting new s made (alike_back counting s new alike) answer
    where
      low_out : has_card counting low ≡ false
      low_out = false_from_ne_true (has_card counting low) (λ h. both_ways (has_card counting high) out (closed low high h suit order fits))

      differs : (c d : ℕ) → has_card counting c ≡ true → has_card counting d ≡ false → c ≡ d → ⊥
      differs c d h k e = both_ways (has_card counting d) k (subst (λ x. has_card counting x ≡ true) e h)

      alike : AreAlike counting s new
      alike = record {
        leader = refl;
        trump = refl;
        need = refl;
        played = refl;
        trick = λ place h. inl refl;
        hands = λ seat. record {
          same = λ c counts. ap (has_card (hand_of s seat)) (sym (swap-other low high c (differs c low counts low_out) (differs c high counts out)))
              ∙ sym (moved_hand s low high ok none suit order fits free seat c);
          lengths = λ u. sym (moved_lengths s low high ok none suit order fits free seat u);
        };
      }

  module _ (more : List ℕ) (counts : has_card counting high ≡ true) (within : IsSubset counting more) (value : (c : ℕ) → c < 52 → has_card more c ≡ (has_card counting c || has_card (up_from low) c)) where
    range_counts : (c : ℕ) → low ≤ c → c ≤ high → has_card more c ≡ true
    range_counts c above below =
        value c (omega (arith, below, fits))
        ∙ or_right (has_card counting c) (has_card (up_from low) c) (up_has low c (omega (arith, below, fits)) (between_suit low c high above below fits suit) above)

    swap_counts : (c : ℕ) → has_card counting c ≡ true → has_card more (swap low high c) ≡ true
    swap_counts = each_card low high (λ c. has_card counting c ≡ true → has_card more (swap low high c) ≡ true)
        (λ h. ap (has_card more) (swap-first low high) ∙ range_counts high (omega (arith, order)) (omega arith))
        (λ h. ap (has_card more) (swap-second low high) ∙ range_counts low (omega arith) (omega (arith, order)))
        (λ c e f h. ap (has_card more) (swap-other low high c e f) ∙ within c h)

    module _ (t : State) (ok' : IsState t) (a : AreAlike more s t) where
      none_there : t.position.trick.cards ≡ []
      none_there = nil_from_length t.position.trick.cards (sym a.played ∙ ap (length {A = ℕ}) none)

      hand_free : (seat : Seat) (c : ℕ) → low < c → c ≤ high → has_card (hand_of t seat) c ≡ false
      hand_free seat c above below = sym ((a.hands seat).same c (range_counts c (omega (arith, above)) below)) ∙ nobody s low high ok none suit order fits free seat c above below

      and_true : (b : Bool) → (b && true) ≡ b
      and_true true = refl
      and_true false = refl

      unseen_free : (c : ℕ) → low < c → c ≤ high → has_card t.position.unseen c ≡ false
      unseen_free c above below =
          sym (and_true (has_card t.position.unseen c))
          ∙ ap (λ b. has_card t.position.unseen c && not b) (sym (hand_free Left c above below))
          ∙ sym (has_card-filter (λ d. not (has_card t.left d)) t.position.unseen c)
          ∙ hand_free Right c above below

      free_there : (c : ℕ) → low < c → c ≤ high → in_play t.position c ≡ false
      free_there c above below = rw (none_there, hand_free Declarer c above below, hand_free Dummy c above below, unseen_free c above below) refl

      abbrev new_there : State
      new_there = with_moved low high t

      alike_moved : AreAlike counting new new_there
      alike_moved = record {
        leader = a.leader;
        trump = a.trump;
        need = a.need;
        played = a.played;
        trick = λ place h. (let e = ap (length {A = ℕ}) none in absurd (omega (arith, h, e)));
        hands = λ seat. record {
          same = λ c h. moved_hand s low high ok none suit order fits free seat c
              ∙ (a.hands seat).same (swap low high c) (swap_counts c h)
              ∙ sym (moved_hand t low high ok' none_there suit order fits free_there seat c);
          lengths = λ u. moved_lengths s low high ok none suit order fits free seat u
              ∙ (a.hands seat).lengths u
              ∙ sym (moved_lengths t low high ok' none_there suit order fits free_there seat u);
        };
      }

      pub made_there : makes t ≡ made
      made_there = moved-makes t low high ok' none_there suit order fits free_there ∙ answer new_there (moved-IsState t low high ok' none_there suit order fits free_there) alike_moved

-- where the new place counts, the card and all above it do
pub place_in : (s t : State) (low high : ℕ) (counting more : List ℕ) (made : Bool) → IsState s → IsMovedUp s low high t → IsClosedUp counting → HasAnswer counting t made → has_card counting high ≡ true
    → IsSubset counting more → ((c : ℕ) → c < 52 → has_card more c ≡ (has_card counting c || has_card (up_from low) c)) → HasAnswer more s made
place_in s t low high counting more made ok m closed answer counts within value = λ u ok' a.
    made_there s low high ok m.between_tricks m.suit m.order m.fits m.free counting made closed (subst (λ x. HasAnswer counting x made) m.moved answer) more counts within value u ok' a

-- else the same cards do
pub place_not_in : (s t : State) (low high : ℕ) (counting : List ℕ) (made : Bool) → IsState s → IsMovedUp s low high t → IsClosedUp counting → HasAnswer counting t made → has_card counting high ≡ false
    → HasAnswer counting s made
place_not_in s t low high counting made ok m closed answer out =
    place_out s low high ok m.between_tricks m.suit m.order m.fits m.free counting made closed (subst (λ x. HasAnswer counting x made) m.moved answer) out

pub moved-state : (s t : State) (low high : ℕ) → IsState s → IsMovedUp s low high t → IsState t
moved-state s t low high ok m = subst IsState (sym m.moved) (moved-IsState s low high ok m.between_tricks m.suit m.order m.fits m.free)

-- ---- what a move leaves as it is

pub moved-numbers : (s t : State) (low high : ℕ) → IsState s → IsMovedUp s low high t → (cards_left t.position ≡ cards_left s.position) × (decided t.position ≡ decided s.position)
moved-numbers s t low high ok m =
    let d = declarer-length s low high ok m.between_tricks m.suit m.order m.fits m.free in
    let e = dummy-length s low high ok m.between_tricks m.suit m.order m.fits m.free in
    let f = unseen-length s low high ok m.between_tricks m.suit m.order m.fits m.free in
    let tricks : tricks_left (with_moved low high s).position ≡ tricks_left s.position = omega (arith, d) in
    (ap (λ (x : State). cards_left x.position) m.moved ∙ omega (arith, d, e, f), ap (λ (x : State). decided x.position) m.moved ∙ rw tricks refl)
