-- At no trump, sure cards of the hand on lead and of its partner, where a card leads over.
use Rattle.std.proofs.Common.{◌≡◌, ◌≢◌, ◌⊎◌, ℕ, ◌<◌, ◌≤◌, true, false, ◌&&◌, nat_lt, List, length, refl, sym, ap, ◌∙◌, subst, inl, inr, ⊎_elim, arith}
use Rattle.std.proofs.lemmas.Bool.{cases_Bool, ne_eqb, false≢true, and_parts, le-ltb}
use Rattle.card_sets.specs.declared.seat.Seat.{Seat}
use Rattle.card_sets.specs.declared.seat.Seat.TheVariants.{Declarer, Left, Dummy, Right}
use Rattle.card_sets.specs.Cards.{suit_of, same_suit}
use Rattle.card_sets.specs.SetWords.{has_card, IsCardSet, IsSubset}
use Rattle.card_sets.proofs.Sets.{has_card-filter}
use Rattle.card_sets.proofs.Suits.{same_suit-true, same_suit-refl}
use Rattle.trick_rules.specs.declared.trump.Trump.TheVariants.{NoTrump}
use Rattle.trick_rules.specs.Positions.{State, seat_after, IsState}
use Rattle.trick_rules.specs.Play.{take_out, after, hand_of, of_suit, is_declarers}
use Rattle.trick_rules.proofs.CardLists.{has_card-take_out, take_out-low}
use Rattle.trick_rules.proofs.PlayLaws.{hands_are_apart}
use Rattle.sure_tricks.specs.Sure.{above, AreHigh}
use Rattle.sure_tricks.proofs.Counting.{count_less, count_out, one_of, greatest_of}
use Rattle.sure_tricks.proofs.Holding.{IsLead, lower, suit_test}
use Rattle.sure_tricks.proofs.Hands.{seats_differ, hand_after}

-- ---- high cards, with fewer cards about

-- a hand with a card less
pub high-less : (sure hand : List ℕ) (c : ℕ) → AreHigh sure hand → AreHigh sure (take_out c hand)
high-less sure hand c high card mem = ⊎_elim
    (λ (low : (d : ℕ) → has_card hand d ≡ true → same_suit (suit_of d) (suit_of card) ≡ true → d < card). inl (λ d h. low d (take_out-low c hand d h)))
    (λ (few : length (of_suit (suit_of card) hand) ≤ length (above card sure)).
    let less = count_less (λ d. same_suit (suit_of d) (suit_of card)) hand c in inr (omega arith))
    (high card mem)

-- without a card that none of them stands below
pub high-without : (sure hand : List ℕ) (u : ℕ) → ((v : ℕ) → has_card sure v ≡ true → suit_of v ≡ suit_of u → u ≤ v) → AreHigh sure hand → AreHigh (take_out u sure) hand
high-without sure hand u lowest high card mem = ⊎_elim
    (λ (low : (d : ℕ) → has_card hand d ≡ true → same_suit (suit_of d) (suit_of card) ≡ true → d < card). inl low)
    (λ (few : length (of_suit (suit_of card) hand) ≤ length (above card sure)).
    let same = ap (length {A = ℕ}) (count_out (λ d. same_suit (suit_of d) (suit_of card) && nat_lt card d) sure u (not_above (cases_Bool (same_suit (suit_of u) (suit_of card))))) in
    inr (omega arith))
    (high card was)
  where
    was : has_card sure card ≡ true
    was = take_out-low u sure card mem

    not_above : (same_suit (suit_of u) (suit_of card) ≡ true) ⊎ (same_suit (suit_of u) (suit_of card) ≡ false) → (same_suit (suit_of u) (suit_of card) && nat_lt card u) ≡ false
    not_above (inl e) = rw e (le-ltb card u (lowest card (take_out-low u sure card mem) (sym (same_suit-true (suit_of u) (suit_of card) e))))
    not_above (inr e) = rw e refl

-- the highest of its suit among some cards
pub top_of_suit : (sure : List ℕ) (v : ℕ) → IsCardSet sure → has_card sure v ≡ true → (t : ℕ) × (suit_of t ≡ suit_of v) × IsLead NoTrump sure t
top_of_suit sure v set mem =
    let best = greatest_of (of_suit (suit_of v) sure) (one_of (λ d. same_suit (suit_of d) (suit_of v)) sure v mem (same_suit-refl (suit_of v))) in
    let both = and_parts (has_card sure best.0) (same_suit (suit_of best.0) (suit_of v)) (sym (has_card-filter (λ d. same_suit (suit_of d) (suit_of v)) sure best.0) ∙ best.1) in
    let suit : suit_of best.0 ≡ suit_of v = same_suit-true (suit_of best.0) (suit_of v) both.1 in (
      best.0,
      suit,
      record {
        set = set;
        among = both.0;
        top = λ d held same. best.2 d (has_card-filter (λ e. same_suit (suit_of e) (suit_of v)) sure d ∙ rw (held, suit_test d (suit_of v) (same ∙ suit)) refl);
        first = inr (λ d held. refl);
      },
    )

-- two hands aren't both high in one suit
pub apart_suits : (ours theirs our_hand their_hand : List ℕ) (w v : ℕ) → IsCardSet ours → IsCardSet theirs → IsSubset ours our_hand → IsSubset theirs their_hand
    → AreHigh ours their_hand → AreHigh theirs our_hand → has_card ours w ≡ true → has_card theirs v ≡ true → suit_of w ≢ suit_of v
apart_suits ours theirs our_hand their_hand w v set other held their_held high their_high mem their_mem same =
    let a = top_of_suit ours w set mem in
    let b = top_of_suit theirs v other their_mem in
    let one = lower NoTrump ours a.0 a.2 their_hand high b.0 (their_held b.0 b.2.among) (b.1 ∙ sym same ∙ sym a.1) in
    let two = lower NoTrump theirs b.0 b.2 our_hand their_high a.0 (held a.0 a.2.among) (a.1 ∙ same ∙ sym b.1) in
    omega arith

-- ---- the partner's cards, while others are played

pub record IsKept (x : Seat) (s : State) (theirs : List ℕ) (link : ℕ) : Type 0 where
  pub held : IsSubset theirs (hand_of s (seat_after 2 x))
  pub high : (y : Seat) → y ≢ seat_after 2 x → AreHigh theirs (hand_of s y)
  pub linked : has_card (hand_of s x) link ≡ true

-- a part of a hand stays, where the card isn't of it
pub part_after : (part hand : List ℕ) (c : ℕ) → IsSubset part hand → has_card part c ≡ false → IsSubset part (take_out c hand)
part_after part hand c held spare d h = has_card-take_out c hand d
    ∙ rw (held d h, ne_eqb d c (λ e. false≢true (sym spare ∙ ap (has_card part) (sym e) ∙ h))) refl

pub kept_after : (x : Seat) (s : State) (theirs : List ℕ) (link c : ℕ) → IsKept x s theirs link → has_card theirs c ≡ false → c ≢ link → IsKept x (after s c) theirs link
kept_after x s theirs link c k spare other = record {
  held = λ d h. ap (λ (l : List ℕ). has_card l d) (hand_after s c (seat_after 2 x)) ∙ part_after theirs (hand_of s (seat_after 2 x)) c k.held spare d h;
  high = λ y differ. subst (AreHigh theirs) (sym (hand_after s c y)) (high-less theirs (hand_of s y) c (k.high y differ));
  linked = ap (λ (l : List ℕ). has_card l link) (hand_after s c x) ∙ has_card-take_out c (hand_of s x) link ∙ rw (k.linked, ne_eqb link c (λ e. other (sym e))) refl;
}

-- a card of one hand isn't among another's
pub spare_card : (s : State) → IsState s → (y z : Seat) (part : List ℕ) (c : ℕ) → y ≢ z → has_card (hand_of s y) c ≡ true → IsSubset part (hand_of s z) → has_card part c ≡ false
spare_card s ok y z part c differ mine held = elim (cases_Bool (has_card part c)) as (λ _. has_card part c ≡ false) [
  | inl e ↦ absurd (false≢true (sym (hands_are_apart s y z ok differ c mine) ∙ held c e))
  | inr e ↦ e
]

pub other_card : (s : State) → IsState s → (y x : Seat) (c link : ℕ) → y ≢ x → has_card (hand_of s y) c ≡ true → has_card (hand_of s x) link ≡ true → c ≢ link
other_card s ok y x c link differ mine held e = false≢true (sym (hands_are_apart s y x ok differ c mine) ∙ ap (has_card (hand_of s x)) e ∙ held)

-- what an opponent plays
pub kept_by_other : (x : Seat) (s : State) (theirs : List ℕ) (link c i : ℕ) → IsState s → IsKept x s theirs link → i < 4 → i ≢ 0 → i ≢ 2
    → has_card (hand_of s (seat_after i x)) c ≡ true → IsKept x (after s c) theirs link
kept_by_other x s theirs link c i ok k low not_x not_z held = kept_after x s theirs link c k
    (spare_card s ok (seat_after i x) (seat_after 2 x) theirs c (seats_differ i 2 x low (omega arith) not_z) held k.held)
    (other_card s ok (seat_after i x) x c link (seats_differ i 0 x low (omega arith) not_x) held k.linked)

pub partners_side : (x : Seat) → is_declarers (seat_after 2 x) ≡ is_declarers x
partners_side Declarer = refl
partners_side Left = refl
partners_side Dummy = refl
partners_side Right = refl
