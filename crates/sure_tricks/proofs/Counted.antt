-- As many cards are sure as are counted.
use Rattle.std.proofs.Common.{◌≡◌, ◌≢◌, ℕ, zero, suc, ◌+◌, ◌<◌, ◌≤◌, Bool, true, false, not, ◌&&◌, ◌||◌, nat_lt, List, length, min, refl, sym, ap, ◌∙◌, subst, inl, inr, arith}
use Rattle.std.proofs.lemmas.Bool.{cases_Bool, false≢true, ltb-false, ltb-true, and_parts}
use Rattle.std.proofs.Math.Nat.{min-le_left, min-le_right, min-eq_left}
use Rattle.card_sets.specs.declared.card.Suit.{Suit}
use Rattle.card_sets.specs.declared.card.Suit.TheVariants.{Spades, Hearts, Diamonds, Clubs}
use Rattle.card_sets.specs.declared.seat.Seat.{Seat}
use Rattle.card_sets.specs.Cards.{suit_of, same_suit}
use Rattle.card_sets.specs.SetWords.{has_card}
use Rattle.card_sets.proofs.Sets.{has_card-filter, IsCardSet-filter, IsSubset-filter}
use Rattle.card_sets.proofs.SetCounts.{some_card}
use Rattle.card_sets.proofs.Suits.{same_suit-refl, same_suit-true}
use Rattle.trick_rules.specs.declared.trump.Trump.{Trump}
use Rattle.trick_rules.specs.declared.trump.Trump.TheVariants.{NoTrump, Suit as Suited}
use Rattle.trick_rules.specs.Positions.{State, seat_after, to_play, IsState}
use Rattle.trick_rules.specs.Play.{of_suit, is_trump, hand_of}
use Rattle.sure_tricks.specs.Sure.{trumps_of, is_suit, AreHigh, AreSafe, AreSure, high_count, taken_from, sure_against, sure_in, sure_trumps, may_ruff, sure_of, partners_of, leads_over}
use Rattle.sure_tricks.proofs.Hands.{next_three, hand_set}
use Rattle.sure_tricks.proofs.Picking.{picked, in_suit, picked_high, length_by_suits, high_count-part}
use Rattle.sure_tricks.proofs.Crossing.{safe_at_no_trump}

-- ---- what is taken from a hand

taken-high : (b : Bool) (own theirs : List ℕ) → taken_from b own theirs ≤ high_count own theirs
taken-high true own theirs = min-le_left (high_count own theirs) (length theirs)
taken-high false own theirs = omega arith

taken-safe : (b : Bool) (own theirs : List ℕ) → b ≡ true → taken_from b own theirs ≤ length theirs
taken-safe true own theirs e = min-le_right (high_count own theirs) (length theirs)
taken-safe false own theirs e = absurd (false≢true e)

-- ---- the cards of any seat, by the numbers of its suits

module _ (s : State) (ok : IsState s) (x : Seat) (flags : Suit → Seat → Bool) where
  -- a suit's number is no more than is sure against each of the others
  pub against : (suit : Suit) (i : ℕ) → 1 ≤ i → i < 4 → sure_in s x (flags suit) suit ≤ sure_against s x (flags suit) suit (seat_after i x)
  against suit zero some low = absurd (omega arith)
  against suit (suc zero) some low = min-le_left _ _
  against suit (suc (suc zero)) some low =
      let outer = min-le_right (sure_against s x (flags suit) suit (seat_after 1 x)) (min (sure_against s x (flags suit) suit (seat_after 2 x)) (sure_against s x (flags suit) suit (seat_after 3 x))) in
      let inner = min-le_left (sure_against s x (flags suit) suit (seat_after 2 x)) (sure_against s x (flags suit) suit (seat_after 3 x)) in
      omega arith
  against suit (suc (suc (suc zero))) some low =
      let outer = min-le_right (sure_against s x (flags suit) suit (seat_after 1 x)) (min (sure_against s x (flags suit) suit (seat_after 2 x)) (sure_against s x (flags suit) suit (seat_after 3 x))) in
      let inner = min-le_right (sure_against s x (flags suit) suit (seat_after 2 x)) (sure_against s x (flags suit) suit (seat_after 3 x)) in
      omega arith
  against suit (suc (suc (suc (suc i)))) some low = absurd (omega arith)

  -- so it is than is high there, and than the suit has
  pub high_against : (suit : Suit) (y : Seat) → y ≢ x → sure_in s x (flags suit) suit ≤ high_count (of_suit suit (hand_of s x)) (of_suit suit (hand_of s y))
  high_against suit y differ =
      let at = next_three x y differ in
      subst (λ seat. sure_in s x (flags suit) suit ≤ high_count (of_suit suit (hand_of s x)) (of_suit suit (hand_of s seat))) at.3
      (let one = against suit at.0 at.1 at.2 in
      let two = taken-high (flags suit (seat_after at.0 x)) (of_suit suit (hand_of s x)) (of_suit suit (hand_of s (seat_after at.0 x))) in
      omega arith)

  pub part_of_suit : (suit : Suit) → sure_in s x (flags suit) suit ≤ length (of_suit suit (hand_of s x))
  part_of_suit suit =
      let one = against suit 1 (omega arith) (omega arith) in
      let two = taken-high (flags suit (seat_after 1 x)) (of_suit suit (hand_of s x)) (of_suit suit (hand_of s (seat_after 1 x))) in
      let three = high_count-part (of_suit suit (hand_of s x)) (of_suit suit (hand_of s (seat_after 1 x))) in
      omega arith

  -- the sure cards of the hand
  abbrev pub counted : List ℕ
  counted = picked (λ suit. sure_in s x (flags suit) suit) (hand_of s x)

  counted_in : (suit : Suit) → length (of_suit suit counted) ≡ sure_in s x (flags suit) suit
  counted_in suit = in_suit (λ u. sure_in s x (flags u) u) (hand_of s x) (hand_set s ok x) suit ∙ min-eq_left (part_of_suit suit)

  pub length_counted : length counted ≡ sure_in s x (flags Spades) Spades + sure_in s x (flags Hearts) Hearts + sure_in s x (flags Diamonds) Diamonds + sure_in s x (flags Clubs) Clubs
  length_counted = length_by_suits counted (λ suit. sure_in s x (flags suit) suit) counted_in

  counted_high : (y : Seat) → y ≢ x → AreHigh counted (hand_of s y)
  counted_high y differ = picked_high (λ u. sure_in s x (flags u) u) (hand_of s x) (hand_set s ok x) (hand_of s y) (λ suit. high_against suit y differ)

  counted_sure : ((y : Seat) → y ≢ x → AreSafe s.position.trump counted (hand_of s y)) → AreSure s x counted
  counted_sure safe = record {
    set = IsCardSet-filter _ (hand_of s x) (hand_set s ok x);
    held = IsSubset-filter _ (hand_of s x);
    high = counted_high;
    safe = safe;
  }

  -- a suit with a number has such a card
  some_counted : (suit : Suit) → 0 < sure_in s x (flags suit) suit → (card : ℕ) × (has_card counted card ≡ true) × (suit_of card ≡ suit)
  some_counted suit some =
      let many = counted_in suit in
      let card = some_card (of_suit suit counted) (omega arith) in
      let both = and_parts (has_card counted card.0) (same_suit (suit_of card.0) suit) (sym (has_card-filter (λ c. same_suit (suit_of c) suit) counted card.0) ∙ card.1) in
      (card.0, both.0, same_suit-true (suit_of card.0) suit both.1)

-- ---- the hand on lead

module _ (s : State) (ok : IsState s) where
  -- which seats may ruff a suit
  abbrev pub ruffs_in : Suit → Seat → Bool
  ruffs_in suit seat = not (is_suit s.position.trump suit) && may_ruff s seat

  abbrev pub ours : List ℕ
  ours = counted s ok (to_play s.position) ruffs_in

  -- where trumps are drawn there are as many as the trumps led
  drawn : (trumps : Suit) → s.position.trump ≡ Suited trumps → sure_trumps s s.position.trump ≡ sure_of s trumps
  drawn trumps e = ap (sure_trumps s) e
      ∙ ap (λ (b : Bool). sure_in s (to_play s.position) (λ seat. not b && may_ruff s seat) trumps) (sym (ap (λ t. is_suit t trumps) e ∙ same_suit-refl trumps))

  counted_safe : (y : Seat) → y ≢ to_play s.position → AreSafe s.position.trump ours (hand_of s y)
  counted_safe y differ = go s.position.trump refl
    where
      safe_in : (suit : Suit) → is_suit s.position.trump suit ≡ false → may_ruff s y ≡ true → sure_of s suit ≤ length (of_suit suit (hand_of s y))
      safe_in suit side ruffs = subst (λ seat. may_ruff s seat ≡ true → sure_of s suit ≤ length (of_suit suit (hand_of s seat))) (next_three (to_play s.position) y differ).3
          (λ h.
          let i = (next_three (to_play s.position) y differ) in
          let one = against s ok (to_play s.position) ruffs_in suit i.0 i.1 i.2 in
          let two = taken-safe (ruffs_in suit (seat_after i.0 (to_play s.position))) (of_suit suit (hand_of s (to_play s.position))) (of_suit suit (hand_of s (seat_after i.0 (to_play s.position)))) (rw (side, h) refl) in
          omega arith) ruffs

      go : (trump : Trump) → s.position.trump ≡ trump → AreSafe s.position.trump ours (hand_of s y)
      go NoTrump e = subst (λ t. AreSafe t ours (hand_of s y)) (sym e) (safe_at_no_trump ours (hand_of s y))
      go (Suited trumps) e = elim (cases_Bool (may_ruff s y)) as (λ _. AreSafe s.position.trump ours (hand_of s y)) [
        | inl ruffs ↦ inr (λ card mem side.
            let off : is_suit s.position.trump (suit_of card) ≡ false = ap (λ t. is_suit t (suit_of card)) e ∙ sym (ap (λ t. is_trump t card) e) ∙ side in
            let one = counted_in s ok (to_play s.position) ruffs_in (suit_of card) in
            let two = safe_in (suit_of card) off ruffs in
            omega arith)
        | inr none ↦ (let few = ltb-false (sure_trumps s s.position.trump) (length (trumps_of s.position.trump (hand_of s y))) none in
            let led = drawn trumps e in
            let all = counted_in s ok (to_play s.position) ruffs_in trumps in
            let same : length (trumps_of s.position.trump ours) ≡ length (of_suit trumps ours) = ap (λ t. length (trumps_of t ours)) e in
            inl (omega arith))
      ]

  pub ours_sure : AreSure s (to_play s.position) ours
  ours_sure = counted_sure s ok (to_play s.position) ruffs_in counted_safe

  -- ---- and its partner

  abbrev pub partners : List ℕ
  partners = counted s ok (seat_after 2 (to_play s.position)) (λ suit seat. false)

  pub partners_sure : s.position.trump ≡ NoTrump → AreSure s (seat_after 2 (to_play s.position)) partners
  partners_sure e = counted_sure s ok (seat_after 2 (to_play s.position)) (λ suit seat. false)
      (λ y differ. subst (λ t. AreSafe t partners (hand_of s y)) (sym e) (safe_at_no_trump partners (hand_of s y)))

  -- a suit that leads over: a card of either hand
  pub record IsOver : Type 0 where
    pub link : ℕ
    pub card : ℕ
    pub linked : has_card (hand_of s (to_play s.position)) link ≡ true
    pub there : has_card partners card ≡ true
    pub suit : suit_of card ≡ suit_of link

  over_in : (suit : Suit) → leads_over s suit ≡ true → IsOver
  over_in suit h =
      let both = and_parts (nat_lt 0 (partners_of s suit)) (nat_lt 0 (length (of_suit suit (hand_of s (to_play s.position))))) h in
      let card = some_counted s ok (seat_after 2 (to_play s.position)) (λ u seat. false) suit (ltb-true 0 (partners_of s suit) both.0) in
      let link = some_card (of_suit suit (hand_of s (to_play s.position))) (ltb-true 0 (length (of_suit suit (hand_of s (to_play s.position)))) both.1) in
      let parts = and_parts (has_card (hand_of s (to_play s.position)) link.0) (same_suit (suit_of link.0) suit) (sym (has_card-filter (λ c. same_suit (suit_of c) suit) (hand_of s (to_play s.position)) link.0) ∙ link.1) in
      record { link = link.0; card = card.0; linked = parts.0; there = card.1; suit = card.2 ∙ sym (same_suit-true (suit_of link.0) suit parts.1) }

  pub over : (a b c d : Bool) → a ≡ leads_over s Spades → b ≡ leads_over s Hearts → c ≡ leads_over s Diamonds → d ≡ leads_over s Clubs → (a || b || c || d) ≡ true → IsOver
  over true b c d p q r t h = over_in Spades (sym p)
  over false true c d p q r t h = over_in Hearts (sym q)
  over false false true d p q r t h = over_in Diamonds (sym r)
  over false false false true p q r t h = over_in Clubs (sym t)
  over false false false false p q r t h = absurd (false≢true h)
