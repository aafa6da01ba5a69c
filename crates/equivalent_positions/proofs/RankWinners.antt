-- Sure cards of which only the rank winners count: those before whose place another hand still has a card of the suit.
use Rattle.std.proofs.Common.{◌≡◌, ◌≢◌, ◌⊎◌, ℕ, suc, ◌+◌, ◌<◌, ◌≤◌, true, false, not, ◌&&◌, eqb, nat_lt, List, [], length, min, refl, sym, ap, ap₂, subst, ◌∙◌, inl, inr, arith}
use Rattle.std.proofs.lemmas.Bool.{cases_Bool, cases_lt, ne_eqb, and_parts, lt-ltb, ltb-true}
use Rattle.card_sets.specs.declared.card.Suit.{Suit}
use Rattle.card_sets.specs.declared.card.Suit.TheVariants.{Spades, Hearts, Diamonds, Clubs}
use Rattle.card_sets.specs.declared.seat.Seat.{Seat}
use Rattle.card_sets.specs.Cards.{suit_of, same_suit}
use Rattle.card_sets.specs.SetWords.{has_card, IsCardSet}
use Rattle.card_sets.proofs.Sets.{has_card-filter, has_card-below, filter-none, IsCardSet-filter, IsSubset-filter}
use Rattle.card_sets.proofs.SetCounts.{has_card-length, length-take_out, length-IsSubset, some_card}
use Rattle.card_sets.proofs.Suits.{same_suit-true}
use Rattle.trick_rules.specs.declared.trump.Trump.{Trump}
use Rattle.trick_rules.specs.declared.trump.Trump.TheVariants.{NoTrump, Suit as Suited}
use Rattle.trick_rules.specs.Positions.{State, seat_after, to_play, tricks_left, IsState}
use Rattle.trick_rules.specs.Play.{of_suit, take_out, is_declarers, hand_of}
use Rattle.trick_rules.proofs.CardLists.{has_card-take_out}
use Rattle.sure_tricks.specs.Sure.{above, trumps_of, AreHigh, AreSafe, AreSure}
use Rattle.sure_tricks.proofs.Holding.{suit_test, trump_of_suit}
use Rattle.sure_tricks.proofs.Hands.{hand_set}
use Rattle.sure_tricks.proofs.Picking.{picked, in_suit, by_suits}
use Rattle.sure_tricks.proofs.Cash.{our_sure_cards_win, their_sure_cards_win}
use Rattle.sure_tricks.proofs.Together.{our_cards_win_together, their_cards_win_together}
use Rattle.equivalent_positions.specs.Alike.{IsClosedUp, AreAlike, HasAnswer}
use Rattle.equivalent_positions.proofs.Likes.{below_counting, alike_turn, alike_tricks}
use Rattle.equivalent_positions.proofs.Answers.{none_there, link_there}

-- ---- the cards above a card

in_above : (c : ℕ) (xs : List ℕ) (d : ℕ) → has_card xs d ≡ true → suit_of d ≡ suit_of c → c < d → has_card (above c xs) d ≡ true
in_above c xs d held suit past = has_card-filter (λ e. same_suit (suit_of e) (suit_of c) && nat_lt c e) xs d ∙ rw (held, suit_test d (suit_of c) suit, lt-ltb c d past) refl

of_above : (c : ℕ) (xs : List ℕ) (d : ℕ) → has_card (above c xs) d ≡ true → (has_card xs d ≡ true) × (suit_of d ≡ suit_of c) × (c < d)
of_above c xs d h =
    let one = and_parts (has_card xs d) (same_suit (suit_of d) (suit_of c) && nat_lt c d) (sym (has_card-filter (λ e. same_suit (suit_of e) (suit_of c) && nat_lt c e) xs d) ∙ h) in
    let two = and_parts (same_suit (suit_of d) (suit_of c)) (nat_lt c d) one.1 in
    (one.0, same_suit-true (suit_of d) (suit_of c) two.0, ltb-true c d two.1)

above_set : (c : ℕ) (xs : List ℕ) → IsCardSet xs → IsCardSet (above c xs)
above_set c xs set = IsCardSet-filter (λ d. same_suit (suit_of d) (suit_of c) && nat_lt c d) xs set

-- fewer cards are above a card of the suit than the suit has
above_fewer : (c : ℕ) (xs : List ℕ) → IsCardSet xs → has_card xs c ≡ true → length (above c xs) < length (of_suit (suit_of c) xs)
above_fewer c xs set held =
    let suit = IsCardSet-filter (λ d. same_suit (suit_of d) (suit_of c)) xs set in
    let in_suit : has_card (of_suit (suit_of c) xs) c ≡ true = has_card-filter (λ d. same_suit (suit_of d) (suit_of c)) xs c ∙ rw (held, suit_test c (suit_of c) refl) refl in
    let one = length-take_out (of_suit (suit_of c) xs) c suit in_suit in
    let two : length (above c xs) ≤ length (take_out c (of_suit (suit_of c) xs)) =
    length-IsSubset (take_out c (of_suit (suit_of c) xs)) (above c xs) (IsCardSet-filter (λ d. not (eqb d c)) (of_suit (suit_of c) xs) suit) (above_set c xs set) (λ d h.
    let parts = of_above c xs d h in
    let past : c < d = parts.2 in
    let there : has_card (of_suit (suit_of c) xs) d ≡ true = has_card-filter (λ e. same_suit (suit_of e) (suit_of c)) xs d ∙ rw (parts.0, suit_test d (suit_of c) parts.1) refl in
    let other : eqb d c ≡ false = ne_eqb d c (λ e. omega (arith, e, past)) in
    has_card-take_out c (of_suit (suit_of c) xs) d ∙ rw (there, other) refl) in
    omega arith

-- this many of a hand's highest of each suit count
abbrev pub FirstCount : List ℕ → (Suit → ℕ) → List ℕ → Type 0
FirstCount counting number hand = (c : ℕ) → has_card hand c ≡ true → length (above c hand) < number (suit_of c) → has_card counting c ≡ true

pub picked_parts : (k : Suit → ℕ) (xs : List ℕ) (c : ℕ) → has_card (picked k xs) c ≡ true → (has_card xs c ≡ true) × (length (above c xs) < k (suit_of c))
picked_parts k xs c h =
    let both = and_parts (has_card xs c) (nat_lt (length (above c xs)) (k (suit_of c))) (sym (has_card-filter (λ d. nat_lt (length (above d xs)) (k (suit_of d))) xs c) ∙ h) in
    (both.0, ltb-true (length (above c xs)) (k (suit_of c)) both.1)

is_picked : (k : Suit → ℕ) (xs : List ℕ) (c : ℕ) → has_card xs c ≡ true → length (above c xs) < k (suit_of c) → has_card (picked k xs) c ≡ true
is_picked k xs c held few = has_card-filter (λ d. nat_lt (length (above d xs)) (k (suit_of d))) xs c ∙ rw (held, lt-ltb (length (above c xs)) (k (suit_of c)) few) refl

-- with a card all above it are picked
above_picked : (k : Suit → ℕ) (xs : List ℕ) (c : ℕ) → IsCardSet xs → has_card (picked k xs) c ≡ true → length (above c xs) ≤ length (above c (picked k xs))
above_picked k xs c set mem = length-IsSubset (above c (picked k xs)) (above c xs) (above_set c (picked k xs) (IsCardSet-filter _ xs set)) (above_set c xs set) (λ d h.
    let parts = of_above c xs d h in
    let past : c < d = parts.2 in
    let few = (picked_parts k xs c mem).1 in
    let fewer = length-IsSubset (above c xs) (above d xs) (above_set c xs set) (above_set d xs set) (λ e g.
    let more = of_above d xs e g in
    let later : d < e = more.2 in
    in_above c xs e more.0 (more.1 ∙ parts.1) (omega arith)) in
    let number = ap k parts.1 in
    in_above c (picked k xs) d (is_picked k xs d parts.0 (omega arith)) parts.1 past)

-- ---- a hand and one that is alike to it

module _ (counting : List ℕ) (closed : IsClosedUp counting) (xs ys : List ℕ) (set : IsCardSet xs) (set' : IsCardSet ys)
    (same : (c : ℕ) → has_card counting c ≡ true → has_card xs c ≡ has_card ys c) (lengths : (suit : Suit) → length (of_suit suit xs) ≡ length (of_suit suit ys)) where
  -- the first of each suit count there too
  first_count_there : (n : Suit → ℕ) → FirstCount counting n xs → FirstCount counting n ys
  first_count_there n all c held few = elim (cases_Bool (has_card counting c)) as (λ _. has_card counting c ≡ true) [
    | inl already ↦ already
    | inr out ↦ absurd (
        let many = in_suit (λ _. suc (length (above c ys))) xs set (suit_of c) in
        let room = above_fewer c ys set' held in
        let same_many = lengths (suit_of c) in
        let within : length (of_suit (suit_of c) (picked (λ _. suc (length (above c ys))) xs)) ≤ length (above c ys) =
        length-IsSubset (above c ys) (of_suit (suit_of c) (picked (λ _. suc (length (above c ys))) xs)) (above_set c ys set')
        (IsCardSet-filter (λ d. same_suit (suit_of d) (suit_of c)) (picked (λ _. suc (length (above c ys))) xs) (IsCardSet-filter _ xs set)) (λ d h.
        let both = and_parts (has_card (picked (λ _. suc (length (above c ys))) xs) d) (same_suit (suit_of d) (suit_of c))
        (sym (has_card-filter (λ e. same_suit (suit_of e) (suit_of c)) (picked (λ _. suc (length (above c ys))) xs) d) ∙ h) in
        let parts = picked_parts (λ _. suc (length (above c ys))) xs d both.0 in
        let suit : suit_of d ≡ suit_of c = same_suit-true (suit_of d) (suit_of c) both.1 in
        let number = ap n suit in
        let less = parts.1 in
        let counts : has_card counting d ≡ true = all d parts.0 (omega arith) in
        in_above c ys d (sym (same d counts) ∙ parts.0) suit (below_counting counting closed d c counts out suit (has_card-below ys c set' held))) in
        omega arith)
  ]

  above_there : (c : ℕ) → has_card counting c ≡ true → length (above c xs) ≤ length (above c ys)
  above_there c counts = length-IsSubset (above c ys) (above c xs) (above_set c ys set') (above_set c xs set) (λ d h.
      let parts = of_above c xs d h in
      in_above c ys d (sym (same d (closed c d counts (sym parts.1) parts.2 (has_card-below xs d set parts.0))) ∙ parts.0) parts.1 parts.2)

module _ (counting : List ℕ) (closed : IsClosedUp counting) (k : Suit → ℕ) (xs ys : List ℕ) (set : IsCardSet xs) (set' : IsCardSet ys)
    (same : (c : ℕ) → has_card counting c ≡ true → has_card xs c ≡ has_card ys c) (lengths : (suit : Suit) → length (of_suit suit xs) ≡ length (of_suit suit ys)) where
  same_numbers : (suit : Suit) → length (of_suit suit (picked k xs)) ≡ length (of_suit suit (picked k ys))
  same_numbers suit = in_suit k xs set suit ∙ ap (min (k suit)) (lengths suit) ∙ sym (in_suit k ys set' suit)

  pub as_many : length (picked k xs) ≡ length (picked k ys)
  as_many = omega (arith, by_suits (picked k xs), by_suits (picked k ys), same_numbers Spades, same_numbers Hearts, same_numbers Diamonds, same_numbers Clubs)

  module _ (us vs : List ℕ) (low : (c : ℕ) → has_card vs c ≡ true → c < 52)
      (same' : (c : ℕ) → has_card counting c ≡ true → has_card us c ≡ has_card vs c) (lengths' : (suit : Suit) → length (of_suit suit us) ≡ length (of_suit suit vs))
      (count : FirstCount counting (λ suit. min (k suit) (length (of_suit suit us))) xs) where
    pub high_there : AreHigh (picked k xs) us → AreHigh (picked k ys) vs
    high_there high card mem =
        let parts = picked_parts k ys card mem in
        let few = parts.1 in
        let theirs = lengths' (suit_of card) in
        elim (cases_lt (length (above card ys)) (length (of_suit (suit_of card) vs))) as (λ _. ((c : ℕ) → has_card vs c ≡ true → same_suit (suit_of c) (suit_of card) ≡ true → c < card) ⊎ (length (of_suit (suit_of card) vs) ≤ length (above card (picked k ys)))) [
          | inr enough ↦ inr (let more = above_picked k ys card set' mem in omega arith)
          | inl short ↦
              (let counts : has_card counting card ≡ true = first_count_there counting closed xs ys set set' same lengths (λ suit. min (k suit) (length (of_suit suit us))) count card parts.0 (omega arith) in
              let held : has_card xs card ≡ true = same card counts ∙ parts.0 in
              let one = above_there counting closed xs ys set set' same lengths card counts in
              let there : has_card (picked k xs) card ≡ true = is_picked k xs card held (omega arith) in
              elim (high card there) as (λ _. ((c : ℕ) → has_card vs c ≡ true → same_suit (suit_of c) (suit_of card) ≡ true → c < card) ⊎ (length (of_suit (suit_of card) vs) ≤ length (above card (picked k ys)))) [
                | inl lower ↦ inl (λ c theirs_too suit. elim (cases_Bool (has_card counting c)) as (λ _. c < card) [
                  | inl counting_too ↦ lower c (same' c counting_too ∙ theirs_too) suit
                  | inr out ↦ below_counting counting closed card c counts out (sym (same_suit-true (suit_of c) (suit_of card) suit)) (low c theirs_too)
                ])
                | inr all ↦ absurd (
                    let two : length (above card (picked k xs)) ≤ length (above card xs) =
                    length-IsSubset (above card xs) (above card (picked k xs)) (above_set card xs set) (above_set card (picked k xs) (IsCardSet-filter _ xs set)) (λ d h.
                    let p = of_above card (picked k xs) d h in
                    in_above card xs d ((picked_parts k xs d p.0).0) p.1 p.2) in
                    omega arith)
              ])
        ]

    same_trumps : (trump : Trump) (these those : List ℕ) → ((suit : Suit) → length (of_suit suit these) ≡ length (of_suit suit those)) → length (trumps_of trump these) ≡ length (trumps_of trump those)
    same_trumps NoTrump these those each = ap (length {A = ℕ}) (filter-none (λ c. false) these (λ c h. refl) ∙ sym (filter-none (λ c. false) those (λ c h. refl)))
    same_trumps (Suited suit) these those each = each suit

    safe_there : (trump : Trump) → AreSafe trump (picked k xs) us → AreSafe trump (picked k ys) vs
    safe_there trump safe = elim safe as (λ _. AreSafe trump (picked k ys) vs) [
      | inl few ↦ inl (let one = same_trumps trump us vs lengths' in let two = same_trumps trump (picked k xs) (picked k ys) same_numbers in omega arith)
      | inr follows ↦ inr (λ card mem plain.
          let number = same_numbers (suit_of card) in
          let some = has_card-length (of_suit (suit_of card) (picked k ys)) card (has_card-filter (λ d. same_suit (suit_of d) (suit_of card)) (picked k ys) card ∙ rw (mem, suit_test card (suit_of card) refl) refl) in
          let other = some_card (of_suit (suit_of card) (picked k xs)) (omega arith) in
          let both = and_parts (has_card (picked k xs) other.0) (same_suit (suit_of other.0) (suit_of card)) (sym (has_card-filter (λ d. same_suit (suit_of d) (suit_of card)) (picked k xs) other.0) ∙ other.1) in
          let suit : suit_of other.0 ≡ suit_of card = same_suit-true (suit_of other.0) (suit_of card) both.1 in
          let led = follows other.0 both.0 (trump_of_suit trump other.0 card suit ∙ plain) in
          let led' : length (of_suit (suit_of card) (picked k xs)) ≤ length (of_suit (suit_of card) us) = subst (λ u. length (of_suit u (picked k xs)) ≤ length (of_suit u us)) suit led in
          let theirs = lengths' (suit_of card) in
          omega arith)
    ]

-- ---- a seat's sure cards in an alike state

-- those of its first cards count before whose place another hand still has a card of the suit
abbrev pub WinnersCount : List ℕ → State → Seat → (Suit → ℕ) → Type 0
WinnersCount counting s x k = (y : Seat) → y ≢ x → FirstCount counting (λ suit. min (k suit) (length (of_suit suit (hand_of s y)))) (hand_of s x)

module _ (counting : List ℕ) (closed : IsClosedUp counting) (s t : State) (ok : IsState s) (ok' : IsState t) (a : AreAlike counting s t) (x : Seat) (k : Suit → ℕ) where
  pub as_many_there : length (picked k (hand_of s x)) ≡ length (picked k (hand_of t x))
  as_many_there = as_many counting closed k (hand_of s x) (hand_of t x) (hand_set s ok x) (hand_set t ok' x) ((a.hands x).same) ((a.hands x).lengths)

  pub as_many_in_suit : (suit : Suit) → length (of_suit suit (picked k (hand_of s x))) ≡ length (of_suit suit (picked k (hand_of t x)))
  as_many_in_suit = same_numbers counting closed k (hand_of s x) (hand_of t x) (hand_set s ok x) (hand_set t ok' x) ((a.hands x).same) ((a.hands x).lengths)

  pub as_many_are_sure : WinnersCount counting s x k → AreSure s x (picked k (hand_of s x)) → AreSure t x (picked k (hand_of t x))
  as_many_are_sure count are = record {
    set = IsCardSet-filter _ (hand_of t x) (hand_set t ok' x);
    held = IsSubset-filter _ (hand_of t x);
    high = λ y differ. high_there counting closed k (hand_of s x) (hand_of t x) (hand_set s ok x) (hand_set t ok' x) ((a.hands x).same) ((a.hands x).lengths)
        (hand_of s y) (hand_of t y) (λ c h. has_card-below (hand_of t y) c (hand_set t ok' y) h) ((a.hands y).same) ((a.hands y).lengths) (count y differ) (are.high y differ);
    safe = λ y differ. subst (λ trump. AreSafe trump (picked k (hand_of t x)) (hand_of t y)) a.trump
        (safe_there counting closed k (hand_of s x) (hand_of t x) (hand_set s ok x) (hand_set t ok' x) ((a.hands x).same) ((a.hands x).lengths)
        (hand_of s y) (hand_of t y) (λ c h. has_card-below (hand_of t y) c (hand_set t ok' y) h) ((a.hands y).same) ((a.hands y).lengths) (count y differ) s.position.trump (are.safe y differ));
  }

-- ---- what they answer

module _ (counting : List ℕ) (closed : IsClosedUp counting) (s : State) (ok : IsState s) (none : s.position.trick.cards ≡ []) (k : Suit → ℕ)
    (count : WinnersCount counting s (to_play s.position) k) (are : AreSure s (to_play s.position) (picked k (hand_of s (to_play s.position)))) where
  sure_there : (t : State) → IsState t → AreAlike counting s t → AreSure t (to_play t.position) (picked k (hand_of t (to_play t.position)))
  sure_there t ok' a = subst (λ x. AreSure t x (picked k (hand_of t x))) (alike_turn counting s t a) (as_many_are_sure counting closed s t ok ok' a (to_play s.position) k count are)

  many_there : (t : State) → IsState t → AreAlike counting s t → length (picked k (hand_of s (to_play s.position))) ≡ length (picked k (hand_of t (to_play t.position)))
  many_there t ok' a = as_many_there counting closed s t ok ok' a (to_play s.position) k ∙ ap (λ x. length (picked k (hand_of t x))) (alike_turn counting s t a)

  pub our_winners_answer : is_declarers (to_play s.position) ≡ true → s.position.need ≤ length (picked k (hand_of s (to_play s.position))) → HasAnswer counting s true
  our_winners_answer side few = λ t ok' a.
      our_sure_cards_win t (picked k (hand_of t (to_play t.position))) ok' (none_there counting s t a none) (sure_there t ok' a)
      (ap is_declarers (sym (alike_turn counting s t a)) ∙ side) (let need = a.need in let many = many_there t ok' a in omega arith)

  pub their_winners_answer : is_declarers (to_play s.position) ≡ false → tricks_left s.position < s.position.need + length (picked k (hand_of s (to_play s.position))) → HasAnswer counting s false
  their_winners_answer side more = λ t ok' a.
      their_sure_cards_win t (picked k (hand_of t (to_play t.position))) ok' (none_there counting s t a none) (sure_there t ok' a)
      (ap is_declarers (sym (alike_turn counting s t a)) ∙ side)
      (let need = a.need in let tricks = alike_tricks counting s t a in let many = many_there t ok' a in omega arith)

  -- ---- with partner's, at no trump

  module _ (no_trump : s.position.trump ≡ NoTrump) (k' : Suit → ℕ) (count' : WinnersCount counting s (seat_after 2 (to_play s.position)) k')
      (theirs : AreSure s (seat_after 2 (to_play s.position)) (picked k' (hand_of s (seat_after 2 (to_play s.position)))))
      (link card : ℕ) (held : has_card (hand_of s (to_play s.position)) link ≡ true) (over : has_card (picked k' (hand_of s (seat_after 2 (to_play s.position)))) card ≡ true)
      (suit : suit_of card ≡ suit_of link) where
    partners_there : (t : State) → IsState t → AreAlike counting s t → AreSure t (seat_after 2 (to_play t.position)) (picked k' (hand_of t (seat_after 2 (to_play t.position))))
    partners_there t ok' a = subst (λ x. AreSure t (seat_after 2 x) (picked k' (hand_of t (seat_after 2 x)))) (alike_turn counting s t a)
        (as_many_are_sure counting closed s t ok ok' a (seat_after 2 (to_play s.position)) k' count' theirs)

    partners_many : (t : State) → IsState t → AreAlike counting s t → length (picked k' (hand_of s (seat_after 2 (to_play s.position)))) ≡ length (picked k' (hand_of t (seat_after 2 (to_play t.position))))
    partners_many t ok' a = as_many_there counting closed s t ok ok' a (seat_after 2 (to_play s.position)) k' ∙ ap (λ x. length (picked k' (hand_of t (seat_after 2 x)))) (alike_turn counting s t a)

    -- partner has a sure card of the suit there too
    over_there : (t : State) → IsState t → AreAlike counting s t → (c : ℕ) × (has_card (picked k' (hand_of t (seat_after 2 (to_play t.position)))) c ≡ true) × (suit_of c ≡ suit_of card)
    over_there t ok' a =
        let hand = picked k' (hand_of s (seat_after 2 (to_play s.position))) in
        let hand' = picked k' (hand_of t (seat_after 2 (to_play s.position))) in
        let some = has_card-length (of_suit (suit_of card) hand) card (has_card-filter (λ d. same_suit (suit_of d) (suit_of card)) hand card ∙ rw (over, suit_test card (suit_of card) refl) refl) in
        let many = as_many_in_suit counting closed s t ok ok' a (seat_after 2 (to_play s.position)) k' (suit_of card) in
        let other = some_card (of_suit (suit_of card) hand') (omega arith) in
        let both = and_parts (has_card hand' other.0) (same_suit (suit_of other.0) (suit_of card)) (sym (has_card-filter (λ d. same_suit (suit_of d) (suit_of card)) hand' other.0) ∙ other.1) in
        (other.0, subst (λ x. has_card (picked k' (hand_of t (seat_after 2 x))) other.0 ≡ true) (alike_turn counting s t a) both.0, same_suit-true (suit_of other.0) (suit_of card) both.1)

    abbrev ours : List ℕ
    ours = picked k (hand_of s (to_play s.position))

    abbrev partners : List ℕ
    partners = picked k' (hand_of s (seat_after 2 (to_play s.position)))

    tricks_there : (t : State) → IsState t → AreAlike counting s t
        → min (tricks_left s.position) (length ours + length partners)
        ≡ min (tricks_left t.position) (length (picked k (hand_of t (to_play t.position))) + length (picked k' (hand_of t (seat_after 2 (to_play t.position)))))
    tricks_there t ok' a = ap₂ (λ (i j : ℕ). min i j) (alike_tricks counting s t a) (ap₂ (λ (i j : ℕ). i + j) (many_there t ok' a) (partners_many t ok' a))

    pub our_winners_answer_together : is_declarers (to_play s.position) ≡ true → s.position.need ≤ min (tricks_left s.position) (length ours + length partners) → HasAnswer counting s true
    our_winners_answer_together side few = λ t ok' a.
        let linked = link_there counting s t link card ok ok' a held suit in
        let leads = over_there t ok' a in
        our_cards_win_together t (picked k (hand_of t (to_play t.position))) (picked k' (hand_of t (seat_after 2 (to_play t.position)))) linked.0 leads.0 ok' (none_there counting s t a none)
        (sym a.trump ∙ no_trump) (sure_there t ok' a) (partners_there t ok' a) linked.1 leads.1 (leads.2 ∙ linked.2) (ap is_declarers (sym (alike_turn counting s t a)) ∙ side)
        (subst (λ n. t.position.need ≤ n) (tricks_there t ok' a) (subst (λ n. n ≤ min (tricks_left s.position) (length ours + length partners)) a.need few))

    pub their_winners_answer_together : is_declarers (to_play s.position) ≡ false → tricks_left s.position < s.position.need + min (tricks_left s.position) (length ours + length partners) → HasAnswer counting s false
    their_winners_answer_together side more = λ t ok' a.
        let linked = link_there counting s t link card ok ok' a held suit in
        let leads = over_there t ok' a in
        their_cards_win_together t (picked k (hand_of t (to_play t.position))) (picked k' (hand_of t (seat_after 2 (to_play t.position)))) linked.0 leads.0 ok' (none_there counting s t a none)
        (sym a.trump ∙ no_trump) (sure_there t ok' a) (partners_there t ok' a) linked.1 leads.1 (leads.2 ∙ linked.2) (ap is_declarers (sym (alike_turn counting s t a)) ∙ side)
        (subst (λ n. tricks_left t.position < n + min (tricks_left t.position) (length (picked k (hand_of t (to_play t.position))) + length (picked k' (hand_of t (seat_after 2 (to_play t.position)))))) a.need
        (subst (λ n. tricks_left t.position < s.position.need + n) (tricks_there t ok' a)
        (subst (λ n. n < s.position.need + min (tricks_left s.position) (length ours + length partners)) (alike_tricks counting s t a) more)))
