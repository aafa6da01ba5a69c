-- The top cards that are counted are sure in each layout.
use Rattle.std.proofs.Common.{◌≡◌, ◌≢◌, ◌⊎◌, ◌∙◌, ◌+◌, ◌≤◌, ℕ, Bool, true, false, not, ◌||◌, cond, nat_lt, List, [], ◌∷◌, length, filter, refl, sym, ap, subst, inl, inr, ⊎_elim, arith}
use Rattle.std.specs.List.{list_all}
use Rattle.std.proofs.lemmas.Bool.{cases_Bool, cases_lt, false≢true, true≢false, and_parts, not-true, lt-ltb, le-ltb, ltb-false}
use Rattle.std.proofs.Math.Nat.{min-le_left, min-le_right, min-eq_left}
use Rattle.card_sets.specs.declared.card.Suit.{Suit}
use Rattle.card_sets.specs.declared.card.Suit.TheVariants.{Spades, Hearts, Diamonds, Clubs}
use Rattle.card_sets.specs.declared.seat.Seat.{Seat}
use Rattle.card_sets.specs.declared.seat.Seat.TheVariants.{Declarer, Left, Dummy, Right}
use Rattle.card_sets.specs.Cards.{suit_of, same_suit}
use Rattle.card_sets.specs.SetWords.{has_card, IsCardSet, IsSubset}
use Rattle.card_sets.proofs.Sets.{has_card-filter, IsCardSet-filter, IsSubset-filter}
use Rattle.card_sets.proofs.SetCounts.{length-IsSubset}
use Rattle.card_sets.proofs.Suits.{same_suit-refl}
use Rattle.trick_rules.specs.declared.trump.Trump.{Trump}
use Rattle.trick_rules.specs.declared.trump.Trump.TheVariants.{NoTrump, Suit as Suited}
use Rattle.trick_rules.specs.Positions.{PositionValue, State, seat_after, to_play, IsState}
use Rattle.trick_rules.specs.Play.{of_suit, is_trump, hand_of, held_by, is_declarers}
use Rattle.trick_rules.proofs.CardLists.{cards_from_list_all, list_all-from_cards}
use Rattle.sure_tricks.specs.Sure.{trumps_of, is_suit, top_count, high_count, AreHigh, AreSafe, AreSure}
use Rattle.sure_tricks.proofs.Hands.{hand_set}
use Rattle.sure_tricks.proofs.Picking.{picked, in_suit, picked_high, length_by_suits, high_count-part}
use Rattle.sure_tricks.proofs.Crossing.{safe_at_no_trump}
use Rattle.sure_nodes.specs.SureNodes.{own, partners, tops_in, drawn, none_ruffs, sure_tops}

-- ---- against a part of a hand at least as many are high

filter_more : (p q : ℕ → Bool) → ((c : ℕ) → p c ≡ true → q c ≡ true) → (xs : List ℕ) → length (filter p xs) ≤ length (filter q xs)
filter_more p q more [] = omega arith
filter_more p q more (x ∷ xs) = go (p x) (q x) refl refl (filter_more p q more xs)
  where
    go : (a b : Bool) → p x ≡ a → q x ≡ b → length (filter p xs) ≤ length (filter q xs)
        → length (cond a (x ∷ filter p xs) (filter p xs)) ≤ length (cond b (x ∷ filter q xs) (filter q xs))
    go true true e f rest = omega arith
    go true false e f rest = absurd (true≢false (sym (more x e) ∙ f))
    go false true e f rest = omega arith
    go false false e f rest = rest

subset_filter : (p : ℕ → Bool) (sub whole : List ℕ) → IsSubset sub whole → IsSubset (filter p sub) (filter p whole)
subset_filter p sub whole part c h =
    let both = and_parts (has_card sub c) (p c) (sym (has_card-filter p sub c) ∙ h) in
    has_card-filter p whole c ∙ rw (part c both.0, both.1) refl

module _ (held sub whole : List ℕ) (sub_set : IsCardSet sub) (whole_set : IsCardSet whole) (part : IsSubset sub whole) where
  tops_more : top_count held whole ≤ top_count held sub
  tops_more = filter_more (λ c. list_all (λ d. nat_lt d c) whole) (λ c. list_all (λ d. nat_lt d c) sub)
      (λ c all. list_all-from_cards (λ d. nat_lt d c) sub (λ d h. cards_from_list_all (λ d. nat_lt d c) whole all d (part d h))) held

  high_more : high_count held whole ≤ high_count held sub
  high_more = elim (cases_lt (top_count held sub) (length sub)) as (λ _. high_count held whole ≤ high_count held sub) [
    | inl few ↦ elim (cases_lt (top_count held whole) (length whole)) as (λ _. high_count held whole ≤ high_count held sub) [
      | inl less ↦ (let a : high_count held whole ≡ top_count held whole = rw (lt-ltb _ _ less) refl in
          let b : high_count held sub ≡ top_count held sub = rw (lt-ltb _ _ few) refl in
          let more = tops_more in
          omega arith)
      | inr enough ↦ (let more = tops_more in let fewer = length-IsSubset whole sub whole_set sub_set part in absurd (omega arith))
    ]
    | inr all ↦ (let b : high_count held sub ≡ length held = rw (le-ltb (top_count held sub) (length sub) all) refl in
        let most = high_count-part held whole in
        omega arith)
  ]

-- ---- the hands

-- what declarer's side holds is seen
seen_hand : (s : State) (x : Seat) → is_declarers x ≡ true → held_by s.position x ≡ hand_of s x
seen_hand s Declarer ours = refl
seen_hand s Left ours = absurd (false≢true ours)
seen_hand s Dummy ours = refl
seen_hand s Right ours = absurd (false≢true ours)

-- and each other hand is partner's, or a part of the unseen cards
other_hand : (s : State) (x y : Seat) → IsState s → is_declarers x ≡ true → y ≢ x → (held_by s.position (seat_after 2 x) ≡ hand_of s y) ⊎ IsSubset (hand_of s y) s.position.unseen
other_hand s Left y ok ours differ = absurd (false≢true ours)
other_hand s Right y ok ours differ = absurd (false≢true ours)
other_hand s Declarer Declarer ok ours differ = absurd (differ refl)
other_hand s Declarer Left ok ours differ = inr ok.fits.part
other_hand s Declarer Dummy ok ours differ = inl refl
other_hand s Declarer Right ok ours differ = inr (IsSubset-filter (λ c. not (has_card s.left c)) s.position.unseen)
other_hand s Dummy Declarer ok ours differ = inl refl
other_hand s Dummy Left ok ours differ = inr ok.fits.part
other_hand s Dummy Dummy ok ours differ = absurd (differ refl)
other_hand s Dummy Right ok ours differ = inr (IsSubset-filter (λ c. not (has_card s.left c)) s.position.unseen)

-- ---- the top cards

-- the top cards of each suit that nobody can ruff
abbrev pub tops : PositionValue → List ℕ
tops t = picked (sure_tops t) (own t)

tops_part : (t : PositionValue) (suit : Suit) → sure_tops t suit ≤ tops_in t suit
tops_part t suit = go (is_suit t.trump suit || none_ruffs t)
  where
    go : (b : Bool) → cond b (tops_in t suit) 0 ≤ tops_in t suit
    go true = omega arith
    go false = omega arith

within_own : (t : PositionValue) (suit : Suit) → sure_tops t suit ≤ length (of_suit suit (own t))
within_own t suit =
    let one = tops_part t suit in
    let two = min-le_left (high_count (of_suit suit (own t)) (of_suit suit (partners t))) (high_count (of_suit suit (own t)) (of_suit suit t.unseen)) in
    let three = high_count-part (of_suit suit (own t)) (of_suit suit (partners t)) in
    omega arith

tops_suit : (t : PositionValue) → IsCardSet (own t) → (suit : Suit) → length (of_suit suit (tops t)) ≡ sure_tops t suit
tops_suit t set suit = in_suit (sure_tops t) (own t) set suit ∙ min-eq_left (within_own t suit)

pub length_tops : (t : PositionValue) → IsCardSet (own t) → length (tops t) ≡ sure_tops t Spades + sure_tops t Hearts + sure_tops t Diamonds + sure_tops t Clubs
length_tops t set = length_by_suits (tops t) (sure_tops t) (tops_suit t set)

module _ (s : State) (ok : IsState s) (ours : is_declarers (to_play s.position) ≡ true) where
  pub own_set : IsCardSet (own s.position)
  own_set = subst IsCardSet (sym (seen_hand s (to_play s.position) ours)) (hand_set s ok (to_play s.position))

  module _ (y : Seat) (differ : y ≢ to_play s.position) where
    among : (held_by s.position (seat_after 2 (to_play s.position)) ≡ hand_of s y) ⊎ IsSubset (hand_of s y) s.position.unseen
    among = other_hand s (to_play s.position) y ok ours differ

    within : (suit : Suit) → sure_tops s.position suit ≤ high_count (of_suit suit (own s.position)) (of_suit suit (hand_of s y))
    within suit = ⊎_elim
        (λ (same : held_by s.position (seat_after 2 (to_play s.position)) ≡ hand_of s y).
        let one = tops_part s.position suit in
        let two = min-le_left (high_count (of_suit suit (own s.position)) (of_suit suit (partners s.position))) (high_count (of_suit suit (own s.position)) (of_suit suit s.position.unseen)) in
        let three = ap (λ (h : List ℕ). high_count (of_suit suit (own s.position)) (of_suit suit h)) same in
        omega arith)
        (λ (part : IsSubset (hand_of s y) s.position.unseen).
        let one = tops_part s.position suit in
        let two = min-le_right (high_count (of_suit suit (own s.position)) (of_suit suit (partners s.position))) (high_count (of_suit suit (own s.position)) (of_suit suit s.position.unseen)) in
        let three = high_more (of_suit suit (own s.position)) (of_suit suit (hand_of s y)) (of_suit suit s.position.unseen)
        (IsCardSet-filter (λ c. same_suit (suit_of c) suit) (hand_of s y) (hand_set s ok y)) (IsCardSet-filter (λ c. same_suit (suit_of c) suit) s.position.unseen ok.sound.unseen_set)
        (subset_filter (λ c. same_suit (suit_of c) suit) (hand_of s y) s.position.unseen part) in
        omega arith)
        among

    high : AreHigh (tops s.position) (hand_of s y)
    high = picked_high (sure_tops s.position) (own s.position) own_set (hand_of s y) within

    -- where no hand can have a trump more than are drawn
    few_trumps : none_ruffs s.position ≡ true → length (trumps_of s.position.trump (hand_of s y)) ≤ drawn s.position s.position.trump
    few_trumps none =
        let both = and_parts (not (nat_lt (drawn s.position s.position.trump) (length (trumps_of s.position.trump (partners s.position))))) (not (nat_lt (drawn s.position s.position.trump) (length (trumps_of s.position.trump s.position.unseen)))) none in
        ⊎_elim
        (λ (same : held_by s.position (seat_after 2 (to_play s.position)) ≡ hand_of s y).
        let one = ltb-false (drawn s.position s.position.trump) (length (trumps_of s.position.trump (partners s.position))) (not-true _ both.0) in
        let two = ap (λ (h : List ℕ). length (trumps_of s.position.trump h)) same in
        omega arith)
        (λ (part : IsSubset (hand_of s y) s.position.unseen).
        let one = ltb-false (drawn s.position s.position.trump) (length (trumps_of s.position.trump s.position.unseen)) (not-true _ both.1) in
        let two = length-IsSubset (trumps_of s.position.trump s.position.unseen) (trumps_of s.position.trump (hand_of s y))
        (IsCardSet-filter (λ c. is_trump s.position.trump c) s.position.unseen ok.sound.unseen_set) (IsCardSet-filter (λ c. is_trump s.position.trump c) (hand_of s y) (hand_set s ok y))
        (subset_filter (λ c. is_trump s.position.trump c) (hand_of s y) s.position.unseen part) in
        omega arith)
        among

    safe : AreSafe s.position.trump (tops s.position) (hand_of s y)
    safe = go s.position.trump refl (cases_Bool (none_ruffs s.position))
      where
        go : (trump : Trump) → s.position.trump ≡ trump → (none_ruffs s.position ≡ true) ⊎ (none_ruffs s.position ≡ false) → AreSafe s.position.trump (tops s.position) (hand_of s y)
        go NoTrump e _ = subst (λ t. AreSafe t (tops s.position) (hand_of s y)) (sym e) (safe_at_no_trump (tops s.position) (hand_of s y))
        go (Suited trumps) e (inl none) =
            let few = few_trumps none in
            let led : drawn s.position s.position.trump ≡ tops_in s.position trumps = ap (drawn s.position) e in
            let all : sure_tops s.position trumps ≡ tops_in s.position trumps = rw (ap (λ t. is_suit t trumps) e ∙ same_suit-refl trumps) refl in
            let many = tops_suit s.position own_set trumps in
            let same : length (trumps_of s.position.trump (tops s.position)) ≡ length (of_suit trumps (tops s.position)) = ap (λ t. length (trumps_of t (tops s.position))) e in
            inl (omega arith)
        go (Suited trumps) e (inr ruffs) = inr (λ card mem side.
            let off : is_suit s.position.trump (suit_of card) ≡ false = ap (λ t. is_suit t (suit_of card)) e ∙ sym (ap (λ t. is_trump t card) e) ∙ side in
            let many = tops_suit s.position own_set (suit_of card) in
            let none : sure_tops s.position (suit_of card) ≡ 0 = rw (off, ruffs) refl in
            omega arith)

  pub tops_sure : AreSure s (to_play s.position) (tops s.position)
  tops_sure = record {
    set = IsCardSet-filter _ (own s.position) own_set;
    held = subst (λ (h : List ℕ). IsSubset (tops s.position) h) (seen_hand s (to_play s.position) ours) (IsSubset-filter _ (own s.position));
    high = high;
    safe = safe;
  }
