-- A hand that heads the suit led, and the cards that follow.
use Rattle.std.proofs.Common.{◌≡◌, ◌≢◌, ◌⊎◌, ℕ, suc, ◌+◌, ◌-◌, ◌<◌, ◌≤◌, Bool, true, false, not, ◌||◌, eqb, cond, nat_lt, Option, None, Some, List, [], ◌∷◌, length, filter, min, refl, sym, ap, ap₂, ◌∙◌, subst, inl, inr, arith}
use Rattle.std.specs.Prelude.{MatchOption, IfSome}
use Rattle.std.specs.List.{list_all}
use Rattle.std.proofs.Math.Nat.{min-eq_left}
use Rattle.std.proofs.lemmas.Bool.{false≢true, and_parts, or_left, or_right, eq-eqb, ltb-true}
use Rattle.card_sets.specs.declared.card.Suit.{Suit}
use Rattle.card_sets.specs.declared.card.Suit.TheVariants.{Spades, Hearts, Diamonds, Clubs}
use Rattle.card_sets.specs.declared.seat.Seat.{Seat}
use Rattle.card_sets.specs.declared.seat.Seat.TheVariants.{Declarer, Left, Dummy, Right}
use Rattle.card_sets.specs.Cards.{suit_of, same_suit}
use Rattle.card_sets.specs.SetWords.{has_card, cards_where, IsCardSet, IsSubset, IsLast}
use Rattle.card_sets.proofs.Sets.{has_card-filter, has_card-below, has_card-cards_where, IsCardSet-filter, IsSubset-filter}
use Rattle.card_sets.proofs.SetCounts.{length-IsSubset, length-le_52}
use Rattle.card_sets.proofs.Suits.{same_suit-true}
use Rattle.trick_rules.specs.declared.trump.Trump.{Trump}
use Rattle.trick_rules.specs.declared.trump.Trump.TheVariants.{NoTrump, Suit as Suited}
use Rattle.trick_rules.specs.Positions.{PositionValue, State, seat_after, to_play, tricks_left, IsState}
use Rattle.trick_rules.specs.Play.{of_suit, take_out, hand_of, is_declarers, is_trump}
use Rattle.trick_rules.proofs.CardLists.{cards_from_list_all, list_all-from_cards}
use Rattle.sure_tricks.specs.Sure.{top_count, high_count, AreHigh, AreSafe, AreSure}
use Rattle.sure_tricks.specs.Headed.{HeadsSuitLed}
use Rattle.sure_tricks.specs.declared.count.Counts.{Counts}
use Rattle.sure_tricks.proofs.Hands.{Suffices, hand_set}
use Rattle.sure_tricks.proofs.Holding.{suit_test}
use Rattle.sure_tricks.proofs.Picking.{in_suit, picked_high, by_suits}
use Rattle.sure_tricks.proofs.Headed.{only, safe_beyond}
use Rattle.equivalent_positions.specs.Alike.{IsClosedUp, HasAnswer}
use Rattle.equivalent_positions.proofs.RankWinners.{FirstCount}
use Rattle.equivalent_positions.proofs.Headed.{following, BeyondRuffs, are_beyond, a_headed_suit_answers}
use Rattle.dd_solver.specs.declared.headed.FourHands.{FourHands}
use Rattle.dd_solver.specs.Closed.{up_from}
use Rattle.dd_solver.specs.Sure.{number_in, AreWinners}
use Rattle.dd_solver.specs.Headed.{AreHandsOf, HeadsTrick, IsFollowed, is_beyond_ruffs, further_in, others_of}
use Rattle.equivalent_positions.proofs.Counting.{a_card_and_all_higher}
use Rattle.dd_solver.proofs.Winner.{up_has}
use Rattle.dd_solver.proofs.TopTrumps.{each_seat}

-- ---- a hand that can't ruff

-- a trump isn't ruffed
pub safe_trump : (trump : Trump) (suit : Suit) (card : ℕ) (hand : List ℕ) → trump ≡ Suited suit → suit_of card ≡ suit → AreSafe trump (card ∷ []) hand
safe_trump trump suit card hand is same = inr (λ v mem side. absurd (false≢true (sym side ∙ ap₂ (λ (t : Trump) (c : ℕ). is_trump t c) is (only card v mem) ∙ suit_test card suit same)))

-- nor does a hand with no trump ruff
pub safe_none : (trump : Trump) (suit : Suit) (card : ℕ) (hand : List ℕ) → trump ≡ Suited suit → of_suit suit hand ≡ [] → AreSafe trump (card ∷ []) hand
safe_none trump suit card hand is none = subst (λ (t : Trump). AreSafe t (card ∷ []) hand) (sym is) (inl (let zero = ap (length {A = ℕ}) none in omega arith))

-- nor one that has to follow suit
pub safe_follows : (trump : Trump) (suit : Suit) (card : ℕ) (hand : List ℕ) → suit_of card ≡ suit → (of_suit suit hand ≡ [] → ⊥) → AreSafe trump (card ∷ []) hand
safe_follows trump suit card hand same some = inr (λ v mem side.
    subst (λ c. length (of_suit (suit_of c) (card ∷ [])) ≤ length (of_suit (suit_of c) hand)) (sym (only card v mem))
    (subst (λ u. length (of_suit u (card ∷ [])) ≤ length (of_suit u hand)) (sym same) (room (of_suit suit hand) some (same_suit (suit_of card) suit))))
  where
    room : (xs : List ℕ) → (xs ≡ [] → ⊥) → (b : Bool) → length (cond b (card ∷ []) []) ≤ length xs
    room [] some b = absurd (some refl)
    room (x ∷ xs) some true = omega arith
    room (x ∷ xs) some false = omega arith

-- ---- the card that heads the suit

module _ (trump : Trump) (led : ℕ) (low : led < 52) (hands : FourHands) (set : IsCardSet hands.partner) (set' : IsCardSet hands.third)
    (safe : (card : ℕ) → suit_of card ≡ suit_of led → AreSafe trump (card ∷ []) hands.partner) (safe' : (card : ℕ) → suit_of card ≡ suit_of led → AreSafe trump (card ∷ []) hands.third)
    (own either with' to_come tops : List ℕ) (own_is : own ≡ of_suit (suit_of led) hands.own)
    (either_is : either ≡ cards_where (λ c. has_card hands.partner c || has_card hands.third c))
    (with_is : with' ≡ cards_where (λ c. has_card either c || eqb c led)) (come_is : to_come ≡ of_suit (suit_of led) with')
    (tops_are : tops ≡ filter (λ c. list_all (λ d. nat_lt d c) to_come) own) where
  among : (c : ℕ) → c < 52 → suit_of c ≡ suit_of led → (has_card either c || eqb c led) ≡ true → has_card to_come c ≡ true
  among c fits suit is = ap (λ (l : List ℕ). has_card l c) come_is ∙ has_card-filter (λ d. same_suit (suit_of d) (suit_of led)) with' c
      ∙ rw (ap (λ (l : List ℕ). has_card l c) with_is ∙ has_card-cards_where (λ d. has_card either d || eqb d led) c fits ∙ is, suit_test c (suit_of led) suit) refl

  in_either : (c : ℕ) → c < 52 → (has_card hands.partner c || has_card hands.third c) ≡ true → has_card either c ≡ true
  in_either c fits is = ap (λ (l : List ℕ). has_card l c) either_is ∙ has_card-cards_where (λ d. has_card hands.partner d || has_card hands.third d) c fits ∙ is

  module _ (card : ℕ) (mem : has_card tops card ≡ true) where
    parts : (has_card own card ≡ true) × (list_all (λ d. nat_lt d card) to_come ≡ true)
    parts = and_parts (has_card own card) (list_all (λ d. nat_lt d card) to_come) (sym (has_card-filter (λ c. list_all (λ d. nat_lt d c) to_come) own card) ∙ ap (λ (l : List ℕ). has_card l card) (sym tops_are) ∙ mem)

    in_own : (has_card hands.own card ≡ true) × (same_suit (suit_of card) (suit_of led) ≡ true)
    in_own = and_parts (has_card hands.own card) (same_suit (suit_of card) (suit_of led))
        (sym (has_card-filter (λ d. same_suit (suit_of d) (suit_of led)) hands.own card) ∙ ap (λ (l : List ℕ). has_card l card) (sym own_is) ∙ parts.0)

    suit_is : suit_of card ≡ suit_of led
    suit_is = same_suit-true (suit_of card) (suit_of led) in_own.1

    less : (c : ℕ) → has_card to_come c ≡ true → c < card
    less c h = ltb-true c card (cards_from_list_all (λ d. nat_lt d card) to_come parts.1 c h)

    over : (hand : List ℕ) → IsCardSet hand → ((c : ℕ) → has_card hand c ≡ true → (has_card hands.partner c || has_card hands.third c) ≡ true) → AreHigh (card ∷ []) hand
    over hand hand_is there v is = inl (λ c held same.
        let fits = has_card-below hand c hand_is held in
        let suit : suit_of c ≡ suit_of led = same_suit-true (suit_of c) (suit_of v) same ∙ ap suit_of (only card v is) ∙ suit_is in
        let under = less c (among c fits suit (or_left (has_card either c) (eqb c led) (in_either c fits (there c held)))) in
        let v_is = only card v is in
        omega arith)

    heads_trick : HeadsTrick trump led hands card
    heads_trick = record {
      held = in_own.0;
      suit = sym suit_is;
      higher = less led (among led low refl (or_right (has_card either led) (eqb led led) (eq-eqb led led refl)));
      over_partner = over hands.partner set (λ c h. or_left (has_card hands.partner c) (has_card hands.third c) h);
      over_third = over hands.third set' (λ c h. or_right (has_card hands.partner c) (has_card hands.third c) h);
      safe_from_partner = safe card suit_is;
      safe_from_third = safe' card suit_is;
    }

  pub last_heads : (o : Option ℕ) → MatchOption o (tops ≡ []) (λ card. IsLast card tops) → IfSome o (HeadsTrick trump led hands)
  last_heads None h = _
  last_heads (Some card) h = heads_trick card h.held

-- ---- how many cards follow

pub further_is : (trump : Trump) (suit : Suit) (own others cards theirs tops : List ℕ) (n : ℕ) → cards ≡ of_suit suit own → theirs ≡ of_suit suit others
    → tops ≡ filter (λ c. list_all (λ d. nat_lt d c) theirs) cards → n ≡ length tops → is_beyond_ruffs trump suit ≡ true → n ≡ further_in trump own others suit
further_is trump suit own others cards theirs tops n cards_are theirs_are tops_are many beyond =
    many ∙ ap (length {A = ℕ}) tops_are ∙ ap₂ (λ (xs ys : List ℕ). top_count xs ys) cards_are theirs_are ∙ rw beyond refl

part_of : (p : ℕ → Bool) (xs : List ℕ) → length (filter p xs) ≤ length xs
part_of p [] = omega arith
part_of p (x ∷ xs) = go (p x) (part_of p xs)
  where
    go : (b : Bool) → length (filter p xs) ≤ length xs → length (cond b (x ∷ filter p xs) (filter p xs)) ≤ suc (length xs)
    go true rest = omega arith
    go false rest = omega arith

pub further_part : (trump : Trump) (own others : List ℕ) (suit : Suit) → further_in trump own others suit ≤ length (of_suit suit own)
further_part trump own others suit = go (is_beyond_ruffs trump suit) (part_of (λ c. list_all (λ d. nat_lt d c) (of_suit suit others)) (of_suit suit own))
  where
    go : (b : Bool) → top_count (of_suit suit own) (of_suit suit others) ≤ length (of_suit suit own) → cond b (top_count (of_suit suit own) (of_suit suit others)) 0 ≤ length (of_suit suit own)
    go true h = h
    go false h = omega arith

pub further_few : (trump : Trump) (own others : List ℕ) → IsCardSet own
    → further_in trump own others Spades + further_in trump own others Hearts + further_in trump own others Diamonds + further_in trump own others Clubs ≤ 52
further_few trump own others set =
    let all = length-le_52 own set in
    let sum = by_suits own in
    let a = further_part trump own others Spades in
    let b = further_part trump own others Hearts in
    let c = further_part trump own others Diamonds in
    let d = further_part trump own others Clubs in
    omega arith

pub from_not : (b : Bool) → not b ≡ false → b ≡ true
from_not true h = refl
from_not false h = absurd (false≢true (sym h))

-- where no more are wanted none follow
pub none_follow : (trump : Trump) (hands : FourHands) (card rest : ℕ) (counting : List ℕ) → rest ≡ 0 → counting ≡ up_from card → IsFollowed trump hands card rest counting
none_follow trump hands card rest counting none is =
    let zeros : Counts = record { spades = 0; hearts = 0; diamonds = 0; clubs = 0 } in
    record {
      closed = subst IsClosedUp (sym is) (a_card_and_all_higher card);
      heads = λ d h. ap (λ (l : List ℕ). has_card l d) is ∙ h;
      counts = zeros;
      few = λ suit. (let zero = zero_in suit in omega arith);
      total = sym none;
      partner = λ c held few theirs. absurd (let zero = zero_in (suit_of c) in omega arith);
      leader = λ c held few theirs. absurd (let zero = zero_in (suit_of c) in omega arith);
      third = λ c held few theirs. absurd (let zero = zero_in (suit_of c) in omega arith);
    }
  where
    zero_in : (suit : Suit) → number_in (record { spades = 0; hearts = 0; diamonds = 0; clubs = 0 }) suit ≡ 0
    zero_in Spades = refl
    zero_in Hearts = refl
    zero_in Diamonds = refl
    zero_in Clubs = refl

-- ---- as many as are wanted

pub enough : (b : Bool) (t : PositionValue) (want rest : ℕ) → b ≡ is_declarers (to_play t) → want ≡ cond (is_declarers (to_play t)) t.need (tricks_left t + 1 - t.need) → rest ≡ want - 1
    → Suffices b t (suc rest)
enough b t want rest is wanted is_rest = go b (wanted ∙ ap (λ c. cond c t.need (tricks_left t + 1 - t.need)) (sym is))
  where
    go : (c : Bool) → want ≡ cond c t.need (tricks_left t + 1 - t.need) → Suffices c t (suc rest)
    go true e = omega arith
    go false e = omega arith

-- ---- the seats round the table

next_side : (seat : Seat) → is_declarers (seat_after 1 seat) ≡ not (is_declarers seat)
next_side Declarer = refl
next_side Left = refl
next_side Dummy = refl
next_side Right = refl

not_itself : (b : Bool) → b ≡ not b → ⊥
not_itself true h = false≢true (sym h)
not_itself false h = false≢true h

twice_not : (b : Bool) → not (not b) ≡ b
twice_not true = refl
twice_not false = refl

-- ---- cards that follow are high

module _ (trump : Trump) (own others hand : List ℕ) (suit : Suit) (set : IsCardSet own) (part : IsSubset hand others) where
  fewer_tops : top_count (of_suit suit own) (of_suit suit others) ≤ top_count (of_suit suit own) (of_suit suit hand)
  fewer_tops = length-IsSubset (filter (λ c. list_all (λ d. nat_lt d c) (of_suit suit hand)) (of_suit suit own)) (filter (λ c. list_all (λ d. nat_lt d c) (of_suit suit others)) (of_suit suit own))
      (IsCardSet-filter _ (of_suit suit own) own_set) (IsCardSet-filter _ (of_suit suit own) own_set) (λ c h.
      let both = and_parts (has_card (of_suit suit own) c) (list_all (λ d. nat_lt d c) (of_suit suit others)) (sym (has_card-filter (λ c. list_all (λ d. nat_lt d c) (of_suit suit others)) (of_suit suit own) c) ∙ h) in
      let all : list_all (λ d. nat_lt d c) (of_suit suit hand) ≡ true = list_all-from_cards (λ d. nat_lt d c) (of_suit suit hand) (λ d k.
      let parts = and_parts (has_card hand d) (same_suit (suit_of d) suit) (sym (has_card-filter (λ e. same_suit (suit_of e) suit) hand d) ∙ k) in
      cards_from_list_all (λ e. nat_lt e c) (of_suit suit others) both.1 d (has_card-filter (λ e. same_suit (suit_of e) suit) others d ∙ rw (part d parts.0, parts.1) refl)) in
      has_card-filter (λ c. list_all (λ d. nat_lt d c) (of_suit suit hand)) (of_suit suit own) c ∙ rw (both.0, all) refl)
    where
      own_set : IsCardSet (of_suit suit own)
      own_set = IsCardSet-filter (λ d. same_suit (suit_of d) suit) own set

  further_high : further_in trump own others suit ≤ high_count (of_suit suit own) (of_suit suit hand)
  further_high = go (is_beyond_ruffs trump suit) (nat_lt (top_count (of_suit suit own) (of_suit suit hand)) (length (of_suit suit hand)))
      fewer_tops (part_of (λ c. list_all (λ d. nat_lt d c) (of_suit suit others)) (of_suit suit own))
    where
      go : (a b : Bool) → top_count (of_suit suit own) (of_suit suit others) ≤ top_count (of_suit suit own) (of_suit suit hand) → top_count (of_suit suit own) (of_suit suit others) ≤ length (of_suit suit own)
          → cond a (top_count (of_suit suit own) (of_suit suit others)) 0 ≤ cond b (top_count (of_suit suit own) (of_suit suit hand)) (length (of_suit suit own))
      go true true p q = p
      go true false p q = q
      go false true p q = omega arith
      go false false p q = omega arith

-- and nobody can ruff them
beyond_from : (trump : Trump) (k : Suit → ℕ) (own others : List ℕ) → ((suit : Suit) → k suit ≤ further_in trump own others suit) → BeyondRuffs trump k
beyond_from NoTrump k own others few = inl refl
beyond_from (Suited suit) k own others few = inr (λ c plain.
    let most = few (suit_of c) in
    let zero : further_in (Suited suit) own others (suit_of c) ≡ 0 = rw plain refl in
    omega arith)

-- the rank winners are the first of each suit that count
winners_first : (counts : Counts) (own other counting : List ℕ) → AreWinners counts own other counting → FirstCount counting (λ suit. min (number_in counts suit) (length (of_suit suit other))) own
winners_first counts own other counting winners c held few = winners c held (omega arith) (omega arith)

-- ---- what they answer

module _ (s : State) (ok : IsState s) (x : Seat) (hands : FourHands) (is : AreHandsOf s x hands) (side : is_declarers x ≡ is_declarers (to_play s.position)) (led : ℕ) (one : s.position.trick.cards ≡ led ∷ [])
    (card : ℕ) (heads : HeadsTrick s.position.trump led hands card) (rest : ℕ) (counting : List ℕ) (followed : IsFollowed s.position.trump hands card rest counting) where
  abbrev leader : Seat
  leader = s.position.trick.leader

  against : is_declarers x ≡ not (is_declarers leader)
  against = side ∙ ap (λ (l : List ℕ). is_declarers (seat_after (length l) leader)) one ∙ next_side leader

  other_seats : (y : Seat) → y ≢ x → (y ≡ seat_after 2 x) ⊎ ((y ≡ leader) ⊎ (y ≡ seat_after 2 leader))
  other_seats y differ = elim (each_seat x y) as (λ _. (y ≡ seat_after 2 x) ⊎ ((y ≡ leader) ⊎ (y ≡ seat_after 2 leader))) [
    | inl mine ↦ elim mine as (λ _. (y ≡ seat_after 2 x) ⊎ ((y ≡ leader) ⊎ (y ≡ seat_after 2 leader))) [
      | inl e ↦ absurd (differ e)
      | inr e ↦ inl e
    ]
    | inr theirs ↦
        (let their_side : is_declarers y ≡ is_declarers leader = theirs ∙ ap not against ∙ twice_not (is_declarers leader) in
        elim (each_seat leader y) as (λ _. (y ≡ seat_after 2 x) ⊎ ((y ≡ leader) ⊎ (y ≡ seat_after 2 leader))) [
          | inl e ↦ inr e
          | inr other ↦ absurd (not_itself (is_declarers leader) (sym their_side ∙ other))
        ])
  ]

  by_seat : (P : List ℕ → Type 0) → P hands.partner → P hands.leader → P hands.third → (y : Seat) → y ≢ x → P (hand_of s y)
  by_seat P p l t y differ = elim (other_seats y differ) as (λ _. P (hand_of s y)) [
    | inl e ↦ subst P (is.partner ∙ ap (hand_of s) (sym e)) p
    | inr other ↦ elim other as (λ _. P (hand_of s y)) [
      | inl e ↦ subst P (is.leader ∙ ap (hand_of s) (sym e)) l
      | inr e ↦ subst P (is.third ∙ ap (hand_of s) (sym e)) t
    ]
  ]

  by_seat_to_come : (P : List ℕ → Type 0) → P hands.partner → P hands.third → (y : Seat) → y ≢ x → y ≢ leader → P (hand_of s y)
  by_seat_to_come P p t y differ not_leader = elim (other_seats y differ) as (λ _. P (hand_of s y)) [
    | inl e ↦ subst P (is.partner ∙ ap (hand_of s) (sym e)) p
    | inr other ↦ elim other as (λ _. P (hand_of s y)) [
      | inl e ↦ absurd (not_leader e)
      | inr e ↦ subst P (is.third ∙ ap (hand_of s) (sym e)) t
    ]
  ]

  held : has_card (hand_of s x) card ≡ true
  held = ap (λ (l : List ℕ). has_card l card) (sym is.own) ∙ heads.held

  heads_suit : HeadsSuitLed s x card
  heads_suit = record {
    led = led;
    one = one;
    to_come = λ e. not_itself (is_declarers leader) (ap is_declarers (sym e) ∙ against);
    held = held;
    suit = heads.suit;
    higher = heads.higher;
    high = by_seat_to_come (AreHigh (card ∷ [])) heads.over_partner heads.over_third;
    safe = by_seat_to_come (AreSafe s.position.trump (card ∷ [])) heads.safe_from_partner heads.safe_from_third;
  }

  abbrev k : Suit → ℕ
  k suit = number_in followed.counts suit

  abbrev own : List ℕ
  own = take_out card (hand_of s x)

  own_set : IsCardSet own
  own_set = IsCardSet-filter (λ d. not (eqb d card)) (hand_of s x) (hand_set s ok x)

  few : (suit : Suit) → k suit ≤ further_in s.position.trump own (others_of hands) suit
  few suit = subst (λ (l : List ℕ). k suit ≤ further_in s.position.trump (take_out card l) (others_of hands) suit) is.own (followed.few suit)

  among_others : (y : Seat) → y ≢ x → IsSubset (hand_of s y) (others_of hands)
  among_others y differ c h =
      has_card-cards_where (λ d. has_card hands.partner d || has_card hands.leader d || has_card hands.third d) c (has_card-below (hand_of s y) c (hand_set s ok y) h)
      ∙ by_seat (λ l. has_card l c ≡ true → (has_card hands.partner c || has_card hands.leader c || has_card hands.third c) ≡ true)
      (λ p. or_left (has_card hands.partner c || has_card hands.leader c) (has_card hands.third c) (or_left (has_card hands.partner c) (has_card hands.leader c) p))
      (λ p. or_left (has_card hands.partner c || has_card hands.leader c) (has_card hands.third c) (or_right (has_card hands.partner c) (has_card hands.leader c) p))
      (λ p. or_right (has_card hands.partner c || has_card hands.leader c) (has_card hands.third c) p) y differ h

  beyond : BeyondRuffs s.position.trump k
  beyond = beyond_from s.position.trump k own (others_of hands) few

  are_sure : AreSure s x (following card k (hand_of s x))
  are_sure = record {
    set = IsCardSet-filter _ own own_set;
    held = λ c h. IsSubset-filter (λ d. not (eqb d card)) (hand_of s x) c (IsSubset-filter _ own c h);
    high = λ y differ. picked_high k own own_set (hand_of s y) (λ suit.
        let most = few suit in let high = further_high s.position.trump own (others_of hands) (hand_of s y) suit own_set (among_others y differ) in omega arith);
    safe = λ y differ. safe_beyond s.position.trump (following card k (hand_of s x)) (are_beyond s.position.trump k card (hand_of s x) beyond) (hand_of s y);
  }

  first_count : (y : Seat) → y ≢ x → FirstCount counting (λ suit. min (k suit) (length (of_suit suit (hand_of s y)))) own
  first_count = by_seat (λ l. FirstCount counting (λ suit. min (k suit) (length (of_suit suit l))) own)
      (here hands.partner followed.partner) (here hands.leader followed.leader) (here hands.third followed.third)
    where
      here : (other : List ℕ) → AreWinners followed.counts (take_out card hands.own) other counting → FirstCount counting (λ suit. min (k suit) (length (of_suit suit other))) own
      here other winners = winners_first followed.counts own other counting (subst (λ (l : List ℕ). AreWinners followed.counts (take_out card l) other counting) is.own winners)

  in_each : (suit : Suit) → length (of_suit suit (following card k (hand_of s x))) ≡ k suit
  in_each suit = in_suit k own own_set suit ∙ min-eq_left (let most = few suit in let part = further_part s.position.trump own (others_of hands) suit in omega arith)

  many : length (following card k (hand_of s x)) ≡ rest
  many =
      let all = by_suits (following card k (hand_of s x)) in
      let a = in_each Spades in
      let b = in_each Hearts in
      let c = in_each Diamonds in
      let d = in_each Clubs in
      let total = followed.total in
      omega arith

  counts_too : has_card counting card ≡ true
  counts_too = followed.heads card (up_has card card (has_card-below (hand_of s x) card (hand_set s ok x) held) refl (omega arith))

  pub heading_answers : (b : Bool) → b ≡ is_declarers (to_play s.position) → Suffices b s.position (suc rest) → HasAnswer counting s b
  heading_answers b same h =
      let mine : is_declarers x ≡ b = side ∙ sym same in
      subst (HasAnswer counting s) mine (a_headed_suit_answers counting followed.closed s ok x card counts_too heads_suit k are_sure beyond first_count
      (subst (λ n. Suffices (is_declarers x) s.position (suc n)) (sym many) (subst (λ c. Suffices c s.position (suc rest)) (sym mine) h)))
