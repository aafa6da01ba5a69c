-- The last two tricks: an opponent who must throw one of two stoppers keeps the one of the suit that is led next.
use Rattle.std.proofs.Common.{◌≡◌, ◌≢◌, ◌⊎◌, ℕ, ◌-◌, ◌<◌, ◌≤◌, Bool, true, false, not, eqb, cond, List, length, filter, get_or, refl, sym, ap, ◌∙◌, subst, inl, inr, arith}
use Rattle.std.proofs.lemmas.Bool.{cases_Bool, cases_eq, cases_lt, ne_eqb, lt-ltb, le-ltb, false≢true, and_parts}
use Rattle.card_sets.specs.declared.card.Suit.{Suit}
use Rattle.card_sets.specs.declared.card.Suit.TheVariants.{Spades, Hearts, Diamonds, Clubs}
use Rattle.card_sets.specs.declared.seat.Seat.{Seat}
use Rattle.card_sets.specs.declared.seat.Seat.TheVariants.{Declarer, Left, Dummy, Right}
use Rattle.card_sets.specs.Cards.{suit_of, rank_of, same_suit, card_of}
use Rattle.card_sets.specs.SetWords.{has_card, IsCardSet}
use Rattle.card_sets.proofs.Sets.{has_card-filter, has_card-below, IsCardSet-filter}
use Rattle.card_sets.proofs.SetCounts.{some_card, length-take_out, has_card-length}
use Rattle.card_sets.proofs.Suits.{same_suit-true, same_suit-refl, card_of-suit_of}
use Rattle.trick_rules.specs.Positions.{State, seat_after, to_play, places_on, played_count, tricks_left}
use Rattle.trick_rules.specs.Play.{of_suit, take_out, hand_of, is_declarers, makes}
use Rattle.trick_rules.proofs.CardLists.{has_card-take_out}
use Rattle.trick_rules.proofs.States.{hand_length}
use Rattle.trick_rules.proofs.PlayLaws.{the_trick_is_not_held}
use Rattle.sure_tricks.specs.Stoppers.{has_suit}
use Rattle.sure_tricks.proofs.Counting.{one_of}
use Rattle.sure_tricks.proofs.Holding.{suit_test}
use Rattle.sure_tricks.proofs.Hands.{seats_differ, hand_set, Suffices}
use Rattle.sure_tricks.proofs.Cash.{member_at}
use Rattle.sure_tricks.proofs.StoppedSuit.{AreLowerAt}
use Rattle.sure_tricks.proofs.Stoppers.{card_had, spare, total, fewer, one_fewer, one_of_total, IsRunning, IsOn, full}
use Rattle.sure_tricks.proofs.LastButOne.{partners_side, of_the_side, endings}

-- ---- two stoppers in a hand of two cards

-- the only card of a hand
last_card : (xs : List ℕ) → IsCardSet xs → length xs ≡ 1 → (q : ℕ) × (has_card xs q ≡ true) × ((c : ℕ) → has_card xs c ≡ true → c ≡ q)
last_card xs set one =
    let found = some_card xs (omega (arith, one)) in (
      found.0,
      found.1,
      λ c h. elim (cases_eq c found.0) as (λ _. c ≡ found.0) [
        | inl e ↦ e
        | inr differ ↦ (let less = length-take_out xs found.0 set found.1 in
            let more = has_card-length (take_out found.0 xs) c (has_card-take_out found.0 xs c ∙ rw (h, ne_eqb c found.0 differ) refl) in
            absurd (omega (arith, less, more, one)))
      ],
    )

within_total : (rounds : Suit → ℕ) (suit : Suit) → rounds suit ≤ total rounds
within_total rounds Spades = omega arith
within_total rounds Hearts = omega arith
within_total rounds Diamonds = omega arith
within_total rounds Clubs = omega arith

place_zero : (x : Seat) → places_on x (seat_after 0 x) ≡ 0
place_zero Declarer = refl
place_zero Left = refl
place_zero Dummy = refl
place_zero Right = refl

place_two : (x : Seat) → places_on x (seat_after 2 x) ≡ 2
place_two Declarer = refl
place_two Left = refl
place_two Dummy = refl
place_two Right = refl

same_card : (c d : ℕ) → c < 52 → d < 52 → suit_of c ≡ suit_of d → rank_of c ≡ rank_of d → c ≡ d
same_card c d low_c low_d suit rank = sym (card_of-suit_of c low_c) ∙ ap (λ u. card_of u (rank_of c)) suit ∙ ap (λ n. card_of (suit_of d) n) rank ∙ card_of-suit_of d low_d

module _ (b : Bool) (stoppers : List ℕ) (rounds : Suit → ℕ) (s : State) (r : IsRunning b stoppers rounds s) (v : Suit) (at : IsOn b stoppers rounds v s)
    (two : tricks_left s.position ≡ 2) (one : total rounds ≡ 1) (h : Suffices (not b) s.position 1) where
  abbrev leader : Seat
  leader = s.position.trick.leader

  abbrev partner : Seat
  partner = seat_after 2 s.position.trick.leader

  abbrev led : ℕ
  led = get_or s.position.trick.cards 0 0

  partner_side : is_declarers partner ≡ b
  partner_side = partners_side s.position.trick.leader ∙ r.side

  one_round : rounds v ≡ 1
  one_round = omega (arith, within_total rounds v, one, at.one)

  no_round : (suit : Suit) → same_suit suit v ≡ false → rounds suit ≡ 0
  no_round suit e =
      let most : cond (same_suit suit v) (rounds suit - 1) (rounds suit) ≤ total (fewer rounds v) = within_total (fewer rounds v) suit in
      let is : cond (same_suit suit v) (rounds suit - 1) (rounds suit) ≡ rounds suit = rw e refl in
      omega (arith, most, is, one_fewer rounds v at.one, one)

  -- a card of another suit is of one that is stopped
  stops : (seat : Seat) → is_declarers seat ≡ b → (q : ℕ) → has_card (hand_of s seat) q ≡ true → suit_of q ≢ v → (w : ℕ) × (has_card stoppers w ≡ true) × (suit_of w ≡ suit_of q)
  stops seat side q held differ = elim (cases_Bool (has_suit stoppers (suit_of q))) as (λ _. (w : ℕ) × (has_card stoppers w ≡ true) × (suit_of w ≡ suit_of q)) [
    | inl e ↦ card_had stoppers (suit_of q) e
    | inr e ↦ (let most = r.bound seat side (suit_of q) e in
        let some = one_of (λ c. same_suit (suit_of c) (suit_of q)) (hand_of s seat) q held (same_suit-refl (suit_of q)) in
        let none = no_round (suit_of q) (other (cases_Bool (same_suit (suit_of q) v))) in
        absurd (omega (arith, most, some, none)))
  ]
    where
      other : (same_suit (suit_of q) v ≡ true) ⊎ (same_suit (suit_of q) v ≡ false) → same_suit (suit_of q) v ≡ false
      other (inl e) = absurd (differ (same_suit-true (suit_of q) v e))
      other (inr e) = e

  -- a hand that has played has no card of the suit led
  no_more : (i : ℕ) → i < length s.position.trick.cards → is_declarers (seat_after i s.position.trick.leader) ≡ b
      → (c : ℕ) → has_card (hand_of s (seat_after i s.position.trick.leader)) c ≡ true → suit_of c ≢ v
  no_more i low side c held suit =
      let less = at.less i low side in
      let some = one_of (λ d. same_suit (suit_of d) v) (hand_of s (seat_after i s.position.trick.leader)) c held (suit_test c v suit) in
      omega (arith, less, some, one_round)

  -- and one card
  one_more : (i : ℕ) → places_on s.position.trick.leader (seat_after i s.position.trick.leader) ≡ i → i < length s.position.trick.cards
      → length (hand_of s (seat_after i s.position.trick.leader)) ≡ 1
  one_more i is low =
      let count : played_count s.position (seat_after i s.position.trick.leader) ≡ 1 = rw (is, lt-ltb i (length s.position.trick.cards) low) refl in
      omega (arith, hand_length s r.ok (seat_after i s.position.trick.leader), count, two)

  -- if the side can win with one seat alone, whose last card is known
  by_seat : (z l : Seat) (place best q : ℕ) → place < 4 → seat_after place s.position.trick.leader ≡ z → is_declarers z ≡ b
      → ((seat : Seat) → is_declarers seat ≡ b → (seat ≡ z) ⊎ (seat ≡ l)) → suit_of best ≡ v
      → AreLowerAt (λ seat. seat ≡ l) best s.position.trick.leader s.position.trick.cards
      → ((c : ℕ) → has_card (hand_of s l) c ≡ true → suit_of c ≡ v → rank_of c < rank_of best)
      → has_card (hand_of s z) q ≡ true → suit_of q ≢ v
      → ((place < length s.position.trick.cards) × (get_or s.position.trick.cards place 0 ≡ best) × ((c : ℕ) → has_card (hand_of s z) c ≡ true → c ≡ q))
      ⊎ ((length s.position.trick.cards ≤ place) × (has_card (hand_of s z) best ≡ true) × ((c : ℕ) → has_card (hand_of s z) c ≡ true → (c ≡ best) ⊎ (c ≡ q)))
      → makes s ≡ not b
  by_seat z l place best q low is side either suit lower lower_held held differ there =
      let w = stops z side q held differ in
      endings 3 b w.0 v z l s (record {
        ok = r.ok;
        two = omega (arith, two);
        trumps = r.trumps;
        some = at.some;
        led = at.led;
        other = λ e. differ (sym w.2 ∙ e);
        held = r.held w.0 w.1;
        highest = r.highest w.0 w.1;
        either = either;
        side = side;
        best = best;
        best_suit = suit;
        lower = lower;
        lower_held = lower_held;
        place = place;
        low = low;
        at = is;
        there = elim there as (λ _. ((place < length s.position.trick.cards) × (get_or s.position.trick.cards place 0 ≡ best) × ((c : ℕ) → has_card (hand_of s z) c ≡ true → suit_of c ≡ suit_of w.0))
            ⊎ ((length s.position.trick.cards ≤ place) × (has_card (hand_of s z) best ≡ true) × ((c : ℕ) → has_card (hand_of s z) c ≡ true → (c ≡ best) ⊎ (suit_of c ≡ suit_of w.0)))) [
              | inl (before, card, only) ↦ inl (before, card, λ c k. ap suit_of (only c k) ∙ sym w.2)
              | inr (later, card, only) ↦ inr (
                later,
                card,
                λ c k. elim (only c k) as (λ _. (c ≡ best) ⊎ (suit_of c ≡ suit_of w.0)) [
                  | inl same ↦ inl same
                  | inr rest ↦ inr (ap suit_of rest ∙ sym w.2)
                ],
              )
            ];
      }) (omega (arith, at.some)) h

  -- the leader
  by_leader : AreLowerAt (λ seat. seat ≡ partner) led s.position.trick.leader s.position.trick.cards
      → ((c : ℕ) → has_card (hand_of s partner) c ≡ true → suit_of c ≡ v → rank_of c < rank_of led) → makes s ≡ not b
  by_leader lower lower_held =
      let q = last_card (hand_of s leader) (hand_set s r.ok leader) (one_more 0 (place_zero s.position.trick.leader) at.some) in
      by_seat leader partner 0 led q.0 (omega arith) refl r.side (λ seat side. of_the_side s.position.trick.leader seat (side ∙ sym r.side)) at.led lower lower_held
      q.1 (no_more 0 at.some r.side q.0 q.1) (inl (at.some, refl, q.2))

  swapped : (seat : Seat) → is_declarers seat ≡ b → (seat ≡ partner) ⊎ (seat ≡ leader)
  swapped seat side = elim (of_the_side s.position.trick.leader seat (side ∙ sym r.side)) as (λ _. (seat ≡ partner) ⊎ (seat ≡ leader)) [
    | inl e ↦ inr e
    | inr e ↦ inl e
  ]

  -- the leader's card is lower than the partner's
  leader_lower : (best : ℕ) → rank_of led < rank_of best → AreLowerAt (λ seat. seat ≡ leader) best s.position.trick.leader s.position.trick.cards
  leader_lower best less i low whose suit = elim (cases_eq i 0) as (λ _. rank_of (get_or s.position.trick.cards i 0) < rank_of best) [
    | inl e ↦ subst (λ j. rank_of (get_or s.position.trick.cards j 0) < rank_of best) (sym e) less
    | inr differ ↦ absurd (seats_differ i 0 s.position.trick.leader (omega (arith, low, r.ok.sound.trick_short)) (omega arith) differ whose)
  ]

  leader_out : (best c : ℕ) → has_card (hand_of s leader) c ≡ true → suit_of c ≡ v → rank_of c < rank_of best
  leader_out best c held suit = absurd (no_more 0 at.some r.side c held suit)

  -- the partner, who has played
  by_partners_card : 2 < length s.position.trick.cards → suit_of (get_or s.position.trick.cards 2 0) ≡ v → rank_of led < rank_of (get_or s.position.trick.cards 2 0) → makes s ≡ not b
  by_partners_card low suit less =
      let q = last_card (hand_of s partner) (hand_set s r.ok partner) (one_more 2 (place_two s.position.trick.leader) low) in
      by_seat partner leader 2 (get_or s.position.trick.cards 2 0) q.0 (omega arith) refl partner_side swapped suit (leader_lower (get_or s.position.trick.cards 2 0) less)
      (leader_out (get_or s.position.trick.cards 2 0)) q.1 (no_more 2 low partner_side q.0 q.1) (inl (low, refl, q.2))

  -- the partner, who will have to play this card
  by_partners_hand : length s.position.trick.cards ≤ 2 → (best : ℕ) → has_card (hand_of s partner) best ≡ true → suit_of best ≡ v → rank_of led < rank_of best → makes s ≡ not b
  by_partners_hand low best held suit less =
      let none : played_count s.position partner ≡ 0 = rw (place_two s.position.trick.leader, le-ltb 2 (length s.position.trick.cards) low) refl in
      let hand = hand_length s r.ok partner in
      let most = r.bound partner partner_side v at.plain in
      let q = spare (λ c. same_suit (suit_of c) v) (hand_of s partner) (omega (arith, most, one_round, none, hand, two)) in
      let differ : suit_of q.0 ≢ v = λ e. false≢true (sym q.2 ∙ suit_test q.0 v e) in
      let left = length-take_out (hand_of s partner) best (hand_set s r.ok partner) held in
      let last = last_card (take_out best (hand_of s partner)) (IsCardSet-filter (λ c. not (eqb c best)) (hand_of s partner) (hand_set s r.ok partner)) (omega (arith, left, none, hand, two)) in
      let q_last = last.2 q.0 (has_card-take_out best (hand_of s partner) q.0 ∙ rw (q.1, ne_eqb q.0 best (λ e. differ (ap suit_of e ∙ suit))) refl) in
      by_seat partner leader 2 best q.0 (omega arith) refl partner_side swapped suit (leader_lower best less) (leader_out best) q.1 differ
      (inr (
        low,
        held,
        λ c k. elim (cases_eq c best) as (λ _. (c ≡ best) ⊎ (c ≡ q.0)) [
          | inl e ↦ inl e
          | inr other ↦ inr (last.2 c (has_card-take_out best (hand_of s partner) c ∙ rw (k, ne_eqb c best other) refl) ∙ sym q_last)
        ],
      ))

  led_low : led < 52
  led_low = r.ok.sound.trick_cards 0 0 at.some

  -- of two cards of the suit led
  lower_card : (c : ℕ) → c < 52 → suit_of c ≡ v → c ≢ led → rank_of c ≤ rank_of led → rank_of c < rank_of led
  lower_card c low suit differ most = elim (cases_lt (rank_of c) (rank_of led)) as (λ _. rank_of c < rank_of led) [
    | inl less ↦ less
    | inr past ↦ absurd (differ (same_card c led low led_low (suit ∙ sym at.led) (omega (arith, most, past))))
  ]

  last_two_cards : makes s ≡ not b
  last_two_cards = elim (cases_lt 2 (length s.position.trick.cards)) as (λ _. makes s ≡ not b) [
    | inl third ↦ elim (cases_Bool (same_suit (suit_of (get_or s.position.trick.cards 2 0)) v)) as (λ _. makes s ≡ not b) [
      | inl e ↦ elim (cases_lt (rank_of led) (rank_of (get_or s.position.trick.cards 2 0))) as (λ _. makes s ≡ not b) [
        | inl less ↦ by_partners_card third (same_suit-true (suit_of (get_or s.position.trick.cards 2 0)) v e) less
        | inr past ↦ by_leader (λ i low whose suit. subst (λ j. rank_of (get_or s.position.trick.cards j 0) < rank_of led) (sym (at_two i low whose))
            (lower_card (get_or s.position.trick.cards 2 0) (r.ok.sound.trick_cards 2 0 third) (same_suit-true (suit_of (get_or s.position.trick.cards 2 0)) v e)
            (λ same. r.ok.sound.trick_differs 0 2 0 (omega arith) third (sym same)) past))
            (λ c held suit. absurd (no_more 2 third partner_side c held suit))
      ]
      | inr e ↦ by_leader (λ i low whose suit. absurd (false≢true (sym e ∙ suit_test (get_or s.position.trick.cards 2 0) v
          (subst (λ j. suit_of (get_or s.position.trick.cards j 0) ≡ v) (at_two i low whose) (suit ∙ at.led)))))
          (λ c held suit. absurd (no_more 2 third partner_side c held suit))
    ]
    | inr short ↦ elim (cases_lt 0 (length (of_suit v (hand_of s partner)))) as (λ _. makes s ≡ not b) [
      | inl some ↦ (let most = r.bound partner partner_side v at.plain in
          let only = last_card (of_suit v (hand_of s partner)) (IsCardSet-filter (λ c. same_suit (suit_of c) v) (hand_of s partner) (hand_set s r.ok partner)) (omega (arith, some, most, one_round)) in
          let parts = and_parts (has_card (hand_of s partner) only.0) (same_suit (suit_of only.0) v) (sym (has_card-filter (λ c. same_suit (suit_of c) v) (hand_of s partner) only.0) ∙ only.1) in
          let suit : suit_of only.0 ≡ v = same_suit-true (suit_of only.0) v parts.1 in
          elim (cases_lt (rank_of led) (rank_of only.0)) as (λ _. makes s ≡ not b) [
            | inl less ↦ by_partners_hand short only.0 parts.0 suit less
            | inr past ↦ by_leader (none_yet short) (λ c held same.
                let is = only.2 c (has_card-filter (λ d. same_suit (suit_of d) v) (hand_of s partner) c ∙ rw (held, suit_test c v same) refl) in
                lower_card c (has_card-below (hand_of s partner) c (hand_set s r.ok partner) held) same
                (λ e. false≢true (sym (the_trick_is_not_held s partner r.ok led (member_at s.position.trick.cards 0 at.some)) ∙ subst (λ d. has_card (hand_of s partner) d ≡ true) e held))
                (subst (λ d. rank_of d ≤ rank_of led) (sym is) past))
          ])
      | inr none ↦ by_leader (none_yet short) (λ c held same. absurd (
          let has = one_of (λ d. same_suit (suit_of d) v) (hand_of s partner) c held (suit_test c v same) in omega (arith, has, none)))
    ]
  ]
    where
      at_two : (i : ℕ) → i < length s.position.trick.cards → seat_after i s.position.trick.leader ≡ partner → i ≡ 2
      at_two i low whose = elim (cases_eq i 2) as (λ _. i ≡ 2) [
        | inl e ↦ e
        | inr differ ↦ absurd (seats_differ i 2 s.position.trick.leader (omega (arith, low, r.ok.sound.trick_short)) (omega arith) differ whose)
      ]

      none_yet : length s.position.trick.cards ≤ 2 → AreLowerAt (λ seat. seat ≡ partner) led s.position.trick.leader s.position.trick.cards
      none_yet short i low whose suit = absurd (let two = at_two i low whose in omega (arith, low, short, two))

-- an opponent's hand has nothing but stoppers: these are the last two tricks, and it keeps the right one
pub last_two : (b : Bool) (stoppers : List ℕ) (rounds : Suit → ℕ) (s : State) → IsRunning b stoppers rounds s → (v : Suit) → IsOn b stoppers rounds v s
    → length (hand_of s (to_play s.position)) ≤ length (filter (has_card stoppers) (hand_of s (to_play s.position))) → Suffices (not b) s.position 1 → makes s ≡ not b
last_two b stoppers rounds s r v at all h = elim (r.room (to_play s.position)) as (λ _. makes s ≡ not b) [
  | inl few ↦ last_two_cards b stoppers rounds s r v at (omega (arith, whole, all, few, less, one)) (omega (arith, whole, all, few, less, one)) h
  | inr room ↦ absurd (omega (arith, room, whole, all, one))
]
  where
    whole : length (hand_of s (to_play s.position)) ≡ tricks_left s.position
    whole = full b stoppers rounds s r

    one : 1 ≤ total rounds
    one = one_of_total rounds v at.one

    less : total rounds < tricks_left s.position
    less = r.few
