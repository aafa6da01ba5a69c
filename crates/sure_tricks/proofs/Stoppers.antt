-- A side that needs all the tricks at no trump fails if its opponents' stoppers outlast its other suits.
use Rattle.std.proofs.Common.{◌≡◌, ◌⊎◌, ℕ, suc, ◌+◌, ◌-◌, ◌<◌, ◌≤◌, Bool, true, false, not, eqb, cond, List, [], ◌∷◌, ◌++◌, length, filter, get_or, refl, sym, ap, ◌∙◌, subst, inl, inr, arith}
use Rattle.std.proofs.lemmas.Bool.{cases_Bool, cases_lt, ne_eqb, false≢true, and_parts}
use Rattle.std.proofs.lemmas.List.{get_or_append_left}
use Rattle.card_sets.specs.declared.card.Suit.{Suit}
use Rattle.card_sets.specs.declared.card.Suit.TheVariants.{Spades, Hearts, Diamonds, Clubs}
use Rattle.card_sets.specs.declared.seat.Seat.{Seat}
use Rattle.card_sets.specs.Cards.{suit_of, rank_of, same_suit}
use Rattle.card_sets.specs.SetWords.{has_card}
use Rattle.card_sets.proofs.Sets.{has_card-filter, filter-none}
use Rattle.card_sets.proofs.SetCounts.{some_card, nil_from_length}
use Rattle.card_sets.proofs.Suits.{same_suit-true, same_suit-refl}
use Rattle.trick_rules.specs.declared.trump.Trump.TheVariants.{NoTrump}
use Rattle.trick_rules.specs.Positions.{TrickValue, PositionValue, State, seat_after, to_play, played_count, tricks_left, IsState}
use Rattle.trick_rules.specs.Play.{of_suit, or_whole, legal_cards, put_card, after, hand_of, legal_in, is_declarers, winner_of, CanPlay, makes}
use Rattle.trick_rules.proofs.CardLists.{has_card-take_out, first_has, or_true, list_any-from_card, card_from_list_any}
use Rattle.trick_rules.proofs.States.{after-IsState, after_card-trump, legal_can_play, legal_cards-low, hand_length, cards_more}
use Rattle.trick_rules.proofs.Soundness.{after_short, after_third}
use Rattle.trick_rules.proofs.Turns.{count_in-turn}
use Rattle.trick_rules.proofs.PlayLaws.{hands_are_apart, the_need_never_rises, the_need_falls_by_one_at_most}
use Rattle.sure_tricks.specs.Stoppers.{has_suit}
use Rattle.sure_tricks.proofs.Counting.{count_in, count_less, one_of}
use Rattle.sure_tricks.proofs.Holding.{follows_or_void, suit_test}
use Rattle.sure_tricks.proofs.Hands.{hand_after, was_held, hand_set, next_three, seat_cases, Suffices, settled, tricks_within, tricks_last, suffices_within, suffices_after}
use Rattle.sure_tricks.proofs.Crossing.{follows_legally}
use Rattle.sure_tricks.proofs.TopTrumps.{sides, two_sides}
use Rattle.sure_tricks.proofs.StoppedSuit.{stop_led}

-- ---- suits that are stopped

pub suit_had : (cards : List ℕ) (c : ℕ) → has_card cards c ≡ true → has_suit cards (suit_of c) ≡ true
suit_had cards c h = list_any-from_card (λ d. same_suit (suit_of d) (suit_of c)) cards c h (same_suit-refl (suit_of c))

pub card_had : (cards : List ℕ) (suit : Suit) → has_suit cards suit ≡ true → (c : ℕ) × (has_card cards c ≡ true) × (suit_of c ≡ suit)
card_had cards suit h =
    let found = card_from_list_any (λ d. same_suit (suit_of d) suit) cards h in
    (found.0, found.1, same_suit-true (suit_of found.0) suit found.2)

-- a hand with more cards than stoppers
pub spare : (p : ℕ → Bool) (hand : List ℕ) → length (filter p hand) < length hand → (c : ℕ) × (has_card hand c ≡ true) × (p c ≡ false)
spare p [] few = absurd (omega arith)
spare p (x ∷ xs) few = go (p x) refl few (λ less. spare p xs less)
  where
    go : (b : Bool) → p x ≡ b → length (cond b (x ∷ filter p xs) (filter p xs)) < suc (length xs)
        → (length (filter p xs) < length xs → (c : ℕ) × (has_card xs c ≡ true) × (p c ≡ false)) → (c : ℕ) × (has_card (x ∷ xs) c ≡ true) × (p c ≡ false)
    go false e h rest = (x, first_has x xs, e)
    go true e h rest = let found = rest (omega arith) in (found.0, rw found.1 (or_true (eqb x found.0)), found.2)

-- a card of the suit led, or else one that isn't among these
pub throw_from : (s : State) (kept : List ℕ) (v : Suit) → 1 ≤ length s.position.trick.cards → suit_of (get_or s.position.trick.cards 0 0) ≡ v → has_suit kept v ≡ false
    → length (filter (has_card kept) (hand_of s (to_play s.position))) < length (hand_of s (to_play s.position)) → (c : ℕ) × (has_card (legal_in s) c ≡ true) × (has_card kept c ≡ false)
throw_from s kept v some led plain few = go s.position.trick.cards some led
  where
    hand : List ℕ
    hand = hand_of s (to_play s.position)

    not_kept : (c : ℕ) → suit_of c ≡ v → has_card kept c ≡ false
    not_kept c suit = elim (cases_Bool (has_card kept c)) as (λ _. has_card kept c ≡ false) [
      | inl e ↦ absurd (false≢true (sym plain ∙ subst (λ u. has_suit kept u ≡ true) suit (suit_had kept c e)))
      | inr e ↦ e
    ]

    go : (cards : List ℕ) → 1 ≤ length cards → suit_of (get_or cards 0 0) ≡ v → (c : ℕ) × (has_card (legal_cards cards hand) c ≡ true) × (has_card kept c ≡ false)
    go [] some led = absurd (omega arith)
    go (d ∷ ds) some led = elim (cases_lt 0 (length (of_suit (suit_of d) hand))) as (λ _. (c : ℕ) × (has_card (legal_cards (d ∷ ds) hand) c ≡ true) × (has_card kept c ≡ false)) [
      | inl has ↦ (let found = some_card (of_suit (suit_of d) hand) has in
          let both = and_parts (has_card hand found.0) (same_suit (suit_of found.0) (suit_of d)) (sym (has_card-filter (λ c. same_suit (suit_of c) (suit_of d)) hand found.0) ∙ found.1) in
          let suit : suit_of found.0 ≡ suit_of d = same_suit-true (suit_of found.0) (suit_of d) both.1 in
          (found.0, follows_legally d ds hand found.0 both.0 suit, not_kept found.0 (suit ∙ led)))
      | inr none ↦ (let other = spare (has_card kept) hand few in
          (other.0, ap (λ (l : List ℕ). has_card (or_whole l hand) other.0) (nil_from_length (of_suit (suit_of d) hand) (omega arith)) ∙ other.1, other.2))
    ]

-- ---- rounds

abbrev pub total : (Suit → ℕ) → ℕ
total rounds = rounds Spades + rounds Hearts + rounds Diamonds + rounds Clubs

-- a round of a suit is over
abbrev pub fewer : (Suit → ℕ) → Suit → Suit → ℕ
fewer rounds v suit = cond (same_suit suit v) (rounds suit - 1) (rounds suit)

pub one_fewer : (rounds : Suit → ℕ) (v : Suit) → 1 ≤ rounds v → total (fewer rounds v) + 1 ≡ total rounds
one_fewer rounds Spades some = omega arith
one_fewer rounds Hearts some = omega arith
one_fewer rounds Diamonds some = omega arith
one_fewer rounds Clubs some = omega arith

pub one_of_total : (rounds : Suit → ℕ) (v : Suit) → 1 ≤ rounds v → 1 ≤ total rounds
one_of_total rounds v some = let fall = one_fewer rounds v some in omega arith

-- ---- while the side takes tricks

-- the side's opponents keep their stoppers, and its hands have no more than this many cards of each other suit
pub record IsRunning (b : Bool) (stoppers : List ℕ) (rounds : Suit → ℕ) (s : State) : Type 0 where
  pub ok : IsState s
  pub trumps : s.position.trump ≡ NoTrump
  pub side : is_declarers s.position.trick.leader ≡ b
  pub held : (w : ℕ) → has_card stoppers w ≡ true → (seat : Seat) × (is_declarers seat ≡ not b) × (has_card (hand_of s seat) w ≡ true)
  pub highest : (w : ℕ) → has_card stoppers w ≡ true → (seat : Seat) → is_declarers seat ≡ b → (c : ℕ) → has_card (hand_of s seat) c ≡ true → suit_of c ≡ suit_of w → rank_of c < rank_of w
  pub bound : (seat : Seat) → is_declarers seat ≡ b → (suit : Suit) → has_suit stoppers suit ≡ false → length (of_suit suit (hand_of s seat)) ≤ rounds suit
  pub few : total rounds < tricks_left s.position
  pub room : (seat : Seat) → (length (filter (has_card stoppers) (hand_of s seat)) ≤ 2) ⊎ (length (filter (has_card stoppers) (hand_of s seat)) + total rounds ≤ tricks_left s.position)

-- within a trick to which a suit that isn't stopped was led: the hands of the side that have played have fewer cards of it
pub record IsOn (b : Bool) (stoppers : List ℕ) (rounds : Suit → ℕ) (v : Suit) (s : State) : Type 0 where
  pub some : 1 ≤ length s.position.trick.cards
  pub led : suit_of (get_or s.position.trick.cards 0 0) ≡ v
  pub plain : has_suit stoppers v ≡ false
  pub one : 1 ≤ rounds v
  pub less : (i : ℕ) → i < length s.position.trick.cards → is_declarers (seat_after i s.position.trick.leader) ≡ b
      → length (of_suit v (hand_of s (seat_after i s.position.trick.leader))) < rounds v

module _ (b : Bool) (stoppers : List ℕ) (rounds : Suit → ℕ) (s : State) (r : IsRunning b stoppers rounds s) where
  -- a card of the side is no stopper
  pub side_card : (seat : Seat) → is_declarers seat ≡ b → (c : ℕ) → has_card (hand_of s seat) c ≡ true → has_card stoppers c ≡ false
  side_card seat side c held = elim (cases_Bool (has_card stoppers c)) as (λ _. has_card stoppers c ≡ false) [
    | inl e ↦ (let theirs = r.held c e in
        absurd (false≢true (sym (hands_are_apart s seat theirs.0 r.ok (λ i. two_sides (is_declarers theirs.0) b (ap is_declarers (sym i) ∙ side) theirs.1) c held) ∙ theirs.2)))
    | inr e ↦ e
  ]

  -- the seat to play has a card for each trick
  pub full : length (hand_of s (to_play s.position)) ≡ tricks_left s.position
  full =
      let turn : played_count s.position (to_play s.position) ≡ 0 = count_in-turn (length s.position.trick.cards) s.position.trick.leader r.ok.sound.trick_short in
      omega (arith, hand_length s r.ok (to_play s.position), turn)

  -- ---- after a card that is no stopper

  module _ (c : ℕ) (legal : has_card (legal_in s) c ≡ true) (out : has_card stoppers c ≡ false) where
    turn : Seat
    turn = to_play s.position

    in_hand : has_card (hand_of s (to_play s.position)) c ≡ true
    in_hand = legal_cards-low s.position.trick.cards (hand_of s (to_play s.position)) c legal

    can : CanPlay s.position c
    can = legal_can_play s r.ok c legal

    no_more : (p : ℕ → Bool) (seat : Seat) → length (filter p (hand_of (after s c) seat)) ≤ length (filter p (hand_of s seat))
    no_more p seat = subst (λ (l : List ℕ). length (filter p l) ≤ length (filter p (hand_of s seat))) (sym (hand_after s c seat)) (count_less p (hand_of s seat) c)

    less_room : (seat : Seat) (tricks left : ℕ) → tricks_left s.position + left ≤ tricks + total rounds
        → (length (filter (has_card stoppers) (hand_of (after s c) seat)) ≤ 2) ⊎ (length (filter (has_card stoppers) (hand_of (after s c) seat)) + left ≤ tricks)
    less_room seat tricks left fall =
        let less = no_more (has_card stoppers) seat in
        elim (r.room seat) as (λ _. (length (filter (has_card stoppers) (hand_of (after s c) seat)) ≤ 2) ⊎ (length (filter (has_card stoppers) (hand_of (after s c) seat)) + left ≤ tricks)) [
          | inl few ↦ inl (omega (arith, few, less))
          | inr room ↦ inr (omega (arith, room, less, fall))
        ]

    held_after : (w : ℕ) → has_card stoppers w ≡ true → (seat : Seat) × (is_declarers seat ≡ not b) × (has_card (hand_of (after s c) seat) w ≡ true)
    held_after w stops =
        let theirs = r.held w stops in
        let differ : eqb w c ≡ false = ne_eqb w c (λ e. false≢true (sym out ∙ subst (λ d. has_card stoppers d ≡ true) e stops)) in
        (theirs.0, theirs.1, ap (λ (l : List ℕ). has_card l w) (hand_after s c theirs.0) ∙ has_card-take_out c (hand_of s theirs.0) w ∙ rw (theirs.2, differ) refl)

    -- a trick goes on
    running_on : length s.position.trick.cards < 3 → IsRunning b stoppers rounds (after s c)
    running_on short =
        let tricks = tricks_within s.position c r.ok.sound can short in
        record {
          ok = after-IsState s r.ok c legal;
          trumps = after_card-trump s.position c ∙ r.trumps;
          side = ap (λ (u : PositionValue). is_declarers u.trick.leader) (after_short s.position c short) ∙ r.side;
          held = held_after;
          highest = λ w stops seat side d h suit. r.highest w stops seat side d (was_held s c seat d h) suit;
          bound = λ seat side suit plain. let one = no_more (λ d. same_suit (suit_of d) suit) seat in let most = r.bound seat side suit plain in omega arith;
          few = let few = r.few in omega arith;
          room = λ seat. less_room seat (tricks_left (after s c).position) (total rounds) (omega (arith, tricks));
        }

    -- the hand that played has fewer cards of the suit led
    module _ (v : Suit) (plain : has_suit stoppers v ≡ false) (one : 1 ≤ rounds v)
        (follows : (suit_of c ≡ v) ⊎ ((d : ℕ) → has_card (hand_of s (to_play s.position)) d ≡ true → same_suit (suit_of d) v ≡ false)) where
      player_less : is_declarers (to_play s.position) ≡ b → length (of_suit v (hand_of (after s c) (to_play s.position))) < rounds v
      player_less side = elim follows as (λ _. length (of_suit v (hand_of (after s c) (to_play s.position))) < rounds v) [
        | inl suit ↦ (let most = r.bound (to_play s.position) side v plain in
            let fall = count_in (λ d. same_suit (suit_of d) v) (hand_of s (to_play s.position)) c (hand_set s r.ok (to_play s.position)) in_hand (suit_test c v suit) in
            subst (λ (l : List ℕ). length (of_suit v l) < rounds v) (sym (hand_after s c (to_play s.position))) (omega arith))
        | inr none ↦ (let empty : length (of_suit v (hand_of s (to_play s.position))) ≡ 0 = ap (length {A = ℕ}) (filter-none (λ d. same_suit (suit_of d) v) (hand_of s (to_play s.position)) none) in
            let less = no_more (λ d. same_suit (suit_of d) v) (to_play s.position) in
            omega arith)
      ]

      -- and so has each hand of the side that has played before
      all_less : ((i : ℕ) → i < length s.position.trick.cards → is_declarers (seat_after i s.position.trick.leader) ≡ b
          → length (of_suit v (hand_of s (seat_after i s.position.trick.leader))) < rounds v)
          → (i : ℕ) → i ≤ length s.position.trick.cards → is_declarers (seat_after i s.position.trick.leader) ≡ b
          → length (of_suit v (hand_of (after s c) (seat_after i s.position.trick.leader))) < rounds v
      all_less before i low side = elim (cases_lt i (length s.position.trick.cards)) as (λ _. length (of_suit v (hand_of (after s c) (seat_after i s.position.trick.leader))) < rounds v) [
        | inl earlier ↦ (let less = before i earlier side in let more = no_more (λ d. same_suit (suit_of d) v) (seat_after i s.position.trick.leader) in omega arith)
        | inr past ↦ (let e : i ≡ length s.position.trick.cards = omega (arith, low, past) in
            subst (λ j. length (of_suit v (hand_of (after s c) (seat_after j s.position.trick.leader))) < rounds v) (sym e)
            (player_less (ap (λ j. is_declarers (seat_after j s.position.trick.leader)) (sym e) ∙ side)))
      ]

      -- the trick goes on
      on_more : length s.position.trick.cards < 3 → suit_of (get_or (s.position.trick.cards ++ c ∷ []) 0 0) ≡ v
          → ((i : ℕ) → i < length s.position.trick.cards → is_declarers (seat_after i s.position.trick.leader) ≡ b
          → length (of_suit v (hand_of s (seat_after i s.position.trick.leader))) < rounds v) → IsOn b stoppers rounds v (after s c)
      on_more short led before =
          let is : (after s c).position.trick ≡ record { leader = s.position.trick.leader; cards = s.position.trick.cards ++ c ∷ [] } = ap (λ (u : PositionValue). u.trick) (after_short s.position c short) in
          let count = cards_more s.position c in
          record {
            some = subst (λ (t : TrickValue). 1 ≤ length t.cards) (sym is) (omega (arith, count));
            led = subst (λ (t : TrickValue). suit_of (get_or t.cards 0 0) ≡ v) (sym is) led;
            plain = plain;
            one = one;
            less = subst (λ (t : TrickValue). (i : ℕ) → i < length t.cards → is_declarers (seat_after i t.leader) ≡ b → length (of_suit v (hand_of (after s c) (seat_after i t.leader))) < rounds v) (sym is)
                (λ i low side. all_less before i (omega (arith, low, count)) side);
          }

      -- the side has won it: a round is over
      running_next : length s.position.trick.cards ≡ 3 → is_declarers (winner_of s.position.trump (put_card s.position c).trick) ≡ b
          → ((i : ℕ) → i < length s.position.trick.cards → is_declarers (seat_after i s.position.trick.leader) ≡ b
          → length (of_suit v (hand_of s (seat_after i s.position.trick.leader))) < rounds v) → IsRunning b stoppers (fewer rounds v) (after s c)
      running_next third wins before =
          let tricks = tricks_last s.position c r.ok.sound can third in
          let fall = one_fewer rounds v one in
          record {
            ok = after-IsState s r.ok c legal;
            trumps = after_card-trump s.position c ∙ r.trumps;
            side = ap (λ (u : PositionValue). is_declarers u.trick.leader) (after_third s.position c third) ∙ wins;
            held = held_after;
            highest = λ w stops seat side d h suit. r.highest w stops seat side d (was_held s c seat d h) suit;
            bound = bound_next;
            few = let few = r.few in omega arith;
            room = λ seat. less_room seat (tricks_left (after s c).position) (total (fewer rounds v)) (omega (arith, tricks, fall));
          }
        where
          place_of : (seat : Seat) → (i : ℕ) × (i < 4) × (seat_after i s.position.trick.leader ≡ seat)
          place_of seat = elim (seat_cases seat s.position.trick.leader) as (λ _. (i : ℕ) × (i < 4) × (seat_after i s.position.trick.leader ≡ seat)) [
            | inl e ↦ (0, omega arith, sym e)
            | inr differ ↦ (let at = next_three s.position.trick.leader seat differ in (at.0, at.2, at.3))
          ]

          bound_next : (seat : Seat) → is_declarers seat ≡ b → (suit : Suit) → has_suit stoppers suit ≡ false → length (of_suit suit (hand_of (after s c) seat)) ≤ fewer rounds v suit
          bound_next seat side suit open' = elim (cases_Bool (same_suit suit v)) as (λ _. length (of_suit suit (hand_of (after s c) seat)) ≤ fewer rounds v suit) [
            | inl e ↦ (let same : suit ≡ v = same_suit-true suit v e in
                let at = place_of seat in
                let less = subst (λ y. length (of_suit v (hand_of (after s c) y)) < rounds v) at.2 (all_less before at.0 (let low = at.1 in omega (arith, low, third)) (ap is_declarers at.2 ∙ side)) in
                let less' : length (of_suit suit (hand_of (after s c) seat)) < rounds suit = subst (λ u. length (of_suit u (hand_of (after s c) seat)) < rounds u) (sym same) less in
                rw e (omega arith))
            | inr e ↦ (let one = no_more (λ d. same_suit (suit_of d) suit) seat in let most = r.bound seat side suit open' in rw e (omega arith))
          ]

      -- whoever wins a trick, one trick is still enough for the others
      still_one : length s.position.trick.cards ≡ 3 → (side : Bool) → Suffices side s.position 1 → Suffices side (after s c).position 1
      still_one third true h = omega (arith, the_need_never_rises s.position c r.ok.sound)
      still_one third false h =
          let one : cond {A = ℕ} (eqb (length s.position.trick.cards) 3) 1 0 ≡ 1 = rw third refl in
          omega (arith, tricks_last s.position c r.ok.sound can third, the_need_falls_by_one_at_most s.position c r.ok.sound, one)

    -- ---- what the card comes to

    -- each state that comes next is answered
    abbrev pub IsAnswered : Type 0
    IsAnswered = (rounds' : Suit → ℕ) → IsRunning b stoppers rounds' (after s c)
        → ((after s c).position.trick.cards ≡ []) ⊎ ((v : Suit) × IsOn b stoppers rounds' v (after s c))
        → Suffices (not b) (after s c).position 1 → makes (after s c) ≡ not b

    -- a card led: its suit is stopped, or a trick goes on
    pub led_card : s.position.trick.cards ≡ [] → Suffices (not b) s.position 1 → IsAnswered → makes (after s c) ≡ not b
    led_card none h again = elim (cases_Bool (has_suit stoppers (suit_of c))) as (λ _. makes (after s c) ≡ not b) [
      | inl stops ↦ (let w = card_had stoppers (suit_of c) stops in
          let few = r.few in
          stop_led b w.0 s r.ok (omega (arith, few)) r.trumps none r.side (r.held w.0 w.1) (r.highest w.0 w.1) c legal (sym w.2) h)
      | inr plain ↦ again rounds (running_on short)
          (inr (suit_of c, on_more (suit_of c) plain (some plain) (inl refl) short (ap suit_of first) (λ i low. absurd (omega (arith, low, empty)))))
          (suffices_within (not b) s.position c 1 r.ok.sound can short h)
    ]
      where
        empty : length s.position.trick.cards ≡ 0
        empty = ap (length {A = ℕ}) none

        short : length s.position.trick.cards < 3
        short = omega (arith, empty)

        own : is_declarers (to_play s.position) ≡ b
        own = ap (λ (l : List ℕ). is_declarers (seat_after (length l) s.position.trick.leader)) none ∙ r.side

        first : get_or (s.position.trick.cards ++ c ∷ []) 0 0 ≡ c
        first = ap (λ (l : List ℕ). get_or (l ++ c ∷ []) 0 0) none

        some : has_suit stoppers (suit_of c) ≡ false → 1 ≤ rounds (suit_of c)
        some plain =
            let most = r.bound (to_play s.position) own (suit_of c) plain in
            let has = one_of (λ d. same_suit (suit_of d) (suit_of c)) (hand_of s (to_play s.position)) c in_hand (same_suit-refl (suit_of c)) in
            omega arith

    -- a card played to a suit that isn't stopped
    pub next_card : (v : Suit) → IsOn b stoppers rounds v s → Suffices (not b) s.position 1 → IsAnswered → makes (after s c) ≡ not b
    next_card v at h again = elim (cases_lt (length s.position.trick.cards) 3) as (λ _. makes (after s c) ≡ not b) [
      | inl short ↦ again rounds (running_on short) (inr (v, on_more v at.plain at.one follows short led at.less)) (suffices_within (not b) s.position c 1 r.ok.sound can short h)
      | inr past ↦ (let third : length s.position.trick.cards ≡ 3 = omega (arith, past, r.ok.sound.trick_short) in
          elim (sides (is_declarers (winner_of s.position.trump (put_card s.position c).trick)) b) as (λ _. makes (after s c) ≡ not b) [
            | inl ours ↦ again (fewer rounds v) (running_next v at.plain at.one follows third ours at.less)
                (inl (ap (λ (u : PositionValue). u.trick.cards) (after_third s.position c third))) (still_one v at.plain at.one follows third (not b) h)
            | inr others ↦ settled (after s c) (not b) (after-IsState s r.ok c legal) (suffices_after (not b) s.position c 0 r.ok.sound can third others h)
          ])
    ]
      where
        led : suit_of (get_or (s.position.trick.cards ++ c ∷ []) 0 0) ≡ v
        led = ap suit_of (get_or_append_left s.position.trick.cards (c ∷ []) 0 0 at.some) ∙ at.led

        follows : (suit_of c ≡ v) ⊎ ((d : ℕ) → has_card (hand_of s (to_play s.position)) d ≡ true → same_suit (suit_of d) v ≡ false)
        follows = follows_or_void s.position.trick.cards (hand_of s (to_play s.position)) v c at.some at.led legal
