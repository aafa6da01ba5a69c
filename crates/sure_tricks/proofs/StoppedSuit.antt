-- A stopper of the suit led takes the trick, at no trump.
use Rattle.std.proofs.Common.{◌≡◌, ◌⊎◌, ℕ, zero, suc, ◌+◌, ◌<◌, ◌≤◌, Bool, true, false, not, List, [], ◌∷◌, ◌++◌, length, map, get_or, refl, sym, ap, ◌∙◌, subst, inl, inr, arith}
use Rattle.std.proofs.lemmas.Bool.{cases_Bool, cases_eq, cases_lt}
use Rattle.std.proofs.lemmas.List.{get_or-map, get_or_append_left}
use Rattle.std.proofs.Math.Seq.{get_or-append_seam}
use Rattle.card_sets.specs.declared.card.Suit.{Suit}
use Rattle.card_sets.specs.declared.seat.Seat.{Seat}
use Rattle.card_sets.specs.Cards.{suit_of, rank_of, same_suit}
use Rattle.card_sets.specs.SetWords.{has_card}
use Rattle.card_sets.proofs.Suits.{same_suit-true}
use Rattle.trick_rules.specs.declared.trump.Trump.{Trump}
use Rattle.trick_rules.specs.declared.trump.Trump.TheVariants.{NoTrump}
use Rattle.trick_rules.specs.Positions.{TrickValue, PositionValue, State, seat_after, to_play, tricks_left, IsState}
use Rattle.trick_rules.specs.Play.{put_card, after, hand_of, legal_in, legal_cards, is_declarers, strength, winner_of, CanPlay, makes}
use Rattle.trick_rules.proofs.CardLists.{take_out-low}
use Rattle.trick_rules.proofs.TrickLemmas.{IsHighest, winner_from_highest}
use Rattle.trick_rules.proofs.States.{after-IsState, after_card-trump, legal_can_play, legal_cards-low, cards_more}
use Rattle.trick_rules.proofs.Soundness.{with_card, after_short}
use Rattle.sure_tricks.proofs.Holding.{suit_test}
use Rattle.sure_tricks.proofs.Hands.{hand_after, hand_stays, seats_differ, next_three, by_card, by_each, Suffices, settled, tricks_within, suffices_within, suffices_after}
use Rattle.sure_tricks.proofs.Cash.{going}
use Rattle.sure_tricks.proofs.Crossing.{follows_legally}
use Rattle.sure_tricks.proofs.TopTrumps.{highest_in, sides, two_sides}

-- ---- the winner of a trick

-- the cards of some seats in a trick are lower than a card, as far as they are of its suit
abbrev pub AreLowerAt : (Seat → Type 0) → ℕ → Seat → List ℕ → Type 0
AreLowerAt P w leader cards = (i : ℕ) → i < length cards → P (seat_after i leader) → suit_of (get_or cards i 0) ≡ suit_of w → rank_of (get_or cards i 0) < rank_of w

-- those of a side
abbrev pub AreLowerIn : Bool → ℕ → Seat → List ℕ → Type 0
AreLowerIn b w leader cards = AreLowerAt (λ seat. is_declarers seat ≡ b) w leader cards

suit_strength : (led : Suit) (c : ℕ) → suit_of c ≡ led → strength NoTrump led c ≡ rank_of c
suit_strength led c e = rw (suit_test c led e) refl

other_strength : (led : Suit) (c : ℕ) → same_suit (suit_of c) led ≡ false → strength NoTrump led c ≡ 0
other_strength led c e = rw e refl

not_beaten : (P : Seat → Type 0) (leader : Seat) (d : ℕ) (rest : List ℕ) (p h : ℕ) → p < length (d ∷ rest) → suit_of d ≡ suit_of (get_or (d ∷ rest) p 0)
    → AreLowerAt P (get_or (d ∷ rest) p 0) leader (d ∷ rest) → IsHighest (map (strength NoTrump (suit_of d)) (d ∷ rest)) (length (d ∷ rest)) h → P (seat_after h leader) → ⊥
not_beaten P leader d rest p h low suit lower high among =
    let most = high.most p low in
    let at_p = get_or-map (strength NoTrump (suit_of d)) (d ∷ rest) p 0 0 low in
    let at_h = get_or-map (strength NoTrump (suit_of d)) (d ∷ rest) h 0 0 high.within in
    let own = suit_strength (suit_of d) (get_or (d ∷ rest) p 0) (sym suit) in
    elim (cases_Bool (same_suit (suit_of (get_or (d ∷ rest) h 0)) (suit_of d))) as (λ _. ⊥) [
      | inl e ↦ (let same : suit_of (get_or (d ∷ rest) h 0) ≡ suit_of d = same_suit-true (suit_of (get_or (d ∷ rest) h 0)) (suit_of d) e in
          let less = lower h high.within among (same ∙ suit) in
          let theirs = suit_strength (suit_of d) (get_or (d ∷ rest) h 0) same in
          omega arith)
      | inr e ↦ (let theirs = other_strength (suit_of d) (get_or (d ∷ rest) h 0) e in
          let some : 2 ≤ rank_of (get_or (d ∷ rest) p 0) = omega arith in
          omega arith)
    ]

-- none of these seats wins a trick in which another card of the suit led is higher than theirs
pub not_won_by : (P : Seat → Type 0) (leader : Seat) (cards : List ℕ) (p : ℕ) → p < length cards → suit_of (get_or cards 0 0) ≡ suit_of (get_or cards p 0)
    → AreLowerAt P (get_or cards p 0) leader cards → P (winner_of NoTrump (record { leader = leader; cards = cards })) → ⊥
not_won_by P leader [] p low suit lower won = absurd (omega arith)
not_won_by P leader (d ∷ rest) p low suit lower won =
    let best : (h : ℕ) × IsHighest (map (strength NoTrump (suit_of d)) (d ∷ rest)) (length (d ∷ rest)) h = highest_in (map (strength NoTrump (suit_of d)) (d ∷ rest)) (length rest) in
    not_beaten P leader d rest p best.0 low suit lower best.1 (subst P (winner_from_highest NoTrump leader (d ∷ rest) best.0 (omega arith) best.1) won)

other_side_wins : (b : Bool) (leader : Seat) (cards : List ℕ) (p : ℕ) → p < length cards → suit_of (get_or cards 0 0) ≡ suit_of (get_or cards p 0)
    → AreLowerIn b (get_or cards p 0) leader cards → is_declarers (winner_of NoTrump (record { leader = leader; cards = cards })) ≡ not b
other_side_wins b leader cards p low suit lower =
    elim (sides (is_declarers (winner_of NoTrump (record { leader = leader; cards = cards }))) b) as (λ _. is_declarers (winner_of NoTrump (record { leader = leader; cards = cards })) ≡ not b) [
      | inl e ↦ absurd (not_won_by (λ seat. is_declarers seat ≡ b) leader cards p low suit lower e)
      | inr e ↦ e
    ]

-- ---- while the cards are played

pub kept_at : (t : PositionValue) (c k : ℕ) → k < length t.trick.cards → get_or (with_card t c) k 0 ≡ get_or t.trick.cards k 0
kept_at t c k before = get_or_append_left t.trick.cards (c ∷ []) 0 k before

pub last_at : (t : PositionValue) (c : ℕ) → get_or (with_card t c) (length t.trick.cards) 0 ≡ c
last_at t c = get_or-append_seam t.trick.cards c [] 0

-- a card of the suit led, above those of the side in the trick and in its hands, that lies in the trick or is still to come
pub record IsStopped (b : Bool) (w : ℕ) (s : State) : Type 0 where
  pub ok : IsState s
  pub on : 1 ≤ tricks_left s.position
  pub trumps : s.position.trump ≡ NoTrump
  pub some : 1 ≤ length s.position.trick.cards
  pub led : suit_of (get_or s.position.trick.cards 0 0) ≡ suit_of w
  pub trick : AreLowerIn b w s.position.trick.leader s.position.trick.cards
  pub hands : (seat : Seat) → is_declarers seat ≡ b → (c : ℕ) → has_card (hand_of s seat) c ≡ true → suit_of c ≡ suit_of w → rank_of c < rank_of w
  pub place : ℕ
  pub low : place < 4
  pub others : is_declarers (seat_after place s.position.trick.leader) ≡ not b
  pub there : ((place < length s.position.trick.cards) × (get_or s.position.trick.cards place 0 ≡ w))
      ⊎ ((length s.position.trick.cards ≤ place) × (has_card (hand_of s (seat_after place s.position.trick.leader)) w ≡ true))

module _ (b : Bool) (w : ℕ) (s : State) (st : IsStopped b w s) (c : ℕ) (legal : has_card (legal_in s) c ≡ true) where
  in_hand : has_card (hand_of s (to_play s.position)) c ≡ true
  in_hand = legal_cards-low s.position.trick.cards (hand_of s (to_play s.position)) c legal

  can : CanPlay s.position c
  can = legal_can_play s st.ok c legal

  lower_more : AreLowerIn b w s.position.trick.leader (with_card s.position c)
  lower_more k low side suit = elim (cases_lt k (length s.position.trick.cards)) as (λ _. rank_of (get_or (with_card s.position c) k 0) < rank_of w) [
    | inl before ↦ (let same = kept_at s.position c k before in
        subst (λ d. rank_of d < rank_of w) (sym same) (st.trick k before side (ap suit_of (sym same) ∙ suit)))
    | inr past ↦ (let e : k ≡ length s.position.trick.cards = omega (arith, low, past, cards_more s.position c) in
        let same : get_or (with_card s.position c) k 0 ≡ c = ap (λ i. get_or (with_card s.position c) i 0) e ∙ last_at s.position c in
        subst (λ d. rank_of d < rank_of w) (sym same)
        (st.hands (to_play s.position) (ap (λ i. is_declarers (seat_after i s.position.trick.leader)) (sym e) ∙ side) c in_hand (ap suit_of (sym same) ∙ suit)))
  ]

  led_more : suit_of (get_or (with_card s.position c) 0 0) ≡ suit_of w
  led_more = ap suit_of (kept_at s.position c 0 st.some) ∙ st.led

  -- where the card is now
  abbrev pub IsThere : Type 0
  IsThere = ((st.place < length (with_card s.position c)) × (get_or (with_card s.position c) st.place 0 ≡ w))
      ⊎ ((length (with_card s.position c) ≤ st.place) × (has_card (hand_of (after s c) (seat_after st.place s.position.trick.leader)) w ≡ true))

  stays_there : st.place < length s.position.trick.cards → get_or s.position.trick.cards st.place 0 ≡ w → IsThere
  stays_there before is = inl (omega (arith, before, cards_more s.position c), kept_at s.position c st.place before ∙ is)

  waits_there : length s.position.trick.cards < st.place → has_card (hand_of s (seat_after st.place s.position.trick.leader)) w ≡ true → IsThere
  waits_there later held = inr (
    omega (arith, later, cards_more s.position c),
    ap (λ (l : List ℕ). has_card l w) (hand_stays s c (seat_after st.place s.position.trick.leader) st.ok in_hand
        (seats_differ st.place (length s.position.trick.cards) s.position.trick.leader st.low (st.ok.sound.trick_short) (λ e. omega (arith, e, later)))) ∙ held,
  )

  comes_there : st.place ≡ length s.position.trick.cards → c ≡ w → IsThere
  comes_there e is = inl (omega (arith, e, cards_more s.position c), ap (λ i. get_or (with_card s.position c) i 0) e ∙ last_at s.position c ∙ is)

  trick_after : length s.position.trick.cards < 3 → (after s c).position.trick ≡ record { leader = s.position.trick.leader; cards = with_card s.position c }
  trick_after short = ap (λ (u : PositionValue). u.trick) (after_short s.position c short)

  stopped_on : length s.position.trick.cards < 3 → IsThere → IsStopped b w (after s c)
  stopped_on short there =
      let is = trick_after short in
      let tricks = tricks_within s.position c st.ok.sound can short in
      let on = st.on in
      record {
        ok = after-IsState s st.ok c legal;
        on = omega arith;
        trumps = after_card-trump s.position c ∙ st.trumps;
        some = subst (λ (t : TrickValue). 1 ≤ length t.cards) (sym is) (omega (arith, cards_more s.position c));
        led = subst (λ (t : TrickValue). suit_of (get_or t.cards 0 0) ≡ suit_of w) (sym is) led_more;
        trick = subst (λ (t : TrickValue). AreLowerIn b w t.leader t.cards) (sym is) lower_more;
        hands = λ seat side d held suit. st.hands seat side d (take_out-low c (hand_of s seat) d (sym (ap (λ (l : List ℕ). has_card l d) (hand_after s c seat)) ∙ held)) suit;
        place = st.place;
        low = st.low;
        others = subst (λ (t : TrickValue). is_declarers (seat_after st.place t.leader) ≡ not b) (sym is) st.others;
        there = subst (λ (t : TrickValue). ((st.place < length t.cards) × (get_or t.cards st.place 0 ≡ w)) ⊎ ((length t.cards ≤ st.place) × (has_card (hand_of (after s c) (seat_after st.place t.leader)) w ≡ true)))
            (sym is) there;
      }

  won : length s.position.trick.cards ≡ 3 → IsThere → is_declarers (winner_of s.position.trump (put_card s.position c).trick) ≡ not b
  won third there = elim there as (λ _. is_declarers (winner_of s.position.trump (put_card s.position c).trick) ≡ not b) [
    | inl at ↦ ap (λ (u : Trump). is_declarers (winner_of u (put_card s.position c).trick)) st.trumps
        ∙ other_side_wins b s.position.trick.leader (with_card s.position c) st.place at.0 (led_more ∙ ap suit_of (sym at.1))
        (subst (λ d. AreLowerIn b d s.position.trick.leader (with_card s.position c)) (sym at.1) lower_more)
    | inr at ↦ absurd (let past = at.0 in omega (arith, past, cards_more s.position c, third, st.low))
  ]

  -- what the card comes to, where the trick goes on and where it ends
  onward : IsThere → Suffices (not b) s.position 1
      → (length s.position.trick.cards < 3 → IsStopped b w (after s c) → Suffices (not b) (after s c).position 1 → makes (after s c) ≡ not b) → makes (after s c) ≡ not b
  onward there h again = elim (cases_lt (length s.position.trick.cards) 3) as (λ _. makes (after s c) ≡ not b) [
    | inl short ↦ again short (stopped_on short there) (suffices_within (not b) s.position c 1 st.ok.sound can short h)
    | inr past ↦ (let third : length s.position.trick.cards ≡ 3 = omega (arith, past, st.ok.sound.trick_short) in
        settled (after s c) (not b) (after-IsState s st.ok c legal) (suffices_after (not b) s.position c 0 st.ok.sound can third (won third there) h))
  ]

  more_there : length s.position.trick.cards < 3 → length (after s c).position.trick.cards ≡ suc (length s.position.trick.cards)
  more_there short = ap (λ (t : TrickValue). length t.cards) (trick_after short) ∙ cards_more s.position c

-- its holder plays it to the suit led
follow : (b : Bool) (w : ℕ) (s : State) (st : IsStopped b w s) → st.place ≡ length s.position.trick.cards
    → has_card (hand_of s (seat_after st.place s.position.trick.leader)) w ≡ true → has_card (legal_in s) w ≡ true
follow b w s st e held = go s.position.trick.cards st.some st.led (subst (λ i. has_card (hand_of s (seat_after i s.position.trick.leader)) w ≡ true) e held)
  where
    go : (cards : List ℕ) → 1 ≤ length cards → suit_of (get_or cards 0 0) ≡ suit_of w → has_card (hand_of s (to_play s.position)) w ≡ true
        → has_card (legal_cards cards (hand_of s (to_play s.position))) w ≡ true
    go [] some led mine = absurd (omega arith)
    go (d ∷ ds) some led mine = follows_legally d ds (hand_of s (to_play s.position)) w mine (sym led)

-- ---- card after card

pub stopped : (n : ℕ) (b : Bool) (w : ℕ) (s : State) → IsStopped b w s → 4 ≤ length s.position.trick.cards + n → Suffices (not b) s.position 1 → makes s ≡ not b
stopped zero b w s st few h = absurd (omega (arith, few, st.ok.sound.trick_short))
stopped (suc n) b w s st few h = elim st.there as (λ _. makes s ≡ not b) [
  | inl at ↦ by_each s (not b) st.ok (going s.position st.on) (λ c legal. onward b w s st c legal (stays_there b w s st c legal at.0 at.1) h
      (λ short st' h'. stopped n b w (after s c) st' (omega (arith, few, more_there b w s st c legal short)) h'))
  | inr at ↦ elim (cases_eq st.place (length s.position.trick.cards)) as (λ _. makes s ≡ not b) [
    | inl e ↦ (let legal : has_card (legal_in s) w ≡ true = follow b w s st e at.1 in
        by_card s (not b) w st.ok (going s.position st.on) (ap (λ i. is_declarers (seat_after i s.position.trick.leader)) (sym e) ∙ st.others) legal
        (onward b w s st w legal (comes_there b w s st w legal e refl) h
        (λ short st' h'. stopped n b w (after s w) st' (omega (arith, few, more_there b w s st w legal short)) h')))
    | inr differ ↦ by_each s (not b) st.ok (going s.position st.on) (λ c legal. onward b w s st c legal
        (waits_there b w s st c legal (let past = at.0 in omega (arith, past, differ)) at.1) h
        (λ short st' h'. stopped n b w (after s c) st' (omega (arith, few, more_there b w s st c legal short)) h'))
  ]
]

-- a card led to a suit that the other side heads
pub stop_led : (b : Bool) (w : ℕ) (s : State) → IsState s → 1 ≤ tricks_left s.position → s.position.trump ≡ NoTrump → s.position.trick.cards ≡ [] → is_declarers s.position.trick.leader ≡ b
    → (seat : Seat) × (is_declarers seat ≡ not b) × (has_card (hand_of s seat) w ≡ true)
    → ((seat : Seat) → is_declarers seat ≡ b → (c : ℕ) → has_card (hand_of s seat) c ≡ true → suit_of c ≡ suit_of w → rank_of c < rank_of w)
    → (c : ℕ) → has_card (legal_in s) c ≡ true → suit_of c ≡ suit_of w → Suffices (not b) s.position 1 → makes (after s c) ≡ not b
stop_led b w s ok on trumps none side holder highest c legal suit h =
    stopped 3 b w (after s c) is_stopped (omega (arith, more)) (suffices_within (not b) s.position c 1 ok.sound can short h)
  where
    empty : length s.position.trick.cards ≡ 0
    empty = ap (length {A = ℕ}) none

    short : length s.position.trick.cards < 3
    short = omega (arith, empty)

    can : CanPlay s.position c
    can = legal_can_play s ok c legal

    in_hand : has_card (hand_of s (to_play s.position)) c ≡ true
    in_hand = legal_cards-low s.position.trick.cards (hand_of s (to_play s.position)) c legal

    own : is_declarers (to_play s.position) ≡ b
    own = ap (λ (l : List ℕ). is_declarers (seat_after (length l) s.position.trick.leader)) none ∙ side

    first : get_or (s.position.trick.cards ++ c ∷ []) 0 0 ≡ c
    first = ap (λ (l : List ℕ). get_or (l ++ c ∷ []) 0 0) none

    is : (after s c).position.trick ≡ record { leader = s.position.trick.leader; cards = s.position.trick.cards ++ c ∷ [] }
    is = ap (λ (u : PositionValue). u.trick) (after_short s.position c short)

    more : length (after s c).position.trick.cards ≡ 1
    more = ap (λ (t : TrickValue). length t.cards) is ∙ ap (λ (l : List ℕ). length (l ++ c ∷ [])) none

    lower : AreLowerIn b w s.position.trick.leader (s.position.trick.cards ++ c ∷ [])
    lower i low among same =
        let count = cards_more s.position c in
        let zeroth : i ≡ 0 = omega (arith, low, count, empty) in
        subst (λ d. rank_of d < rank_of w) (sym (ap (λ j. get_or (s.position.trick.cards ++ c ∷ []) j 0) zeroth ∙ first)) (highest (to_play s.position) own c in_hand suit)

    is_stopped : IsStopped b w (after s c)
    is_stopped =
        let place = next_three s.position.trick.leader holder.0 (λ e. two_sides (is_declarers holder.0) b (ap is_declarers e ∙ side) holder.1) in
        let tricks = tricks_within s.position c ok.sound can short in
        record {
          ok = after-IsState s ok c legal;
          on = omega (arith, tricks, on);
          trumps = after_card-trump s.position c ∙ trumps;
          some = omega (arith, more);
          led = subst (λ (t : TrickValue). suit_of (get_or t.cards 0 0) ≡ suit_of w) (sym is) (ap suit_of first ∙ suit);
          trick = subst (λ (t : TrickValue). AreLowerIn b w t.leader t.cards) (sym is) lower;
          hands = λ seat among d held same. highest seat among d (take_out-low c (hand_of s seat) d (sym (ap (λ (l : List ℕ). has_card l d) (hand_after s c seat)) ∙ held)) same;
          place = place.0;
          low = place.2;
          others = subst (λ (t : TrickValue). is_declarers (seat_after place.0 t.leader) ≡ not b) (sym is) (ap is_declarers place.3 ∙ holder.1);
          there = inr (
            (let later = place.1 in omega (arith, later, more)),
            subst (λ (t : TrickValue). has_card (hand_of (after s c) (seat_after place.0 t.leader)) w ≡ true) (sym is)
                (subst (λ y. has_card (hand_of (after s c) y) w ≡ true) (sym place.3)
                (ap (λ (l : List ℕ). has_card l w) (hand_stays s c holder.0 ok in_hand (λ e. two_sides (is_declarers holder.0) b (ap is_declarers e ∙ own) holder.1)) ∙ holder.2)),
          );
        }
