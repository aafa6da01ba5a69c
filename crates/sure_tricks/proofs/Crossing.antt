-- A card led over to the partner's sure cards, at no trump.
use Rattle.std.proofs.Common.{◌≡◌, ◌≢◌, ◌⊎◌, ℕ, zero, suc, ◌<◌, ◌≤◌, Bool, true, false, not, eqb, List, [], ◌∷◌, ◌++◌, length, map, get_or, refl, sym, ap, ap₂, ◌∙◌, subst, inl, inr, arith}
use Rattle.std.proofs.lemmas.Bool.{cases_Bool, false≢true, and_parts}
use Rattle.card_sets.specs.declared.seat.Seat.{Seat}
use Rattle.card_sets.specs.declared.seat.Seat.TheVariants.{Declarer, Left, Dummy, Right}
use Rattle.card_sets.specs.Cards.{suit_of, rank_of, same_suit, card_of}
use Rattle.card_sets.specs.SetWords.{has_card, IsSubset}
use Rattle.card_sets.proofs.Sets.{has_card-filter, has_card-below, IsCardSet-filter, filter-none}
use Rattle.card_sets.proofs.SetCounts.{length-take_out}
use Rattle.card_sets.proofs.Suits.{same_suit-true, same_suit-refl, card_of-suit_of}
use Rattle.trick_rules.specs.declared.trump.Trump.{Trump}
use Rattle.trick_rules.specs.declared.trump.Trump.TheVariants.{NoTrump}
use Rattle.trick_rules.specs.Positions.{TrickValue, State, seat_after, to_play, IsState}
use Rattle.trick_rules.specs.Play.{take_out, put_card, after, hand_of, legal_in, legal_cards, of_suit, or_whole, is_declarers, strength, winner_of, makes}
use Rattle.trick_rules.proofs.CardLists.{has_card-take_out}
use Rattle.trick_rules.proofs.TrickLemmas.{IsHighest, winner_from_highest}
use Rattle.trick_rules.proofs.States.{legal_can_play, legal_cards-low}
use Rattle.sure_tricks.specs.Sure.{AreHigh, AreSafe}
use Rattle.sure_tricks.proofs.Holding.{IsLead, MayFollow, may_follow, lower, high_after, suit_test}
use Rattle.sure_tricks.proofs.Hands.{seats_differ, next_three, hand_after, hand_set, by_card, by_each, Suffices, suffices_within, suffices_after}
use Rattle.sure_tricks.proofs.Cash.{IsLeading, IsTrick, one_more, winner_leads, going, cash}
use Rattle.sure_tricks.proofs.Joint.{high-less, part_after, spare_card, partners_side}

-- ---- the trick, card by card

module _ (x : Seat) (s : State) (cards : List ℕ) (t : IsTrick x NoTrump s cards) where
  turn_is : to_play s.position ≡ seat_after (length cards) x
  turn_is = ap₂ (λ (n : ℕ) (seat : Seat). seat_after n seat) (ap (length {A = ℕ}) t.are) t.leads

  held_there : (c : ℕ) → has_card (legal_in s) c ≡ true → has_card (hand_of s (seat_after (length cards) x)) c ≡ true
  held_there c legal = subst (λ seat. has_card (hand_of s seat) c ≡ true) turn_is
      (legal_cards-low s.position.trick.cards (hand_of s (to_play s.position)) c legal)

-- a card of the suit led is legal
pub follows_legally : (led : ℕ) (ds hand : List ℕ) (c : ℕ) → has_card hand c ≡ true → suit_of c ≡ suit_of led → has_card (legal_cards (led ∷ ds) hand) c ≡ true
follows_legally led ds hand c held suit = go (of_suit (suit_of led) hand) (has_card-filter (λ d. same_suit (suit_of d) (suit_of led)) hand c ∙ rw (held, suit_test c (suit_of led) suit) refl)
  where
    go : (part : List ℕ) → has_card part c ≡ true → has_card (or_whole part hand) c ≡ true
    go [] h = absurd (false≢true h)
    go (y ∷ ys) h = h

-- ---- who wins it

-- a card played to a sure card's suit is weaker
weaker_yet : (theirs : List ℕ) (t : ℕ) → IsLead NoTrump theirs t → (hand : List ℕ) → AreHigh theirs hand → (c : ℕ) → has_card hand c ≡ true → c < 52 → t < 52
    → strength NoTrump (suit_of t) c < strength NoTrump (suit_of t) t
weaker_yet theirs t lead hand high c held low_c low_t = elim (cases_Bool (same_suit (suit_of c) (suit_of t))) as (λ _. strength NoTrump (suit_of t) c < strength NoTrump (suit_of t) t) [
  | inl e ↦ (let same : suit_of c ≡ suit_of t = same_suit-true (suit_of c) (suit_of t) e in
      let less = lower NoTrump theirs t lead hand high c held same in
      let mine : card_of (suit_of t) (rank_of t) ≡ t = card_of-suit_of t low_t in
      let its : card_of (suit_of t) (rank_of c) ≡ c = ap (λ u. card_of u (rank_of c)) (sym same) ∙ card_of-suit_of c low_c in
      rw (e, same_suit-refl (suit_of t)) (omega (arith, less, mine, its)))
  | inr e ↦ rw (e, same_suit-refl (suit_of t)) (omega arith)
]

third_wins : (x : Seat) (a b t d : ℕ) → suit_of a ≡ suit_of t → strength NoTrump (suit_of t) a < strength NoTrump (suit_of t) t → strength NoTrump (suit_of t) b < strength NoTrump (suit_of t) t
    → strength NoTrump (suit_of t) d < strength NoTrump (suit_of t) t → winner_of NoTrump (record { leader = x; cards = a ∷ b ∷ t ∷ d ∷ [] }) ≡ seat_after 2 x
third_wins x a b t d suit p q r = winner_from_highest NoTrump x (a ∷ b ∷ t ∷ d ∷ []) 2 (omega arith)
    (subst (λ u. IsHighest (map (strength NoTrump u) (a ∷ b ∷ t ∷ d ∷ [])) 4 2) (sym suit) (record { within = omega arith; most = most; first = first }))
  where
    most : (k : ℕ) → k < 4 → get_or (map (strength NoTrump (suit_of t)) (a ∷ b ∷ t ∷ d ∷ [])) k 0 ≤ strength NoTrump (suit_of t) t
    most zero h = omega arith
    most (suc zero) h = omega arith
    most (suc (suc zero)) h = omega arith
    most (suc (suc (suc zero))) h = omega arith
    most (suc (suc (suc (suc k)))) h = absurd (omega arith)

    first : (k : ℕ) → k < 2 → get_or (map (strength NoTrump (suit_of t)) (a ∷ b ∷ t ∷ d ∷ [])) k 0 < strength NoTrump (suit_of t) t
    first zero h = p
    first (suc zero) h = q
    first (suc (suc k)) h = absurd (omega arith)

-- ---- the partner leads next

twice_round : (x : Seat) → seat_after 2 (seat_after 2 x) ≡ x
twice_round Declarer = refl
twice_round Left = refl
twice_round Dummy = refl
twice_round Right = refl

once_round : (x : Seat) → seat_after 3 (seat_after 2 x) ≡ seat_after 1 x
once_round Declarer = refl
once_round Left = refl
once_round Dummy = refl
once_round Right = refl

-- no trump is safe
pub safe_at_no_trump : (sure hand : List ℕ) → AreSafe NoTrump sure hand
safe_at_no_trump sure hand = let none = ap (length {A = ℕ}) (filter-none (λ c. false) hand (λ c h. refl)) in inl (omega arith)

module _ (x : Seat) (theirs : List ℕ) (t : ℕ) (lead : IsLead NoTrump theirs t) (link : ℕ) (suit : suit_of link ≡ suit_of t) where
  to_their_suit : (hand : List ℕ) (c : ℕ) → MayFollow link hand c → MayFollow t hand c
  to_their_suit hand c may = record {
    held = may.held;
    suit = subst (λ u. (suit_of c ≡ u) ⊎ ((d : ℕ) → has_card hand d ≡ true → same_suit (suit_of d) u ≡ false)) suit may.suit;
  }

  -- what a seat may play to it
  may_play : (s : State) (ds : List ℕ) → IsTrick x NoTrump s (link ∷ ds) → (c : ℕ) → has_card (legal_in s) c ≡ true → MayFollow t (hand_of s (seat_after (suc (length ds)) x)) c
  may_play s ds tr c legal = to_their_suit (hand_of s (seat_after (suc (length ds)) x)) c
      (may_follow link ds (hand_of s (seat_after (suc (length ds)) x)) c
      (subst (λ seat. has_card (legal_cards (link ∷ ds) (hand_of s seat)) c ≡ true) (turn_is x s (link ∷ ds) tr)
      (subst (λ (l : List ℕ). has_card (legal_cards l (hand_of s (to_play s.position))) c ≡ true) tr.are legal)))

  -- a hand that has played, and one that hasn't, after another card
  still : (s : State) (c : ℕ) (y : Seat) (cards : List ℕ) → AreHigh cards (hand_of s y) → AreHigh cards (hand_of (after s c) y)
  still s c y cards high = subst (AreHigh cards) (sym (hand_after s c y)) (high-less cards (hand_of s y) c high)

  -- a hand that plays
  plays : (s : State) (c : ℕ) (y : Seat) → IsState s → MayFollow t (hand_of s y) c → AreHigh theirs (hand_of s y) → AreHigh (take_out t theirs) (hand_of (after s c) y)
  plays s c y ok may high = subst (AreHigh (take_out t theirs)) (sym (hand_after s c y)) (high_after NoTrump theirs t lead (hand_of s y) (hand_set s ok y) c may high)

  -- the partner's cards stay
  stays : (s : State) (c : ℕ) (part : List ℕ) → IsSubset part (hand_of s (seat_after 2 x)) → has_card part c ≡ false → IsSubset part (hand_of (after s c) (seat_after 2 x))
  stays s c part held spare d h = ap (λ (l : List ℕ). has_card l d) (hand_after s c (seat_after 2 x)) ∙ part_after part (hand_of s (seat_after 2 x)) c held spare d h

  low_t : t < 52
  low_t = has_card-below theirs t lead.set lead.among

  weak : (s : State) (c : ℕ) (y : Seat) → IsState s → AreHigh theirs (hand_of s y) → has_card (hand_of s y) c ≡ true → strength NoTrump (suit_of t) c < strength NoTrump (suit_of t) t
  weak s c y ok high held = weaker_yet theirs t lead (hand_of s y) high c held (has_card-below (hand_of s y) c (hand_set s ok y) held) low_t

  -- after all four cards
  ended : (s : State) (c1 c3 : ℕ) → IsTrick x NoTrump s (link ∷ c1 ∷ t ∷ []) → has_card (legal_in s) c3 ≡ true
      → strength NoTrump (suit_of t) link < strength NoTrump (suit_of t) t → strength NoTrump (suit_of t) c1 < strength NoTrump (suit_of t) t
      → AreHigh theirs (hand_of s (seat_after 3 x)) → AreHigh (take_out t theirs) (hand_of s x) → AreHigh (take_out t theirs) (hand_of s (seat_after 1 x))
      → IsSubset (take_out t theirs) (hand_of s (seat_after 2 x)) → (winner_of s.position.trump (put_card s.position c3).trick ≡ seat_after 2 x) × IsLeading (seat_after 2 x) NoTrump (after s c3) (take_out t theirs)
  ended s c1 c3 tr l3 weak_link weak_1 high_3 done_x done_1 held = (
    wins,
    winner_leads x NoTrump s (link ∷ c1 ∷ t ∷ []) tr c3 l3 (seat_after 2 x) (take_out t theirs) refl wins (IsCardSet-filter (λ d. not (eqb d t)) theirs lead.set)
        (stays s c3 (take_out t theirs) held (spare_card s tr.ok (seat_after 3 x) (seat_after 2 x) (take_out t theirs) c3 (seats_differ 3 2 x (omega arith) (omega arith) (λ e. omega arith)) held_3 held))
        (λ y differ. let at = next_three (seat_after 2 x) y differ in subst (λ seat. AreHigh (take_out t theirs) (hand_of (after s c3) seat)) at.3 (each at.0 at.1 at.2))
        (λ y differ. safe_at_no_trump (take_out t theirs) (hand_of (after s c3) y)),
  )
    where
      held_3 : has_card (hand_of s (seat_after 3 x)) c3 ≡ true
      held_3 = held_there x s (link ∷ c1 ∷ t ∷ []) tr c3 l3

      wins : winner_of s.position.trump (put_card s.position c3).trick ≡ seat_after 2 x
      wins = ap₂ (λ (u : Trump) (k : TrickValue). winner_of u k) tr.trumps
          (ap₂ (λ (seat : Seat) (l : List ℕ). record { leader = seat; cards = l }) tr.leads (ap (λ (l : List ℕ). l ++ c3 ∷ []) tr.are))
          ∙ third_wins x link c1 t c3 suit weak_link weak_1 (weak s c3 (seat_after 3 x) tr.ok high_3 held_3)

      each : (i : ℕ) → 1 ≤ i → i < 4 → AreHigh (take_out t theirs) (hand_of (after s c3) (seat_after i (seat_after 2 x)))
      each zero some low = absurd (omega arith)
      each (suc zero) some low = plays s c3 (seat_after 3 x) tr.ok (may_play s (c1 ∷ t ∷ []) tr c3 l3) high_3
      each (suc (suc zero)) some low = subst (λ seat. AreHigh (take_out t theirs) (hand_of (after s c3) seat)) (sym (twice_round x)) (still s c3 x (take_out t theirs) done_x)
      each (suc (suc (suc zero))) some low = subst (λ seat. AreHigh (take_out t theirs) (hand_of (after s c3) seat)) (sym (once_round x)) (still s c3 (seat_after 1 x) (take_out t theirs) done_1)
      each (suc (suc (suc (suc i)))) some low = absurd (omega arith)

  pub crossing : (s : State) → IsTrick x NoTrump s [] → IsSubset theirs (hand_of s (seat_after 2 x)) → ((y : Seat) → y ≢ seat_after 2 x → AreHigh theirs (hand_of s y))
      → has_card (hand_of s x) link ≡ true → Suffices (is_declarers x) s.position (length theirs) → makes s ≡ is_declarers x
  crossing s led held high linked h =
      let b = is_declarers x in
      let more = length-take_out theirs t lead.set lead.among in
      let k = length (take_out t theirs) in
      let z = seat_after 2 x in
      let x_not_z : x ≢ seat_after 2 x = seats_differ 0 2 x (omega arith) (omega arith) (λ e. omega arith) in
      let y1_not_z : seat_after 1 x ≢ seat_after 2 x = seats_differ 1 2 x (omega arith) (omega arith) (λ e. omega arith) in
      let y3_not_z : seat_after 3 x ≢ seat_after 2 x = seats_differ 3 2 x (omega arith) (omega arith) (λ e. omega arith) in
      let legal : has_card (legal_in s) link ≡ true = ap₂ (λ (l : List ℕ) (seat : Seat). has_card (legal_cards l (hand_of s seat)) link) led.are (turn_is x s [] led) ∙ linked in
      let short0 = ap (length {A = ℕ}) led.are in
      let h0 : Suffices b s.position (suc k) = subst (λ n. Suffices b s.position n) (omega arith) h in
      let h1 = suffices_within b s.position link (suc k) led.ok.sound (legal_can_play s led.ok link legal) (omega arith) h0 in
      let t1 = one_more x NoTrump s [] led link legal (omega arith) in
      let spare = spare_card s led.ok x (seat_after 2 x) theirs link x_not_z linked held in
      let held1 = stays s link theirs held spare in
      let done_x = plays s link x led.ok (record { held = linked; suit = inl suit }) (high x x_not_z) in
      by_card s b link led.ok (going s.position led.on) (ap is_declarers (turn_is x s [] led)) legal
      (by_each (after s link) b t1.ok (going (after s link).position t1.on) (λ c1 l1.
      let s1 = after s link in
      let held_1 = held_there x s1 (link ∷ []) t1 c1 l1 in
      let high_1 = still s link (seat_after 1 x) theirs (high (seat_after 1 x) y1_not_z) in
      let t2 = one_more x NoTrump s1 (link ∷ []) t1 c1 l1 (omega arith) in
      let short1 = ap (length {A = ℕ}) t1.are in
      let h2 = suffices_within b s1.position c1 (suc k) t1.ok.sound (legal_can_play s1 t1.ok c1 l1) (omega arith) h1 in
      let s2 = after s1 c1 in
      let held2 = stays s1 c1 theirs held1 (spare_card s1 t1.ok (seat_after 1 x) (seat_after 2 x) theirs c1 y1_not_z held_1 held1) in
      let legal_t : has_card (legal_in s2) t ≡ true = ap₂ (λ (l : List ℕ) (seat : Seat). has_card (legal_cards l (hand_of s2 seat)) t) t2.are (turn_is x s2 (link ∷ c1 ∷ []) t2)
      ∙ follows_legally link (c1 ∷ []) (hand_of s2 (seat_after 2 x)) t (held2 t lead.among) (sym suit) in
      let t3 = one_more x NoTrump s2 (link ∷ c1 ∷ []) t2 t legal_t (omega arith) in
      let short2 = ap (length {A = ℕ}) t2.are in
      let h3 = suffices_within b s2.position t (suc k) t2.ok.sound (legal_can_play s2 t2.ok t legal_t) (omega arith) h2 in
      by_card s2 b t t2.ok (going s2.position t2.on) (ap is_declarers (turn_is x s2 (link ∷ c1 ∷ []) t2) ∙ partners_side x) legal_t
      (by_each (after s2 t) b t3.ok (going (after s2 t).position t3.on) (λ c3 l3.
      let s3 = after s2 t in
      let held3 : IsSubset (take_out t theirs) (hand_of s3 (seat_after 2 x)) = taken s2 held2 in
      let e = ended s3 c1 c3 t3 l3 (weak s link x led.ok (high x x_not_z) linked) (weak s1 c1 (seat_after 1 x) t1.ok high_1 held_1)
      (still s2 t (seat_after 3 x) theirs (still s1 c1 (seat_after 3 x) theirs (still s link (seat_after 3 x) theirs (high (seat_after 3 x) y3_not_z))))
      (still s2 t x (take_out t theirs) (still s1 c1 x (take_out t theirs) done_x))
      (still s2 t (seat_after 1 x) (take_out t theirs) (plays s1 c1 (seat_after 1 x) t1.ok (may_play s1 [] t1 c1 l1) high_1))
      held3 in
      let h4 = suffices_after b s3.position c3 k t3.ok.sound (legal_can_play s3 t3.ok c3 l3) (ap (length {A = ℕ}) t3.are) (ap is_declarers e.0 ∙ partners_side x) h3 in
      cash k (seat_after 2 x) NoTrump (after s3 c3) (take_out t theirs) e.1 refl (subst (λ (c : Bool). Suffices c (after s3 c3).position k) (sym (partners_side x)) h4) ∙ partners_side x))))
    where
      taken : (s2 : State) → IsSubset theirs (hand_of s2 (seat_after 2 x)) → IsSubset (take_out t theirs) (hand_of (after s2 t) (seat_after 2 x))
      taken s2 held2 d h =
          let both = and_parts (has_card theirs d) (not (eqb d t)) (sym (has_card-take_out t theirs d) ∙ h) in
          ap (λ (l : List ℕ). has_card l d) (hand_after s2 t (seat_after 2 x)) ∙ has_card-take_out t (hand_of s2 (seat_after 2 x)) d ∙ rw (held2 d both.0, both.1) refl
