-- A hand that heads the suit led takes the trick, and then one with each of its sure cards.
use Rattle.std.proofs.Common.{◌≡◌, ◌≢◌, ◌⊎◌, ℕ, zero, suc, ◌+◌, ◌<◌, ◌≤◌, Bool, true, false, eqb, cond, List, [], ◌∷◌, ◌++◌, length, map, get_or, refl, sym, ap, ap₂, ◌∙◌, subst, inl, inr, arith}
use Rattle.std.proofs.lemmas.Bool.{cases_Bool, cases_eq, cases_lt, ne_eqb, false≢true}
use Rattle.std.proofs.lemmas.List.{get_or-map, get_or_append_left, get_or_push}
use Rattle.card_sets.specs.declared.seat.Seat.{Seat}
use Rattle.card_sets.specs.Cards.{suit_of, rank_of, same_suit, card_of}
use Rattle.card_sets.specs.SetWords.{has_card, IsCardSet, IsSubset}
use Rattle.card_sets.proofs.Sets.{has_card-below, IsCardSet-cards_where}
use Rattle.card_sets.proofs.SetCounts.{cards_where-one, has_card-length}
use Rattle.card_sets.proofs.Suits.{card_of-suit_of, same_suit-refl}
use Rattle.trick_rules.specs.declared.trump.Trump.{Trump}
use Rattle.trick_rules.specs.Positions.{PositionValue, State, seat_after, to_play, tricks_left, IsState}
use Rattle.trick_rules.specs.Play.{put_card, after, hand_of, legal_in, legal_cards, is_declarers, is_trump, strength, winner_of, CanPlay, makes}
use Rattle.trick_rules.proofs.CardLists.{has_card-take_out, first_has}
use Rattle.trick_rules.proofs.TrickLemmas.{IsHighest, same_strength, led_strong, winner_from_highest}
use Rattle.trick_rules.proofs.States.{after-IsState, legal_can_play, legal_cards-low, hand_length, cards_more}
use Rattle.trick_rules.proofs.Soundness.{after_short, after_third}
use Rattle.sure_tricks.specs.Sure.{AreHigh, AreSafe, AreSure}
use Rattle.sure_tricks.specs.Headed.{HeadsSuitLed, AreBeyondRuffs}
use Rattle.sure_tricks.proofs.Holding.{IsLead, MayFollow, may_follow, lower, weaker, suit_test, trump_of_suit}
use Rattle.sure_tricks.proofs.Hands.{seats_differ, next_three, hand_after, hand_stays, hand_set, by_card, by_each, Suffices, tricks_within, suffices_within, suffices_after}
use Rattle.sure_tricks.proofs.Cash.{IsLeading, going, cash}
use Rattle.sure_tricks.proofs.Joint.{high-less, part_after, spare_card}
use Rattle.sure_tricks.proofs.Crossing.{follows_legally, safe_at_no_trump}

-- ---- one card

pub only : (w c : ℕ) → has_card (w ∷ []) c ≡ true → c ≡ w
only w c h = elim (cases_eq w c) as (λ _. c ≡ w) [
  | inl e ↦ sym e
  | inr differ ↦ absurd (false≢true (rw (ne_eqb w c differ) at h))
]

one_lead : (trump : Trump) (w : ℕ) → w < 52 → IsLead trump (w ∷ []) w
one_lead trump w low = record {
  set = subst IsCardSet (cards_where-one w low) (IsCardSet-cards_where (λ d. eqb d w));
  among = first_has w [];
  top = λ v mem suit. (let e = only w v mem in omega arith);
  first = elim (cases_Bool (is_trump trump w)) as (λ _. (is_trump trump w ≡ true) ⊎ ((v : ℕ) → has_card (w ∷ []) v ≡ true → is_trump trump v ≡ false)) [
    | inl e ↦ inl e
    | inr e ↦ inr (λ v mem. ap (is_trump trump) (only w v mem) ∙ e)
  ];
}

-- a lower card of the suit is weaker
led_weaker : (trump : Trump) (c w : ℕ) → c < 52 → w < 52 → suit_of c ≡ suit_of w → c < w → strength trump (suit_of w) c < strength trump (suit_of w) w
led_weaker trump c w low_c low_w same less =
    let mine : card_of (suit_of w) (rank_of w) ≡ w = card_of-suit_of w low_w in
    let theirs : card_of (suit_of w) (rank_of c) ≡ c = ap (λ x. card_of x (rank_of c)) (sym same) ∙ card_of-suit_of c low_c in
    rw (trump_of_suit trump c w same, suit_test c (suit_of w) same, same_suit-refl (suit_of w)) (numbers (is_trump trump w) (rank_of c) (rank_of w) (omega (arith, less, mine, theirs)))
  where
    numbers : (t : Bool) (rc rw : ℕ) → rc < rw → cond t (20 + rc) (cond true rc 0) < cond t (20 + rw) (cond true rw 0)
    numbers true rc rw h = omega arith
    numbers false rc rw h = h

-- so is what a hand against which the card is high and safe may play to it
other_weaker : (trump : Trump) (w : ℕ) (hand : List ℕ) → IsCardSet hand → (c : ℕ) → MayFollow w hand c → AreHigh (w ∷ []) hand → AreSafe trump (w ∷ []) hand → w < 52
    → strength trump (suit_of w) c < strength trump (suit_of w) w
other_weaker trump w hand set c may high safe low_w =
    let low_c = has_card-below hand c set may.held in
    let lead = one_lead trump w low_w in
    let most = weaker trump (w ∷ []) w lead hand set c may high safe low_c low_w in
    let strong = led_strong trump w in
    elim (cases_lt (strength trump (suit_of w) c) (strength trump (suit_of w) w)) as (λ _. strength trump (suit_of w) c < strength trump (suit_of w) w) [
      | inl less ↦ less
      | inr more ↦
          (let same : c ≡ w = same_strength trump (suit_of w) c w low_c low_w (omega arith) (omega arith) in
          let under = lower trump (w ∷ []) w lead hand high c may.held (ap suit_of same) in
          absurd (omega arith))
    ]

-- cards that nobody can ruff are safe
pub safe_beyond : (trump : Trump) (sure : List ℕ) → AreBeyondRuffs trump sure → (hand : List ℕ) → AreSafe trump sure hand
safe_beyond trump sure beyond hand = elim beyond as (λ _. AreSafe trump sure hand) [
  | inl none ↦ subst (λ t. AreSafe t sure hand) (sym none) (safe_at_no_trump sure hand)
  | inr trumps ↦ inr (λ card mem side. absurd (false≢true (sym side ∙ trumps card mem)))
]

-- ---- within the trick

module _ (L : Seat) (m : ℕ) (trump : Trump) (w : ℕ) (sure : List ℕ) where
  pub record IsHeading (s : State) (j : ℕ) : Type 0 where
    pub ok : IsState s
    pub on : 1 ≤ tricks_left s.position
    pub leads : s.position.trick.leader ≡ L
    pub trumps : s.position.trump ≡ trump
    pub led : ℕ
    pub others : List ℕ
    pub cards : s.position.trick.cards ≡ led ∷ others
    pub suit : suit_of led ≡ suit_of w
    pub count : length s.position.trick.cards ≡ j
    pub weak : (k : ℕ) → k < j → k ≢ m → strength trump (suit_of w) (get_or s.position.trick.cards k 0) < strength trump (suit_of w) w
    pub mine : m < j → get_or s.position.trick.cards m 0 ≡ w
    pub held : j ≤ m → has_card (hand_of s (seat_after m L)) w ≡ true
    pub rest : IsSubset sure (hand_of s (seat_after m L))
    pub to_come : (i : ℕ) → j ≤ i → i < 4 → i ≢ m → AreHigh (w ∷ []) (hand_of s (seat_after i L)) × AreSafe trump (w ∷ []) (hand_of s (seat_after i L))
    pub high : (y : Seat) → y ≢ seat_after m L → AreHigh sure (hand_of s y)

  module _ (low_w : w < 52) (low_m : m < 4) (set : IsCardSet sure) (apart : has_card sure w ≡ false) (beyond : AreBeyondRuffs trump sure) where
    module _ (s : State) (j : ℕ) (f : IsHeading s j) (past : 1 ≤ j) (short : j < 4) where
      turn : to_play s.position ≡ seat_after j L
      turn = ap₂ (λ (n : ℕ) (seat : Seat). seat_after n seat) f.count f.leads

      -- what each card of the next seat comes to
      module _ (c : ℕ) (legal : has_card (legal_in s) c ≡ true) (weak_c : j ≢ m → strength trump (suit_of w) c < strength trump (suit_of w) w) (mine_c : j ≡ m → c ≡ w) (spare : has_card sure c ≡ false) where
        in_hand : has_card (hand_of s (to_play s.position)) c ≡ true
        in_hand = legal_cards-low s.position.trick.cards (hand_of s (to_play s.position)) c legal

        can : CanPlay s.position c
        can = legal_can_play s f.ok c legal

        all_weak : (k : ℕ) → k < suc j → k ≢ m → strength trump (suit_of w) (get_or (s.position.trick.cards ++ c ∷ []) k 0) < strength trump (suit_of w) w
        all_weak k low other = elim (cases_lt k j) as (λ _. strength trump (suit_of w) (get_or (s.position.trick.cards ++ c ∷ []) k 0) < strength trump (suit_of w) w) [
          | inl before ↦ (let count = f.count in let e = ap (strength trump (suit_of w)) (get_or_append_left s.position.trick.cards (c ∷ []) 0 k (omega arith)) in let less = f.weak k before other in omega arith)
          | inr last ↦ (let count = f.count in let is : k ≡ j = omega arith in
              let e = ap (strength trump (suit_of w)) (get_or_push s.position.trick.cards c 0 k (omega arith)) in let less = weak_c (λ h. other (is ∙ h)) in omega arith)
        ]

        all_mine : m < suc j → get_or (s.position.trick.cards ++ c ∷ []) m 0 ≡ w
        all_mine low = elim (cases_lt m j) as (λ _. get_or (s.position.trick.cards ++ c ∷ []) m 0 ≡ w) [
          | inl before ↦ (let count = f.count in get_or_append_left s.position.trick.cards (c ∷ []) 0 m (omega arith) ∙ f.mine before)
          | inr last ↦ (let count = f.count in let is : j ≡ m = omega arith in get_or_push s.position.trick.cards c 0 m (omega arith) ∙ mine_c is)
        ]

        still_held : suc j ≤ m → has_card (hand_of (after s c) (seat_after m L)) w ≡ true
        still_held before =
            let less = weak_c (λ e. omega arith) in
            let differs : eqb w c ≡ false = ne_eqb w c (λ e. let same = ap (strength trump (suit_of w)) e in omega arith) in
            ap (λ (l : List ℕ). has_card l w) (hand_after s c (seat_after m L)) ∙ has_card-take_out c (hand_of s (seat_after m L)) w ∙ rw (f.held (omega arith), differs) refl

        rest_held : IsSubset sure (hand_of (after s c) (seat_after m L))
        rest_held d h = ap (λ (l : List ℕ). has_card l d) (hand_after s c (seat_after m L)) ∙ part_after sure (hand_of s (seat_after m L)) c f.rest spare d h

        stays : (i : ℕ) → i < 4 → i ≢ j → hand_of (after s c) (seat_after i L) ≡ hand_of s (seat_after i L)
        stays i low differ = hand_stays s c (seat_after i L) f.ok in_hand (λ e. seats_differ i j L low short differ (e ∙ turn))

        still_high : (y : Seat) → y ≢ seat_after m L → AreHigh sure (hand_of (after s c) y)
        still_high y differ = subst (AreHigh sure) (sym (hand_after s c y)) (high-less sure (hand_of s y) c (f.high y differ))

        stepped : j < 3 → IsHeading (after s c) (suc j)
        stepped within =
            let count = f.count in
            let is = after_short s.position c (omega arith) in
            let tricks = tricks_within s.position c f.ok.sound can (omega arith) in
            let on = f.on in
            let now : (after s c).position.trick.cards ≡ s.position.trick.cards ++ c ∷ [] = ap (λ (u : PositionValue). u.trick.cards) is in
            record {
              ok = after-IsState s f.ok c legal;
              on = omega arith;
              leads = ap (λ (u : PositionValue). u.trick.leader) is ∙ f.leads;
              trumps = ap (λ (u : PositionValue). u.trump) is ∙ f.trumps;
              led = f.led;
              others = f.others ++ c ∷ [];
              cards = now ∙ ap (λ (l : List ℕ). l ++ c ∷ []) f.cards;
              suit = f.suit;
              count = ap (length {A = ℕ}) now ∙ cards_more s.position c ∙ ap suc f.count;
              weak = λ k low other. subst (λ (l : List ℕ). strength trump (suit_of w) (get_or l k 0) < strength trump (suit_of w) w) (sym now) (all_weak k low other);
              mine = λ low. ap (λ (l : List ℕ). get_or l m 0) now ∙ all_mine low;
              held = still_held;
              rest = rest_held;
              to_come = λ i more low other. subst (λ (h : List ℕ). AreHigh (w ∷ []) h × AreSafe trump (w ∷ []) h) (sym (stays i low (λ e. omega arith))) (f.to_come i (omega arith) low other);
              high = still_high;
            }

        highest : j ≡ 3 → IsHighest (map (strength trump (suit_of (get_or (s.position.trick.cards ++ c ∷ []) 0 0))) (s.position.trick.cards ++ c ∷ [])) (length (s.position.trick.cards ++ c ∷ [])) m
        highest last =
            let xs = s.position.trick.cards ++ c ∷ [] in
            let count = f.count in
            let more = cards_more s.position c in
            let here : get_or xs m 0 ≡ w = all_mine (omega arith) in
            let led : suit_of w ≡ suit_of (get_or xs 0 0) = sym (ap (λ (l : List ℕ). suit_of (get_or (l ++ c ∷ []) 0 0)) f.cards ∙ f.suit) in
            let at : (k : ℕ) → k < length xs → get_or (map (strength trump (suit_of w)) xs) k 0 ≡ strength trump (suit_of w) (get_or xs k 0) = λ k low. get_or-map (strength trump (suit_of w)) xs k 0 0 low in
            let top : get_or (map (strength trump (suit_of w)) xs) m 0 ≡ strength trump (suit_of w) w = at m (omega arith) ∙ ap (strength trump (suit_of w)) here in
            let less : (k : ℕ) → k < length xs → k ≢ m → get_or (map (strength trump (suit_of w)) xs) k 0 < get_or (map (strength trump (suit_of w)) xs) m 0 =
            (λ k low other. let one = at k low in let two = all_weak k (omega arith) other in omega arith) in
            subst (λ u. IsHighest (map (strength trump u) xs) (length xs) m) led (record {
              within = omega arith;
              most = λ k low. elim (cases_eq k m) as (λ _. get_or (map (strength trump (suit_of w)) xs) k 0 ≤ get_or (map (strength trump (suit_of w)) xs) m 0) [
                | inl e ↦ (let same = ap (λ i. get_or (map (strength trump (suit_of w)) xs) i 0) e in omega arith)
                | inr other ↦ (let under = less k low other in omega arith)
              ];
              first = λ k low. less k (omega arith) (λ e. omega arith);
            })

        wins : j ≡ 3 → winner_of s.position.trump (put_card s.position c).trick ≡ seat_after m L
        wins last = ap₂ (λ (t : Trump) (seat : Seat). winner_of t (record { leader = seat; cards = s.position.trick.cards ++ c ∷ [] })) f.trumps f.leads
            ∙ winner_from_highest trump L (s.position.trick.cards ++ c ∷ []) m (let more = cards_more s.position c in omega arith) (highest last)

        ended : j ≡ 3 → IsLeading (seat_after m L) trump (after s c) sure
        ended last =
            let is = after_third s.position c (f.count ∙ last) in
            record {
              ok = after-IsState s f.ok c legal;
              leads = ap (λ (u : PositionValue). u.trick.leader) is ∙ wins last;
              none = ap (λ (u : PositionValue). u.trick.cards) is;
              trumps = ap (λ (u : PositionValue). u.trump) is ∙ f.trumps;
              set = set;
              held = rest_held;
              high = still_high;
              safe = λ y differ. safe_beyond trump sure beyond (hand_of (after s c) y);
            }

      -- the seat's own card
      own_legal : j ≡ m → has_card (legal_in s) w ≡ true
      own_legal is = ap₂ (λ (l : List ℕ) (seat : Seat). has_card (legal_cards l (hand_of s seat)) w) f.cards (turn ∙ ap (λ i. seat_after i L) is)
          ∙ follows_legally f.led f.others (hand_of s (seat_after m L)) w (f.held (omega arith)) (sym f.suit)

      -- another seat's
      held_there : (c : ℕ) → has_card (legal_in s) c ≡ true → has_card (hand_of s (seat_after j L)) c ≡ true
      held_there c legal = subst (λ seat. has_card (hand_of s seat) c ≡ true) turn (legal_cards-low s.position.trick.cards (hand_of s (to_play s.position)) c legal)

      others_weaker : (c : ℕ) → has_card (legal_in s) c ≡ true → j ≢ m → strength trump (suit_of w) c < strength trump (suit_of w) w
      others_weaker c legal other =
          let hand = hand_of s (seat_after j L) in
          let may : MayFollow f.led hand c = may_follow f.led f.others hand c (subst (λ seat. has_card (legal_cards (f.led ∷ f.others) (hand_of s seat)) c ≡ true) turn
          (subst (λ (l : List ℕ). has_card (legal_cards l (hand_of s (to_play s.position))) c ≡ true) f.cards legal)) in
          let follows : MayFollow w hand c = record {
            held = may.held;
            suit = subst (λ u. (suit_of c ≡ u) ⊎ ((d : ℕ) → has_card hand d ≡ true → same_suit (suit_of d) u ≡ false)) f.suit may.suit;
          } in
          let before = f.to_come j (omega arith) short other in
          other_weaker trump w hand (hand_set s f.ok (seat_after j L)) c follows before.0 before.1 low_w

      others_spare : (c : ℕ) → has_card (legal_in s) c ≡ true → j ≢ m → has_card sure c ≡ false
      others_spare c legal other = spare_card s f.ok (seat_after j L) (seat_after m L) sure c (seats_differ j m L short low_m other) (held_there c legal) f.rest

      -- where each card that is played, the seat's own or another's, comes to one result
      by_turn : ((c : ℕ) → has_card (legal_in s) c ≡ true → (j ≢ m → strength trump (suit_of w) c < strength trump (suit_of w) w) → (j ≡ m → c ≡ w) → has_card sure c ≡ false
          → makes (after s c) ≡ is_declarers (seat_after m L)) → makes s ≡ is_declarers (seat_after m L)
      by_turn next = elim (cases_eq j m) as (λ _. makes s ≡ is_declarers (seat_after m L)) [
        | inl is ↦ (let legal = own_legal is in
            by_card s (is_declarers (seat_after m L)) w f.ok (going s.position f.on) (ap is_declarers turn ∙ ap (λ i. is_declarers (seat_after i L)) is) legal
            (next w legal (λ other. absurd (other is)) (λ _. refl) apart))
        | inr other ↦ by_each s (is_declarers (seat_after m L)) f.ok (going s.position f.on) (λ c legal.
            next c legal (λ _. others_weaker c legal other) (λ is. absurd (other is)) (others_spare c legal other))
      ]

    -- ---- card by card, `r` more after this one

    heading : (r : ℕ) (s : State) (j : ℕ) → r + j ≡ 3 → 1 ≤ j → IsHeading s j → Suffices (is_declarers (seat_after m L)) s.position (suc (length sure)) → makes s ≡ is_declarers (seat_after m L)
    heading zero s j last past f h = by_turn s j f past (omega arith) (λ c legal weak_c mine_c spare.
        let b = is_declarers (seat_after m L) in
        let third : j ≡ 3 = omega arith in
        let won = wins s j f past (omega arith) c legal weak_c mine_c spare third in
        let h' = suffices_after b s.position c (length sure) f.ok.sound (legal_can_play s f.ok c legal) (f.count ∙ third) (ap is_declarers won) h in
        cash (length sure) (seat_after m L) trump (after s c) sure (ended s j f past (omega arith) c legal weak_c mine_c spare third) refl h')
    heading (suc r) s j more past f h = by_turn s j f past (omega arith) (λ c legal weak_c mine_c spare.
        let b = is_declarers (seat_after m L) in
        let h' = suffices_within b s.position c (suc (length sure)) f.ok.sound (legal_can_play s f.ok c legal) (let count = f.count in omega arith) h in
        heading r (after s c) (suc j) (omega arith) (omega arith) (stepped s j f past (omega arith) c legal weak_c mine_c spare (omega arith)) h')

-- ---- from the card led on

pub headed_suit : (s : State) (x : Seat) (w : ℕ) (sure : List ℕ) → IsState s → HeadsSuitLed s x w → AreSure s x sure → has_card sure w ≡ false → AreBeyondRuffs s.position.trump sure
    → Suffices (is_declarers x) s.position (suc (length sure)) → makes s ≡ is_declarers x
headed_suit s x w sure ok heads are apart beyond h =
    let L = s.position.trick.leader in
    let at = next_three L x heads.to_come in
    let m = at.0 in
    let some : 1 ≤ m = at.1 in
    let low_m : m < 4 = at.2 in
    let is : seat_after m L ≡ x = at.3 in
    let low_w = has_card-below (hand_of s x) w (hand_set s ok x) heads.held in
    let f : IsHeading L m s.position.trump w sure s 1 = record {
      ok = ok;
      on = let hand = hand_length s ok x in let one = has_card-length (hand_of s x) w heads.held in omega arith;
      leads = refl;
      trumps = refl;
      led = heads.led;
      others = [];
      cards = heads.one;
      suit = heads.suit;
      count = ap (length {A = ℕ}) heads.one;
      weak = λ k low other. (let zero_th : k ≡ 0 = omega arith in
          subst (λ i. strength s.position.trump (suit_of w) (get_or s.position.trick.cards i 0) < strength s.position.trump (suit_of w) w) (sym zero_th)
          (subst (λ (l : List ℕ). strength s.position.trump (suit_of w) (get_or l 0 0) < strength s.position.trump (suit_of w) w) (sym heads.one)
          (led_weaker s.position.trump heads.led w (let less = heads.higher in omega arith) low_w heads.suit heads.higher)));
      mine = λ low. absurd (omega arith);
      held = λ _. subst (λ seat. has_card (hand_of s seat) w ≡ true) (sym is) heads.held;
      rest = subst (λ seat. IsSubset sure (hand_of s seat)) (sym is) are.held;
      to_come = λ i from low other.
          (let not_x : seat_after i L ≢ x = (λ e. seats_differ i m L low low_m other (e ∙ sym is)) in
          let not_leader : seat_after i L ≢ L = seats_differ i 0 L low (omega arith) (λ e. omega arith) in
          (heads.high (seat_after i L) not_x not_leader, heads.safe (seat_after i L) not_x not_leader));
      high = λ y differ. are.high y (λ e. differ (e ∙ sym is));
    } in
    subst (λ seat. makes s ≡ is_declarers seat) is
    (heading L m s.position.trump w sure low_w low_m are.set apart beyond 2 s 1 refl (omega arith) f (subst (λ seat. Suffices (is_declarers seat) s.position (suc (length sure))) (sym is) h))

pub our_headed_suit_wins : (s : State) (x : Seat) (w : ℕ) (sure : List ℕ) → IsState s → HeadsSuitLed s x w → AreSure s x sure → has_card sure w ≡ false → AreBeyondRuffs s.position.trump sure
    → is_declarers x ≡ true → s.position.need ≤ suc (length sure) → makes s ≡ true
our_headed_suit_wins s x w sure ok heads are apart beyond side few =
    headed_suit s x w sure ok heads are apart beyond (subst (λ b. Suffices b s.position (suc (length sure))) (sym side) few) ∙ side

pub their_headed_suit_wins : (s : State) (x : Seat) (w : ℕ) (sure : List ℕ) → IsState s → HeadsSuitLed s x w → AreSure s x sure → has_card sure w ≡ false → AreBeyondRuffs s.position.trump sure
    → is_declarers x ≡ false → tricks_left s.position < s.position.need + suc (length sure) → makes s ≡ false
their_headed_suit_wins s x w sure ok heads are apart beyond side many =
    headed_suit s x w sure ok heads are apart beyond (subst (λ b. Suffices b s.position (suc (length sure))) (sym side) many) ∙ side
