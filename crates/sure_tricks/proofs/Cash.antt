-- Sure cards, led one after another, take a trick each.
use Rattle.std.proofs.Common.{◌≡◌, ◌≢◌, ℕ, zero, suc, ◌+◌, ◌<◌, ◌≤◌, Bool, true, false, not, eqb, List, [], ◌∷◌, ◌++◌, length, map, get_or, refl, sym, ap, ap₂, ◌∙◌, subst, inl, inr, arith}
use Rattle.std.proofs.lemmas.Bool.{cases_Bool, cases_eq, cases_lt, ne_eqb, eqb-true, false≢true, and_parts}
use Rattle.std.proofs.lemmas.List.{get_or-map}
use Rattle.card_sets.specs.declared.seat.Seat.{Seat}
use Rattle.card_sets.specs.Cards.{suit_of}
use Rattle.card_sets.specs.SetWords.{has_card, IsCardSet, IsSubset}
use Rattle.card_sets.proofs.Sets.{has_card-filter, has_card-below, has_card-push, IsCardSet-filter}
use Rattle.card_sets.proofs.SetCounts.{length-take_out, length-IsSubset}
use Rattle.trick_rules.specs.declared.trump.Trump.{Trump}
use Rattle.trick_rules.specs.Positions.{TrickValue, PositionValue, State, seat_after, to_play, tricks_left, IsState}
use Rattle.trick_rules.specs.Play.{take_out, put_card, after, hand_of, legal_in, legal_cards, is_declarers, is_over, is_trump, strength, winner_of, CanPlay, makes}
use Rattle.trick_rules.proofs.CardLists.{has_card-take_out, first_has, or_true}
use Rattle.trick_rules.proofs.TrickLemmas.{winner_from_highest}
use Rattle.trick_rules.proofs.States.{after-IsState, legal_can_play, legal_cards-low, hand_length, cards_more}
use Rattle.trick_rules.proofs.Soundness.{after_short, after_third}
use Rattle.sure_tricks.specs.Sure.{trumps_of, AreHigh, AreSafe, AreSure}
use Rattle.sure_tricks.proofs.Counting.{greatest_of, none_of}
use Rattle.sure_tricks.proofs.Holding.{IsLead, MayFollow, may_follow, trump_of_suit, high_after, safe_after, weaker}
use Rattle.sure_tricks.proofs.Hands.{seats_differ, next_three, hand_after, hand_stays, hand_set, by_card, by_each, Suffices, settled, tricks_within, suffices_within, suffices_after}

-- ---- the card to lead

-- the highest trump among the cards, or the highest card
pub lead_of : (trump : Trump) (sure : List ℕ) → IsCardSet sure → 1 ≤ length sure → (w : ℕ) × IsLead trump sure w
lead_of trump sure set some = elim (cases_lt 0 (length (trumps_of trump sure))) as (λ _. (w : ℕ) × IsLead trump sure w) [
  | inl trumps ↦ (let best = greatest_of (trumps_of trump sure) trumps in
      let both = and_parts (has_card sure best.0) (is_trump trump best.0) (sym (has_card-filter (λ c. is_trump trump c) sure best.0) ∙ best.1) in (
        best.0,
        record {
          set = set;
          among = both.0;
          top = λ v mem suit. best.2 v (has_card-filter (λ c. is_trump trump c) sure v ∙ rw (mem, trump_of_suit trump v best.0 suit, both.1) refl);
          first = inl both.1;
        },
      ))
  | inr none ↦ (let best = greatest_of sure some in (
    best.0,
    record {
      set = set;
      among = best.1;
      top = λ v mem suit. best.2 v mem;
      first = inr (none_of (λ c. is_trump trump c) sure none);
    },
  ))
]

-- ---- the winner of the trick

pub member_at : (xs : List ℕ) (k : ℕ) → k < length xs → has_card xs (get_or xs k 0) ≡ true
member_at [] k h = absurd (omega arith)
member_at (x ∷ xs) zero h = first_has x xs
member_at (x ∷ xs) (suc k) h = rw (member_at xs k (omega arith)) (or_true (eqb x (get_or xs k 0)))

-- the card led wins where no other is stronger
leader_wins : (trump : Trump) (leader : Seat) (w : ℕ) (rest : List ℕ) → ((d : ℕ) → has_card rest d ≡ true → strength trump (suit_of w) d ≤ strength trump (suit_of w) w)
    → winner_of trump (record { leader = leader; cards = w ∷ rest }) ≡ leader
leader_wins trump leader w rest weak = winner_from_highest trump leader (w ∷ rest) 0 (omega arith) (record {
  within = omega arith;
  most = λ k h. most k h;
  first = λ k h. absurd (omega arith);
})
  where
    most : (k : ℕ) → k < length (w ∷ rest) → get_or (map (strength trump (suit_of w)) (w ∷ rest)) k 0 ≤ strength trump (suit_of w) w
    most zero h = omega arith
    most (suc k) h =
        let at = get_or-map (strength trump (suit_of w)) rest k 0 0 (omega arith) in
        let less = weak (get_or rest k 0) (member_at rest k (omega arith)) in
        omega arith

-- ---- between two tricks

pub record IsLeading (x : Seat) (trump : Trump) (s : State) (sure : List ℕ) : Type 0 where
  pub ok : IsState s
  pub leads : s.position.trick.leader ≡ x
  pub none : s.position.trick.cards ≡ []
  pub trumps : s.position.trump ≡ trump
  pub set : IsCardSet sure
  pub held : IsSubset sure (hand_of s x)
  pub high : (y : Seat) → y ≢ x → AreHigh sure (hand_of s y)
  pub safe : (y : Seat) → y ≢ x → AreSafe trump sure (hand_of s y)

-- ---- within a trick

-- this seat led to the trick, and these cards lie in it
pub record IsTrick (x : Seat) (trump : Trump) (s : State) (cards : List ℕ) : Type 0 where
  pub ok : IsState s
  pub on : 1 ≤ tricks_left s.position
  pub leads : s.position.trick.leader ≡ x
  pub trumps : s.position.trump ≡ trump
  pub are : s.position.trick.cards ≡ cards

module _ (x : Seat) (trump : Trump) (s : State) (cards : List ℕ) (t : IsTrick x trump s cards) (c : ℕ) (legal : has_card (legal_in s) c ≡ true) where
  -- a card that doesn't end it
  pub one_more : length cards < 3 → IsTrick x trump (after s c) (cards ++ c ∷ [])
  one_more short =
      let count = ap (length {A = ℕ}) t.are in
      let is = after_short s.position c (omega arith) in
      let tricks = tricks_within s.position c t.ok.sound (legal_can_play s t.ok c legal) (omega arith) in
      let on = t.on in
      record {
        ok = after-IsState s t.ok c legal;
        on = omega arith;
        leads = ap (λ (u : PositionValue). u.trick.leader) is ∙ t.leads;
        trumps = ap (λ (u : PositionValue). u.trump) is ∙ t.trumps;
        are = ap (λ (u : PositionValue). u.trick.cards) is ∙ ap (λ (l : List ℕ). l ++ c ∷ []) t.are;
      }

  -- after the card that ends it the winner is on lead with its sure cards
  pub winner_leads : (winner : Seat) (sure : List ℕ) → length cards ≡ 3 → winner_of s.position.trump (put_card s.position c).trick ≡ winner → IsCardSet sure → IsSubset sure (hand_of (after s c) winner)
      → ((y : Seat) → y ≢ winner → AreHigh sure (hand_of (after s c) y)) → ((y : Seat) → y ≢ winner → AreSafe trump sure (hand_of (after s c) y)) → IsLeading winner trump (after s c) sure
  winner_leads winner sure fourth won set held high safe =
      let is = after_third s.position c (ap (length {A = ℕ}) t.are ∙ fourth) in
      record {
        ok = after-IsState s t.ok c legal;
        leads = ap (λ (u : PositionValue). u.trick.leader) is ∙ won;
        none = ap (λ (u : PositionValue). u.trick.cards) is;
        trumps = ap (λ (u : PositionValue). u.trump) is ∙ t.trumps;
        set = set;
        held = held;
        high = high;
        safe = safe;
      }

-- ---- within the trick that a sure card was led to

pub record IsFollowed (x : Seat) (trump : Trump) (sure : List ℕ) (w : ℕ) (s : State) (j : ℕ) : Type 0 where
  pub others : List ℕ
  pub trick : IsTrick x trump s (w ∷ others)
  pub weak : (d : ℕ) → has_card others d ≡ true → strength trump (suit_of w) d ≤ strength trump (suit_of w) w
  pub count : length s.position.trick.cards ≡ j
  pub held : IsSubset (take_out w sure) (hand_of s x)
  pub todo : (i : ℕ) → j ≤ i → i < 4 → AreHigh sure (hand_of s (seat_after i x)) × AreSafe trump sure (hand_of s (seat_after i x))
  pub done : (i : ℕ) → 1 ≤ i → i < j → AreHigh (take_out w sure) (hand_of s (seat_after i x)) × AreSafe trump (take_out w sure) (hand_of s (seat_after i x))

pub going : (t : PositionValue) → 1 ≤ tricks_left t → is_over t ≡ false
going t on = ne_eqb (tricks_left t) 0 (λ e. omega arith)

module _ (x : Seat) (trump : Trump) (sure : List ℕ) (w : ℕ) (lead : IsLead trump sure w) (low_w : w < 52) where
  -- what the next seat's card leaves
  module _ (s : State) (j : ℕ) (f : IsFollowed x trump sure w s j) (past : 1 ≤ j) (short : j < 4) (c : ℕ) (legal : has_card (legal_in s) c ≡ true) where
    pub turn : to_play s.position ≡ seat_after j x
    turn = ap₂ (λ (n : ℕ) (seat : Seat). seat_after n seat) f.count f.trick.leads

    pub in_hand : has_card (hand_of s (to_play s.position)) c ≡ true
    in_hand = legal_cards-low s.position.trick.cards (hand_of s (to_play s.position)) c legal

    pub can : CanPlay s.position c
    can = legal_can_play s f.trick.ok c legal

    pub follows : MayFollow w (hand_of s (seat_after j x)) c
    unfolding turn
    follows = subst (λ seat. MayFollow w (hand_of s seat) c) turn
        (may_follow w f.others (hand_of s (to_play s.position)) c (subst (λ (l : List ℕ). has_card (legal_cards l (hand_of s (to_play s.position))) c ≡ true) f.trick.are legal))

    stays : (i : ℕ) → i < 4 → i ≢ j → hand_of (after s c) (seat_after i x) ≡ hand_of s (seat_after i x)
    stays i low differ = hand_stays s c (seat_after i x) f.trick.ok in_hand (λ e. seats_differ i j x low short differ (e ∙ turn))

    played : AreHigh (take_out w sure) (hand_of (after s c) (seat_after j x)) × AreSafe trump (take_out w sure) (hand_of (after s c) (seat_after j x))
    played =
        let set = hand_set s f.trick.ok (seat_after j x) in
        let before = f.todo j (omega arith) short in
        let is = hand_after s c (seat_after j x) in (
          subst (AreHigh (take_out w sure)) (sym is) (high_after trump sure w lead (hand_of s (seat_after j x)) set c follows before.0),
          subst (AreSafe trump (take_out w sure)) (sym is) (safe_after trump sure w lead (hand_of s (seat_after j x)) set c follows before.1),
        )

    -- the seats that have played
    all_done : (i : ℕ) → 1 ≤ i → i < suc j → AreHigh (take_out w sure) (hand_of (after s c) (seat_after i x)) × AreSafe trump (take_out w sure) (hand_of (after s c) (seat_after i x))
    all_done i some low = elim (cases_eq i j) as (λ _. AreHigh (take_out w sure) (hand_of (after s c) (seat_after i x)) × AreSafe trump (take_out w sure) (hand_of (after s c) (seat_after i x))) [
      | inl e ↦ subst (λ k. AreHigh (take_out w sure) (hand_of (after s c) (seat_after k x)) × AreSafe trump (take_out w sure) (hand_of (after s c) (seat_after k x))) (sym e) played
      | inr differ ↦ subst (λ (h : List ℕ). AreHigh (take_out w sure) h × AreSafe trump (take_out w sure) h) (sym (stays i (omega arith) differ)) (f.done i some (omega (arith, differ)))
    ]

    still_held : IsSubset (take_out w sure) (hand_of (after s c) x)
    still_held d h = ap (λ (l : List ℕ). has_card l d) (stays 0 (omega arith) (λ e. omega arith)) ∙ f.held d h

    all_weak : (d : ℕ) → has_card (f.others ++ c ∷ []) d ≡ true → strength trump (suit_of w) d ≤ strength trump (suit_of w) w
    all_weak d h = elim (cases_Bool (has_card f.others d)) as (λ _. strength trump (suit_of w) d ≤ strength trump (suit_of w) w) [
      | inl e ↦ f.weak d e
      | inr e ↦ (let same : c ≡ d = eqb-true c d (rw e at (sym (has_card-push f.others c d) ∙ h)) in
          let set = hand_set s f.trick.ok (seat_after j x) in
          let before = f.todo j (omega arith) short in
          subst (λ k. strength trump (suit_of w) k ≤ strength trump (suit_of w) w) same
          (weaker trump sure w lead (hand_of s (seat_after j x)) set c follows before.0 before.1 (has_card-below (hand_of s (seat_after j x)) c set follows.held) low_w))
    ]

    pub stepped : j < 3 → IsFollowed x trump sure w (after s c) (suc j)
    stepped within =
        let count = f.count in
        let same = ap (length {A = ℕ}) f.trick.are in
        record {
          others = f.others ++ c ∷ [];
          trick = one_more x trump s (w ∷ f.others) f.trick c legal (omega arith);
          weak = all_weak;
          count = ap (λ (u : PositionValue). length u.trick.cards) (after_short s.position c (omega arith)) ∙ cards_more s.position c ∙ ap suc f.count;
          held = still_held;
          todo = λ i more low. subst (λ (h : List ℕ). AreHigh sure h × AreSafe trump sure h) (sym (stays i low (λ e. omega arith))) (f.todo i (omega arith) low);
          done = all_done;
        }

    pub wins : winner_of s.position.trump (put_card s.position c).trick ≡ x
    wins = ap₂ (λ (t : Trump) (k : TrickValue). winner_of t k) f.trick.trumps
        (ap₂ (λ (seat : Seat) (l : List ℕ). record { leader = seat; cards = l }) f.trick.leads (ap (λ (l : List ℕ). l ++ c ∷ []) f.trick.are))
        ∙ leader_wins trump x w (f.others ++ c ∷ []) all_weak

    -- after the last card the same seat leads again
    pub ended : j ≡ 3 → IsLeading x trump (after s c) (take_out w sure)
    ended last =
        winner_leads x trump s (w ∷ f.others) f.trick c legal x (take_out w sure) (sym (ap (length {A = ℕ}) f.trick.are) ∙ f.count ∙ last) wins (IsCardSet-filter (λ d. not (eqb d w)) sure lead.set) still_held
        (λ y differ. let at = next_three x y differ in subst (λ seat. AreHigh (take_out w sure) (hand_of (after s c) seat)) at.3 (all_done at.0 at.1 (let low = at.2 in omega arith)).0)
        (λ y differ. let at = next_three x y differ in subst (λ seat. AreSafe trump (take_out w sure) (hand_of (after s c) seat)) at.3 (all_done at.0 at.1 (let low = at.2 in omega arith)).1)

  -- when the card is led
  module _ (s : State) (l : IsLeading x trump s sure) where
    pub at_turn : to_play s.position ≡ x
    at_turn = ap₂ (λ (n : ℕ) (seat : Seat). seat_after n seat) (ap (length {A = ℕ}) l.none) l.leads

    pub lead_held : has_card (hand_of s (to_play s.position)) w ≡ true
    lead_held = ap (λ seat. has_card (hand_of s seat) w) at_turn ∙ l.held w lead.among

    pub lead_legal : has_card (legal_in s) w ≡ true
    lead_legal = ap (λ (t : List ℕ). has_card (legal_cards t (hand_of s (to_play s.position))) w) l.none ∙ lead_held

    pub some_left : 1 ≤ tricks_left s.position
    some_left =
        let hand = hand_length s l.ok x in
        let part = length-IsSubset (hand_of s x) sure (hand_set s l.ok x) l.set l.held in
        let some = length-take_out sure w l.set lead.among in
        omega arith

    pub in_short : length s.position.trick.cards < 3
    in_short = let none = ap (length {A = ℕ}) l.none in omega arith

    pub led : IsFollowed x trump sure w (after s w) 1
    led =
        let empty : IsTrick x trump s [] = record { ok = l.ok; on = some_left; leads = l.leads; trumps = l.trumps; are = l.none } in
        record {
          others = [];
          trick = one_more x trump s [] empty w lead_legal (omega arith);
          weak = λ d h. absurd (false≢true h);
          count = ap (λ (u : PositionValue). length u.trick.cards) (after_short s.position w in_short) ∙ ap (λ (t : List ℕ). length (t ++ w ∷ [])) l.none;
          held = λ d h.
              let both = and_parts (has_card sure d) (not (eqb d w)) (sym (has_card-take_out w sure d) ∙ h) in
              ap (λ (t : List ℕ). has_card t d) (hand_after s w x) ∙ has_card-take_out w (hand_of s x) d ∙ rw (l.held d both.0, both.1) refl;
          todo = λ i more low.
              let differ : seat_after i x ≢ x = seats_differ i 0 x low (omega arith) (λ e. omega arith) in
              subst (λ (h : List ℕ). AreHigh sure h × AreSafe trump sure h)
              (sym (hand_stays s w (seat_after i x) l.ok lead_held (λ e. differ (e ∙ at_turn)))) (l.high (seat_after i x) differ, l.safe (seat_after i x) differ);
          done = λ i some low. absurd (omega arith);
        }

-- ---- one trick after another

pub cash : (k : ℕ) (x : Seat) (trump : Trump) (s : State) (sure : List ℕ) → IsLeading x trump s sure → length sure ≡ k
    → Suffices (is_declarers x) s.position k → makes s ≡ is_declarers x
cash zero x trump s sure l few h = settled s (is_declarers x) l.ok h
cash (suc k) x trump s sure l few h = go (lead_of trump sure l.set (omega arith)) (λ s' w l' h' few'. cash k x trump s' (take_out w sure) l' few' h')
  where
    go : (w : ℕ) × IsLead trump sure w
        → ((s' : State) (w : ℕ) → IsLeading x trump s' (take_out w sure) → Suffices (is_declarers x) s'.position k → length (take_out w sure) ≡ k → makes s' ≡ is_declarers x)
        → makes s ≡ is_declarers x
    go (w, lead) again =
        let low_w = has_card-below sure w l.set lead.among in
        let b = is_declarers x in
        let legal = lead_legal x trump sure w lead low_w s l in
        let f1 = led x trump sure w lead low_w s l in
        let h1 = suffices_within b s.position w (suc k) l.ok.sound (legal_can_play s l.ok w legal) (in_short x trump sure w lead low_w s l) h in
        by_card s b w l.ok (going s.position (some_left x trump sure w lead low_w s l)) (ap is_declarers (at_turn x trump sure w lead low_w s l)) legal
        (by_each (after s w) b f1.trick.ok (going (after s w).position f1.trick.on) (λ c1 l1.
        let s1 = after s w in
        let f2 = stepped x trump sure w lead low_w s1 1 f1 (omega arith) (omega arith) c1 l1 (omega arith) in
        let h2 = suffices_within b s1.position c1 (suc k) f1.trick.ok.sound (legal_can_play s1 f1.trick.ok c1 l1) (let count = f1.count in omega arith) h1 in
        by_each (after s1 c1) b f2.trick.ok (going (after s1 c1).position f2.trick.on) (λ c2 l2.
        let s2 = after s1 c1 in
        let f3 = stepped x trump sure w lead low_w s2 2 f2 (omega arith) (omega arith) c2 l2 (omega arith) in
        let h3 = suffices_within b s2.position c2 (suc k) f2.trick.ok.sound (legal_can_play s2 f2.trick.ok c2 l2) (let count = f2.count in omega arith) h2 in
        by_each (after s2 c2) b f3.trick.ok (going (after s2 c2).position f3.trick.on) (λ c3 l3.
        let s3 = after s2 c2 in
        let e = ended x trump sure w lead low_w s3 3 f3 (omega arith) (omega arith) c3 l3 refl in
        let won = wins x trump sure w lead low_w s3 3 f3 (omega arith) (omega arith) c3 l3 in
        let h4 = suffices_after b s3.position c3 k f3.trick.ok.sound (legal_can_play s3 f3.trick.ok c3 l3) f3.count (ap is_declarers won) h3 in
        again (after s3 c3) w e h4 (let less = length-take_out sure w l.set lead.among in omega arith)))))

pub leading : (s : State) (sure : List ℕ) → IsState s → s.position.trick.cards ≡ [] → AreSure s (to_play s.position) sure → IsLeading s.position.trick.leader s.position.trump s sure
leading s sure ok none are =
    let turn : to_play s.position ≡ s.position.trick.leader = ap (λ (t : List ℕ). seat_after (length t) s.position.trick.leader) none in
    record {
      ok = ok;
      leads = refl;
      none = none;
      trumps = refl;
      set = are.set;
      held = subst (λ seat. IsSubset sure (hand_of s seat)) turn are.held;
      high = λ y differ. are.high y (λ e. differ (e ∙ turn));
      safe = λ y differ. are.safe y (λ e. differ (e ∙ turn));
    }

pub sure_cards : (s : State) (sure : List ℕ) (b : Bool) → IsState s → s.position.trick.cards ≡ [] → AreSure s (to_play s.position) sure → is_declarers (to_play s.position) ≡ b
    → Suffices b s.position (length sure) → makes s ≡ b
sure_cards s sure b ok none are side h =
    let turn : to_play s.position ≡ s.position.trick.leader = ap (λ (t : List ℕ). seat_after (length t) s.position.trick.leader) none in
    let same : is_declarers s.position.trick.leader ≡ b = ap is_declarers (sym turn) ∙ side in
    cash (length sure) s.position.trick.leader s.position.trump s sure (leading s sure ok none are) refl
    (subst (λ c. Suffices c s.position (length sure)) (sym same) h) ∙ same

pub our_sure_cards_win : (s : State) (sure : List ℕ) → IsState s → s.position.trick.cards ≡ [] → AreSure s (to_play s.position) sure
    → is_declarers (to_play s.position) ≡ true → s.position.need ≤ length sure → makes s ≡ true
our_sure_cards_win s sure ok none are side h = sure_cards s sure true ok none are side h

pub their_sure_cards_win : (s : State) (sure : List ℕ) → IsState s → s.position.trick.cards ≡ [] → AreSure s (to_play s.position) sure
    → is_declarers (to_play s.position) ≡ false → tricks_left s.position < s.position.need + length sure → makes s ≡ false
their_sure_cards_win s sure ok none are side h = sure_cards s sure false ok none are side h
