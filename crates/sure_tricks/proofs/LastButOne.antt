-- The last trick but one, if only one seat of a side can win it: the other side keeps a card that is higher than this seat's last.
use Rattle.std.proofs.Common.{◌≡◌, ◌≢◌, ◌⊎◌, ℕ, zero, suc, ◌+◌, ◌<◌, ◌≤◌, Bool, true, false, not, eqb, cond, List, [], ◌∷◌, length, filter, get_or, refl, sym, ap, ◌∙◌, subst, inl, inr, arith}
use Rattle.std.proofs.lemmas.Bool.{cases_Bool, cases_eq, cases_lt, eq-eqb, ne_eqb, false≢true, and_parts}
use Rattle.card_sets.specs.declared.card.Suit.{Suit}
use Rattle.card_sets.specs.declared.seat.Seat.{Seat}
use Rattle.card_sets.specs.declared.seat.Seat.TheVariants.{Declarer, Left, Dummy, Right}
use Rattle.card_sets.specs.Cards.{suit_of, rank_of, same_suit}
use Rattle.card_sets.specs.SetWords.{has_card, IsCardSet}
use Rattle.card_sets.proofs.Sets.{has_card-filter, IsCardSet-filter}
use Rattle.card_sets.proofs.SetCounts.{some_card, length-take_out}
use Rattle.trick_rules.specs.declared.trump.Trump.{Trump}
use Rattle.trick_rules.specs.declared.trump.Trump.TheVariants.{NoTrump}
use Rattle.trick_rules.specs.Positions.{TrickValue, PositionValue, State, seat_after, to_play, played_count, tricks_left, IsState}
use Rattle.trick_rules.specs.Play.{take_out, put_card, after, hand_of, legal_in, is_declarers, winner_of, CanPlay, makes}
use Rattle.trick_rules.proofs.CardLists.{has_card-take_out}
use Rattle.trick_rules.proofs.States.{after-IsState, after_card-trump, legal_can_play, legal_cards-low, hand_length, cards_more}
use Rattle.trick_rules.proofs.Soundness.{with_card, after_short, after_third}
use Rattle.trick_rules.proofs.Turns.{count_in-turn}
use Rattle.trick_rules.proofs.PlayLaws.{hands_are_apart, the_need_never_rises, the_need_falls_by_one_at_most}
use Rattle.sure_tricks.specs.Stoppers.{has_suit}
use Rattle.sure_tricks.proofs.Holding.{follows_or_void, suit_test}
use Rattle.sure_tricks.proofs.Hands.{seats_differ, hand_after, was_held, hand_stays, hand_set, next_three, seat_cases, by_card, by_each, Suffices, settled, tricks_within, tricks_last, suffices_within, suffices_after}
use Rattle.sure_tricks.proofs.Cash.{going}
use Rattle.sure_tricks.proofs.TopTrumps.{sides, two_sides}
use Rattle.sure_tricks.proofs.StoppedSuit.{AreLowerAt, not_won_by, kept_at, last_at, stop_led}
use Rattle.sure_tricks.proofs.Stoppers.{card_had, throw_from}

-- ---- seats

pub opponent : (x : Seat) (i : ℕ) → (i ≡ 1) ⊎ (i ≡ 3) → is_declarers (seat_after i x) ≡ not (is_declarers x)
opponent x i at = elim at as (λ _. is_declarers (seat_after i x) ≡ not (is_declarers x)) [
  | inl e ↦ ap (λ j. is_declarers (seat_after j x)) e ∙ next x
  | inr e ↦ ap (λ j. is_declarers (seat_after j x)) e ∙ last x
]
  where
    next : (y : Seat) → is_declarers (seat_after 1 y) ≡ not (is_declarers y)
    next Declarer = refl
    next Left = refl
    next Dummy = refl
    next Right = refl

    last : (y : Seat) → is_declarers (seat_after 3 y) ≡ not (is_declarers y)
    last Declarer = refl
    last Left = refl
    last Dummy = refl
    last Right = refl

pub partners_side : (x : Seat) → is_declarers (seat_after 2 x) ≡ is_declarers x
partners_side Declarer = refl
partners_side Left = refl
partners_side Dummy = refl
partners_side Right = refl

one_or_three : (i : ℕ) → 1 ≤ i → i < 4 → i ≢ 2 → (i ≡ 1) ⊎ (i ≡ 3)
one_or_three i some low odd = elim (cases_lt i 2) as (λ _. (i ≡ 1) ⊎ (i ≡ 3)) [
  | inl less ↦ inl (omega arith)
  | inr more ↦ inr (omega (arith, some, low, odd, more))
]

-- a seat of the side is the seat itself or its partner
pub of_the_side : (x seat : Seat) → is_declarers seat ≡ is_declarers x → (seat ≡ x) ⊎ (seat ≡ seat_after 2 x)
of_the_side x seat side = elim (seat_cases seat x) as (λ _. (seat ≡ x) ⊎ (seat ≡ seat_after 2 x)) [
  | inl e ↦ inl e
  | inr differ ↦ (let at = next_three x seat differ in
      elim (cases_eq at.0 2) as (λ _. (seat ≡ x) ⊎ (seat ≡ seat_after 2 x)) [
        | inl two ↦ inr (sym at.3 ∙ ap (λ i. seat_after i x) two)
        | inr odd ↦ absurd (two_sides (is_declarers seat) (is_declarers x) side
            (ap is_declarers (sym at.3) ∙ opponent x at.0 (one_or_three at.0 at.1 at.2 odd)))
      ])
]

-- ---- the last trick

last_trick : (b : Bool) (w : ℕ) (s : State) → IsState s → 1 ≤ tricks_left s.position → s.position.trump ≡ NoTrump → s.position.trick.cards ≡ [] → is_declarers s.position.trick.leader ≡ b
    → (seat : Seat) × (is_declarers seat ≡ not b) × (has_card (hand_of s seat) w ≡ true)
    → ((seat : Seat) → is_declarers seat ≡ b → (c : ℕ) → has_card (hand_of s seat) c ≡ true → suit_of c ≡ suit_of w → rank_of c < rank_of w)
    → ((c : ℕ) → has_card (hand_of s s.position.trick.leader) c ≡ true → suit_of c ≡ suit_of w) → Suffices (not b) s.position 1 → makes s ≡ not b
last_trick b w s ok on trumps none side holder highest all h = by_each s (not b) ok (going s.position on) (λ c legal.
    stop_led b w s ok on trumps none side holder highest c legal
    (all c (subst (λ seat. has_card (hand_of s seat) c ≡ true) (ap (λ (l : List ℕ). seat_after (length l) s.position.trick.leader) none)
    (legal_cards-low s.position.trick.cards (hand_of s (to_play s.position)) c legal))) h)

-- ---- the trick before it

-- of its side only one seat can win the trick, and its last card is lower than a card of the suit that the other side keeps
pub record IsEnding (b : Bool) (w : ℕ) (v : Suit) (z l : Seat) (s : State) : Type 0 where
  pub ok : IsState s
  pub two : 2 ≤ tricks_left s.position
  pub trumps : s.position.trump ≡ NoTrump
  pub some : 1 ≤ length s.position.trick.cards
  pub led : suit_of (get_or s.position.trick.cards 0 0) ≡ v
  pub other : suit_of w ≢ v
  pub held : (seat : Seat) × (is_declarers seat ≡ not b) × (has_card (hand_of s seat) w ≡ true)
  pub highest : (seat : Seat) → is_declarers seat ≡ b → (c : ℕ) → has_card (hand_of s seat) c ≡ true → suit_of c ≡ suit_of w → rank_of c < rank_of w
  pub either : (seat : Seat) → is_declarers seat ≡ b → (seat ≡ z) ⊎ (seat ≡ l)
  pub side : is_declarers z ≡ b
  pub best : ℕ
  pub best_suit : suit_of best ≡ v
  pub lower : AreLowerAt (λ seat. seat ≡ l) best s.position.trick.leader s.position.trick.cards
  pub lower_held : (c : ℕ) → has_card (hand_of s l) c ≡ true → suit_of c ≡ v → rank_of c < rank_of best
  pub place : ℕ
  pub low : place < 4
  pub at : seat_after place s.position.trick.leader ≡ z
  pub there : ((place < length s.position.trick.cards) × (get_or s.position.trick.cards place 0 ≡ best) × ((c : ℕ) → has_card (hand_of s z) c ≡ true → suit_of c ≡ suit_of w))
      ⊎ ((length s.position.trick.cards ≤ place) × (has_card (hand_of s z) best ≡ true) × ((c : ℕ) → has_card (hand_of s z) c ≡ true → (c ≡ best) ⊎ (suit_of c ≡ suit_of w)))

module _ (b : Bool) (w : ℕ) (v : Suit) (z l : Seat) (s : State) (e : IsEnding b w v z l s) (c : ℕ) (legal : has_card (legal_in s) c ≡ true) (keeps : has_card (w ∷ []) c ≡ false) where
  in_hand : has_card (hand_of s (to_play s.position)) c ≡ true
  in_hand = legal_cards-low s.position.trick.cards (hand_of s (to_play s.position)) c legal

  can : CanPlay s.position c
  can = legal_can_play s e.ok c legal

  not_c : w ≢ c
  not_c i = false≢true (sym keeps ∙ subst (λ d. has_card (w ∷ []) d ≡ true) i (own w))
    where
      own : (d : ℕ) → has_card (d ∷ []) d ≡ true
      own d = rw (eq-eqb d d refl) refl

  held_after : (seat : Seat) × (is_declarers seat ≡ not b) × (has_card (hand_of (after s c) seat) w ≡ true)
  held_after = ((e.held).0, (e.held).1, ap (λ (xs : List ℕ). has_card xs w) (hand_after s c (e.held).0) ∙ has_card-take_out c (hand_of s (e.held).0) w ∙ rw ((e.held).2, ne_eqb w c not_c) refl)

  lower_more : AreLowerAt (λ seat. seat ≡ l) e.best s.position.trick.leader (with_card s.position c)
  lower_more k low whose suit = elim (cases_lt k (length s.position.trick.cards)) as (λ _. rank_of (get_or (with_card s.position c) k 0) < rank_of e.best) [
    | inl before ↦ (let same = kept_at s.position c k before in
        subst (λ d. rank_of d < rank_of e.best) (sym same) (e.lower k before whose (ap suit_of (sym same) ∙ suit)))
    | inr past ↦ (let i : k ≡ length s.position.trick.cards = omega (arith, low, past, cards_more s.position c) in
        let same : get_or (with_card s.position c) k 0 ≡ c = ap (λ j. get_or (with_card s.position c) j 0) i ∙ last_at s.position c in
        let turn : to_play s.position ≡ l = ap (λ j. seat_after j s.position.trick.leader) (sym i) ∙ whose in
        subst (λ d. rank_of d < rank_of e.best) (sym same)
        (e.lower_held c (subst (λ seat. has_card (hand_of s seat) c ≡ true) turn in_hand) (ap suit_of (sym same) ∙ suit ∙ e.best_suit)))
  ]

  led_more : suit_of (get_or (with_card s.position c) 0 0) ≡ v
  led_more = ap suit_of (kept_at s.position c 0 e.some) ∙ e.led

  follows : (suit_of c ≡ v) ⊎ ((d : ℕ) → has_card (hand_of s (to_play s.position)) d ≡ true → same_suit (suit_of d) v ≡ false)
  follows = follows_or_void s.position.trick.cards (hand_of s (to_play s.position)) v c e.some e.led legal

  -- the seat that can win has played its card of the suit led, or will have to
  abbrev IsThere : Type 0
  IsThere = ((e.place < length (with_card s.position c)) × (get_or (with_card s.position c) e.place 0 ≡ e.best) × ((d : ℕ) → has_card (hand_of (after s c) z) d ≡ true → suit_of d ≡ suit_of w))
      ⊎ ((length (with_card s.position c) ≤ e.place) × (has_card (hand_of (after s c) z) e.best ≡ true) × ((d : ℕ) → has_card (hand_of (after s c) z) d ≡ true → (d ≡ e.best) ⊎ (suit_of d ≡ suit_of w)))

  there_more : IsThere
  there_more = elim e.there as (λ _. IsThere) [
    | inl (before, is, all) ↦ inl (omega (arith, before, cards_more s.position c), kept_at s.position c e.place before ∙ is, λ d h. all d (was_held s c z d h))
    | inr (past, held, all) ↦ elim (cases_eq e.place (length s.position.trick.cards)) as (λ _. IsThere) [
      | inl i ↦ inl (omega (arith, i, cards_more s.position c), ap (λ j. get_or (with_card s.position c) j 0) i ∙ last_at s.position c ∙ plays i held all, λ d h. rest i held all d h)
      | inr differ ↦ (let stays = hand_stays s c z e.ok in_hand (λ j. seats_differ e.place (length s.position.trick.cards) s.position.trick.leader e.low e.ok.sound.trick_short differ (e.at ∙ j)) in
          inr (omega (arith, past, differ, cards_more s.position c), ap (λ (xs : List ℕ). has_card xs e.best) stays ∙ held, λ d h. all d (was_held s c z d h)))
    ]
  ]
    where
      plays : e.place ≡ length s.position.trick.cards → has_card (hand_of s z) e.best ≡ true → ((d : ℕ) → has_card (hand_of s z) d ≡ true → (d ≡ e.best) ⊎ (suit_of d ≡ suit_of w)) → c ≡ e.best
      plays i held all =
          let turn : to_play s.position ≡ z = ap (λ j. seat_after j s.position.trick.leader) (sym i) ∙ e.at in
          let suit : suit_of c ≡ v = elim follows as (λ _. suit_of c ≡ v) [
            | inl same ↦ same
            | inr none ↦ absurd (false≢true (sym (none e.best (subst (λ seat. has_card (hand_of s seat) e.best ≡ true) (sym turn) held)) ∙ suit_test e.best v e.best_suit))
          ] in
          elim (all c (subst (λ seat. has_card (hand_of s seat) c ≡ true) turn in_hand)) as (λ _. c ≡ e.best) [
            | inl same ↦ same
            | inr other ↦ absurd (e.other (sym other ∙ suit))
          ]

      rest : e.place ≡ length s.position.trick.cards → has_card (hand_of s z) e.best ≡ true → ((d : ℕ) → has_card (hand_of s z) d ≡ true → (d ≡ e.best) ⊎ (suit_of d ≡ suit_of w))
          → (d : ℕ) → has_card (hand_of (after s c) z) d ≡ true → suit_of d ≡ suit_of w
      rest i held all d h = elim (all d (was_held s c z d h)) as (λ _. suit_of d ≡ suit_of w) [
        | inl same ↦ absurd (
            let parts = and_parts (has_card (hand_of s z) d) (not (eqb d c)) (sym (has_card-take_out c (hand_of s z) d) ∙ sym (ap (λ (xs : List ℕ). has_card xs d) (hand_after s c z)) ∙ h) in
            false≢true (sym (ap not (eq-eqb d c (same ∙ sym (plays i held all)))) ∙ parts.1))
        | inr other ↦ other
      ]

  ending_on : length s.position.trick.cards < 3 → IsEnding b w v z l (after s c)
  ending_on short =
      let is : (after s c).position.trick ≡ record { leader = s.position.trick.leader; cards = with_card s.position c } = ap (λ (u : PositionValue). u.trick) (after_short s.position c short) in
      let tricks = tricks_within s.position c e.ok.sound can short in
      record {
        ok = after-IsState s e.ok c legal;
        two = let two = e.two in omega (arith, two, tricks);
        trumps = after_card-trump s.position c ∙ e.trumps;
        some = subst (λ (t : TrickValue). 1 ≤ length t.cards) (sym is) (omega (arith, cards_more s.position c));
        led = subst (λ (t : TrickValue). suit_of (get_or t.cards 0 0) ≡ v) (sym is) led_more;
        other = e.other;
        held = held_after;
        highest = λ seat side d h suit. e.highest seat side d (was_held s c seat d h) suit;
        either = e.either;
        side = e.side;
        best = e.best;
        best_suit = e.best_suit;
        lower = subst (λ (t : TrickValue). AreLowerAt (λ seat. seat ≡ l) e.best t.leader t.cards) (sym is) lower_more;
        lower_held = λ d h suit. e.lower_held d (was_held s c l d h) suit;
        place = e.place;
        low = e.low;
        at = subst (λ (t : TrickValue). seat_after e.place t.leader ≡ z) (sym is) e.at;
        there = subst (λ (t : TrickValue). ((e.place < length t.cards) × (get_or t.cards e.place 0 ≡ e.best) × ((d : ℕ) → has_card (hand_of (after s c) z) d ≡ true → suit_of d ≡ suit_of w))
            ⊎ ((length t.cards ≤ e.place) × (has_card (hand_of (after s c) z) e.best ≡ true) × ((d : ℕ) → has_card (hand_of (after s c) z) d ≡ true → (d ≡ e.best) ⊎ (suit_of d ≡ suit_of w)))) (sym is) there_more;
      }

  -- the trick ends: the other side has won it, or wins the last
  ended : length s.position.trick.cards ≡ 3 → Suffices (not b) s.position 1 → makes (after s c) ≡ not b
  ended third h = elim (sides (is_declarers winner) b) as (λ _. makes (after s c) ≡ not b) [
    | inr others ↦ settled (after s c) (not b) ok_after (suffices_after (not b) s.position c 0 e.ok.sound can third others h)
    | inl ours ↦ elim there_more as (λ _. makes (after s c) ≡ not b) [
      | inl (before, is, all) ↦ (let tricks = tricks_last s.position c e.ok.sound can third in
          let two = e.two in
          let leads : (after s c).position.trick.leader ≡ z = ap (λ (u : PositionValue). u.trick.leader) (after_third s.position c third) ∙ wins before is ours in
          last_trick b w (after s c) ok_after (omega (arith, tricks, two)) (after_card-trump s.position c ∙ e.trumps) (ap (λ (u : PositionValue). u.trick.cards) (after_third s.position c third))
          (ap is_declarers leads ∙ e.side) held_after (λ seat side d held suit. e.highest seat side d (was_held s c seat d held) suit)
          (λ d held. all d (subst (λ seat. has_card (hand_of (after s c) seat) d ≡ true) leads held)) (one_left third (not b) h))
      | inr (past, held, all) ↦ absurd (omega (arith, past, cards_more s.position c, third, e.low))
    ]
  ]
    where
      winner : Seat
      winner = winner_of s.position.trump (put_card s.position c).trick

      ok_after : IsState (after s c)
      ok_after = after-IsState s e.ok c legal

      wins : e.place < length (with_card s.position c) → get_or (with_card s.position c) e.place 0 ≡ e.best → is_declarers winner ≡ b → winner ≡ z
      wins before is ours = elim (e.either winner ours) as (λ _. winner ≡ z) [
        | inl same ↦ same
        | inr loser ↦ absurd (not_won_by (λ seat. seat ≡ l) s.position.trick.leader (with_card s.position c) e.place before (led_more ∙ sym (ap suit_of is ∙ e.best_suit))
            (subst (λ d. AreLowerAt (λ seat. seat ≡ l) d s.position.trick.leader (with_card s.position c)) (sym is) lower_more)
            (ap (λ (u : Trump). winner_of u (put_card s.position c).trick) (sym e.trumps) ∙ loser))
      ]

      one_left : length s.position.trick.cards ≡ 3 → (side : Bool) → Suffices side s.position 1 → Suffices side (after s c).position 1
      one_left third true enough = omega (arith, enough, the_need_never_rises s.position c e.ok.sound)
      one_left third false enough =
          let one : cond {A = ℕ} (eqb (length s.position.trick.cards) 3) 1 0 ≡ 1 = rw third refl in
          omega (arith, enough, tricks_last s.position c e.ok.sound can third, the_need_falls_by_one_at_most s.position c e.ok.sound, one)

  -- what the card comes to
  onward : Suffices (not b) s.position 1 → (length s.position.trick.cards < 3 → IsEnding b w v z l (after s c) → Suffices (not b) (after s c).position 1 → makes (after s c) ≡ not b)
      → makes (after s c) ≡ not b
  onward h again = elim (cases_lt (length s.position.trick.cards) 3) as (λ _. makes (after s c) ≡ not b) [
    | inl short ↦ again short (ending_on short) (suffices_within (not b) s.position c 1 e.ok.sound can short h)
    | inr past ↦ ended (omega (arith, past, e.ok.sound.trick_short)) h
  ]

  more : length s.position.trick.cards < 3 → length (after s c).position.trick.cards ≡ suc (length s.position.trick.cards)
  more short = ap (λ (u : PositionValue). length u.trick.cards) (after_short s.position c short) ∙ cards_more s.position c

pub endings : (n : ℕ) (b : Bool) (w : ℕ) (v : Suit) (z l : Seat) (s : State) → IsEnding b w v z l s → 4 ≤ length s.position.trick.cards + n → Suffices (not b) s.position 1 → makes s ≡ not b
endings zero b w v z l s e few h = absurd (omega (arith, few, e.ok.sound.trick_short))
endings (suc n) b w v z l s e few h = elim (sides (is_declarers (to_play s.position)) b) as (λ _. makes s ≡ not b) [
  | inl ours ↦ by_each s (not b) e.ok (going s.position on) (λ c legal. onward b w v z l s e c legal (not_ours c (legal_cards-low s.position.trick.cards (hand_of s (to_play s.position)) c legal) ours) h
      (λ short e' h'. endings n b w v z l (after s c) e' (omega (arith, few, more b w v z l s e c legal (not_ours c (legal_cards-low s.position.trick.cards (hand_of s (to_play s.position)) c legal) ours) short)) h'))
  | inr others ↦ (let choice = throw_from s (w ∷ []) v e.some e.led plain room in
      by_card s (not b) choice.0 e.ok (going s.position on) others choice.1 (onward b w v z l s e choice.0 choice.1 choice.2 h
      (λ short e' h'. endings n b w v z l (after s choice.0) e' (omega (arith, few, more b w v z l s e choice.0 choice.1 choice.2 short)) h')))
]
  where
    on : 1 ≤ tricks_left s.position
    on = let two = e.two in omega (arith, two)

    only : (c : ℕ) → has_card (w ∷ []) c ≡ true → c ≡ w
    only c h = elim (cases_eq w c) as (λ _. c ≡ w) [
      | inl i ↦ sym i
      | inr differ ↦ absurd (false≢true (rw (ne_eqb w c differ) at h))
    ]

    not_ours : (c : ℕ) → has_card (hand_of s (to_play s.position)) c ≡ true → is_declarers (to_play s.position) ≡ b → has_card (w ∷ []) c ≡ false
    not_ours c held ours = elim (cases_Bool (has_card (w ∷ []) c)) as (λ _. has_card (w ∷ []) c ≡ false) [
      | inl i ↦ absurd (false≢true (sym (hands_are_apart s (to_play s.position) (e.held).0 e.ok (λ j. two_sides (is_declarers (e.held).0) b (ap is_declarers (sym j) ∙ ours) (e.held).1) c held)
          ∙ subst (λ d. has_card (hand_of s (e.held).0) d ≡ true) (sym (only c i)) (e.held).2))
      | inr i ↦ i
    ]

    plain : has_suit (w ∷ []) v ≡ false
    plain = elim (cases_Bool (has_suit (w ∷ []) v)) as (λ _. has_suit (w ∷ []) v ≡ false) [
      | inl i ↦ (let found = card_had (w ∷ []) v i in absurd (e.other (ap suit_of (sym (only found.0 found.1)) ∙ found.2)))
      | inr i ↦ i
    ]

    -- one card of a hand of two is no other card
    room : length (filter (has_card (w ∷ [])) (hand_of s (to_play s.position))) < length (hand_of s (to_play s.position))
    room =
        let turn : played_count s.position (to_play s.position) ≡ 0 = count_in-turn (length s.position.trick.cards) s.position.trick.leader e.ok.sound.trick_short in
        let hand = hand_length s e.ok (to_play s.position) in
        let one = at_most_one (hand_of s (to_play s.position)) (hand_set s e.ok (to_play s.position)) in
        let two = e.two in
        omega (arith, turn, hand, one, two)
      where
        at_most_one : (xs : List ℕ) → IsCardSet xs → length (filter (has_card (w ∷ [])) xs) ≤ 1
        at_most_one xs set = elim (cases_lt 0 (length (filter (has_card (w ∷ [])) xs))) as (λ _. length (filter (has_card (w ∷ [])) xs) ≤ 1) [
          | inl some ↦ (let ones = IsCardSet-filter (has_card (w ∷ [])) xs set in
              let found = some_card (filter (has_card (w ∷ [])) xs) some in
              let less = length-take_out (filter (has_card (w ∷ [])) xs) found.0 ones found.1 in
              elim (cases_lt 0 (length (take_out found.0 (filter (has_card (w ∷ [])) xs)))) as (λ _. length (filter (has_card (w ∷ [])) xs) ≤ 1) [
                | inl again ↦ (let second = some_card (take_out found.0 (filter (has_card (w ∷ [])) xs)) again in
                    let parts = and_parts (has_card (filter (has_card (w ∷ [])) xs) second.0) (not (eqb second.0 found.0)) (sym (has_card-take_out found.0 (filter (has_card (w ∷ [])) xs) second.0) ∙ second.1) in
                    let first_is = only found.0 ((and_parts (has_card xs found.0) (has_card (w ∷ []) found.0) (sym (has_card-filter (has_card (w ∷ [])) xs found.0) ∙ found.1)).1) in
                    let second_is = only second.0 ((and_parts (has_card xs second.0) (has_card (w ∷ []) second.0) (sym (has_card-filter (has_card (w ∷ [])) xs second.0) ∙ parts.0)).1) in
                    absurd (false≢true (sym (ap not (eq-eqb second.0 found.0 (second_is ∙ sym first_is))) ∙ parts.1)))
                | inr none ↦ omega (arith, less, none)
              ])
          | inr none ↦ omega (arith, none)
        ]
