-- Top trumps take a trick each, whoever leads and whatever anyone plays.
use Rattle.std.proofs.Common.{◌≡◌, ◌⊎◌, ℕ, zero, suc, ◌+◌, ◌<◌, ◌≤◌, Bool, true, false, not, eqb, cond, List, [], ◌∷◌, ◌++◌, length, map, get_or, refl, sym, ap, ◌∙◌, subst, inl, inr, arith}
use Rattle.std.proofs.lemmas.Bool.{cases_Bool, cases_eq, cases_lt, ne_eqb, false≢true, and_parts}
use Rattle.std.proofs.lemmas.List.{get_or-map, get_or_append_left}
use Rattle.std.proofs.Math.Seq.{get_or-append_seam}
use Rattle.card_sets.specs.declared.card.Suit.{Suit}
use Rattle.card_sets.specs.declared.seat.Seat.{Seat}
use Rattle.card_sets.specs.declared.seat.Seat.TheVariants.{Declarer, Left, Dummy, Right}
use Rattle.card_sets.specs.Cards.{suit_of, rank_of, same_suit, card_of}
use Rattle.card_sets.specs.SetWords.{has_card, IsCardSet, IsSubset}
use Rattle.card_sets.proofs.Sets.{has_card-below, IsCardSet-filter}
use Rattle.card_sets.proofs.SetCounts.{length-take_out, take_out-absent, length-IsSubset, has_card-length}
use Rattle.card_sets.proofs.Suits.{card_of-suit_of}
use Rattle.trick_rules.specs.declared.trump.Trump.{Trump}
use Rattle.trick_rules.specs.Positions.{TrickValue, PositionValue, State, seat_after, to_play, tricks_left, IsState}
use Rattle.trick_rules.specs.Play.{take_out, put_card, after_card, after, hand_of, legal_in, is_declarers, is_trump, strength, winner_of, cards_left, CanPlay, makes}
use Rattle.trick_rules.proofs.CardLists.{has_card-take_out, take_out-low}
use Rattle.trick_rules.proofs.TrickLemmas.{IsHighest, IsHighest-one, IsHighest-keeps, IsHighest-takes, winner_from_highest}
use Rattle.trick_rules.proofs.States.{after-IsState, after_card-trump, legal_can_play, legal_cards-low, hand_length, cards_left-after, cards_more}
use Rattle.trick_rules.proofs.Soundness.{after_short, after_third}
use Rattle.trick_rules.proofs.PlayLaws.{hands_are_apart, the_need_never_rises, the_need_falls_by_one_at_most}
use Rattle.sure_tricks.specs.Sure.{AreTopTrumps}
use Rattle.sure_tricks.proofs.Holding.{two_trumps}
use Rattle.sure_tricks.proofs.Hands.{seats_differ, seat_cases, hand_after, hand_set, by_each, Suffices, settled, tricks_within, tricks_last, suffices_within, suffices_after}

-- ---- sides

pub sides : (a b : Bool) → (a ≡ b) ⊎ (a ≡ not b)
sides true true = inl refl
sides true false = inr refl
sides false true = inr refl
sides false false = inl refl

pub two_sides : (a b : Bool) → a ≡ b → a ≡ not b → ⊥
two_sides true true e f = false≢true (sym f)
two_sides true false e f = false≢true (sym e)
two_sides false true e f = false≢true e
two_sides false false e f = false≢true f

partners_side : (x : Seat) → is_declarers (seat_after 2 x) ≡ is_declarers x
partners_side Declarer = refl
partners_side Left = refl
partners_side Dummy = refl
partners_side Right = refl

-- ---- the winner of a trick

-- the trumps of the other side in a trick are lower than a card
abbrev pub AreLower : Bool → Trump → ℕ → Seat → List ℕ → Type 0
AreLower b trump w leader cards = (k : ℕ) → k < length cards → is_declarers (seat_after k leader) ≡ not b
    → is_trump trump (get_or cards k 0) ≡ true → rank_of (get_or cards k 0) < rank_of w

pub highest_in : (xs : List ℕ) (i : ℕ) → (h : ℕ) × IsHighest xs (suc i) h
highest_in xs zero = (0, IsHighest-one xs)
highest_in xs (suc i) =
    let before : (h : ℕ) × IsHighest xs (suc i) h = highest_in xs i in
    elim (cases_lt (get_or xs before.0 0) (get_or xs (suc i) 0)) as (λ _. (h : ℕ) × IsHighest xs (suc (suc i)) h) [
      | inl high ↦ (suc i, subst (λ n. IsHighest xs n (suc i)) (omega arith) (IsHighest-takes xs (suc i) before.0 before.1 high))
      | inr low ↦ (before.0, subst (λ n. IsHighest xs n before.0) (omega arith) (IsHighest-keeps xs (suc i) before.0 before.1 low))
    ]

trump_strength : (trump : Trump) (led : Suit) (c : ℕ) → is_trump trump c ≡ true → strength trump led c ≡ 20 + rank_of c
trump_strength trump led c e = rw e refl

plain_strength : (trump : Trump) (led : Suit) (c : ℕ) → is_trump trump c ≡ false → strength trump led c ≤ 14
plain_strength trump led c e = rw e (at_most (same_suit (suit_of c) led))
  where
    at_most : (f : Bool) → cond f (rank_of c) 0 ≤ 14
    at_most true = omega arith
    at_most false = omega arith

-- the strongest card isn't one of the other side, where a trump is higher than the trumps of that side
not_beaten : (b : Bool) (trump : Trump) (leader : Seat) (d : ℕ) (rest : List ℕ) (p h : ℕ) → p < length (d ∷ rest) → is_trump trump (get_or (d ∷ rest) p 0) ≡ true
    → AreLower b trump (get_or (d ∷ rest) p 0) leader (d ∷ rest) → IsHighest (map (strength trump (suit_of d)) (d ∷ rest)) (length (d ∷ rest)) h
    → is_declarers (seat_after h leader) ≡ not b → ⊥
not_beaten b trump leader d rest p h low is lower high other =
    let most = high.most p low in
    let at_p = get_or-map (strength trump (suit_of d)) (d ∷ rest) p 0 0 low in
    let at_h = get_or-map (strength trump (suit_of d)) (d ∷ rest) h 0 0 high.within in
    let own = trump_strength trump (suit_of d) (get_or (d ∷ rest) p 0) is in
    elim (cases_Bool (is_trump trump (get_or (d ∷ rest) h 0))) as (λ _. ⊥) [
      | inl e ↦ (let less = lower h high.within other e in
          let theirs = trump_strength trump (suit_of d) (get_or (d ∷ rest) h 0) e in
          omega arith)
      | inr e ↦ (let theirs = plain_strength trump (suit_of d) (get_or (d ∷ rest) h 0) e in omega arith)
    ]

-- so that side doesn't win
side_wins : (b : Bool) (trump : Trump) (leader : Seat) (cards : List ℕ) (p : ℕ) → p < length cards → is_declarers (seat_after p leader) ≡ b
    → is_trump trump (get_or cards p 0) ≡ true → AreLower b trump (get_or cards p 0) leader cards
    → is_declarers (winner_of trump (record { leader = leader; cards = cards })) ≡ b
side_wins b trump leader [] p low own is lower = absurd (omega arith)
side_wins b trump leader (d ∷ rest) p low own is lower =
    let best : (h : ℕ) × IsHighest (map (strength trump (suit_of d)) (d ∷ rest)) (length (d ∷ rest)) h = highest_in (map (strength trump (suit_of d)) (d ∷ rest)) (length rest) in
    let won = ap is_declarers (winner_from_highest trump leader (d ∷ rest) best.0 (omega arith) best.1) in
    elim (sides (is_declarers (seat_after best.0 leader)) b) as (λ _. is_declarers (winner_of trump (record { leader = leader; cards = d ∷ rest })) ≡ b) [
      | inl e ↦ won ∙ e
      | inr e ↦ absurd (not_beaten b trump leader d rest p best.0 low is lower best.1 e)
    ]

-- one card more in the trick
lower_more : (b : Bool) (trump : Trump) (w : ℕ) (leader : Seat) (cards : List ℕ) (c : ℕ) → AreLower b trump w leader cards
    → (is_declarers (seat_after (length cards) leader) ≡ not b → is_trump trump c ≡ true → rank_of c < rank_of w)
    → AreLower b trump w leader (cards ++ c ∷ [])
lower_more b trump w leader cards c lower last k low other is = elim (cases_lt k (length cards)) as (λ _. rank_of (get_or (cards ++ c ∷ []) k 0) < rank_of w) [
  | inl before ↦ (let same = get_or_append_left cards (c ∷ []) 0 k before in
      subst (λ d. rank_of d < rank_of w) (sym same) (lower k before other (ap (is_trump trump) (sym same) ∙ is)))
  | inr past ↦ (let e : k ≡ length cards = omega (arith, low, past, more) in
      let same : get_or (cards ++ c ∷ []) k 0 ≡ c = ap (λ i. get_or (cards ++ c ∷ []) i 0) e ∙ get_or-append_seam cards c [] 0 in
      subst (λ d. rank_of d < rank_of w) (sym same)
      (last (ap (λ i. is_declarers (seat_after i leader)) (sym e) ∙ other) (ap (is_trump trump) (sym same) ∙ is)))
]
  where
    more : length (cards ++ c ∷ []) ≡ suc (length cards)
    more = longer cards
      where
        longer : (xs : List ℕ) → length (xs ++ c ∷ []) ≡ suc (length xs)
        longer [] = refl
        longer (x ∷ xs) = ap suc (longer xs)

-- ---- while the cards are played

-- the trumps of the other side, in the trick and in its hands, are lower than a card
pub record IsAbove (b : Bool) (trump : Trump) (w : ℕ) (s : State) : Type 0 where
  pub trick : AreLower b trump w s.position.trick.leader s.position.trick.cards
  pub hands : (seat : Seat) → is_declarers seat ≡ not b → (c : ℕ) → has_card (hand_of s seat) c ≡ true → is_trump trump c ≡ true → rank_of c < rank_of w

-- the seat has a trump in the trick that is above those of the other side
pub record IsAhead (x : Seat) (trump : Trump) (s : State) : Type 0 where
  pub on : 1 ≤ tricks_left s.position
  pub place : ℕ
  pub within : place < length s.position.trick.cards
  pub own : seat_after place s.position.trick.leader ≡ x
  pub is : is_trump trump (get_or s.position.trick.cards place 0) ≡ true
  pub above : IsAbove (is_declarers x) trump (get_or s.position.trick.cards place 0) s

-- trumps of the seat that are above those of the other side
pub record AreAbove (x : Seat) (trump : Trump) (top : List ℕ) (s : State) : Type 0 where
  pub ok : IsState s
  pub trump_is : s.position.trump ≡ trump
  pub set : IsCardSet top
  pub held : IsSubset top (hand_of s x)
  pub trumps : (c : ℕ) → has_card top c ≡ true → is_trump trump c ≡ true
  pub above : (c : ℕ) → has_card top c ≡ true → IsAbove (is_declarers x) trump c s

-- a trick for each of them, and the present one where the seat is ahead in it
abbrev pub IsOwed : Seat → Trump → List ℕ → State → ℕ → Type 0
IsOwed x trump top s k = (k ≡ length top) ⊎ ((k ≡ suc (length top)) × IsAhead x trump s)

module _ (x : Seat) (trump : Trump) (s : State) (ok : IsState s) (c : ℕ) (legal : has_card (legal_in s) c ≡ true) where
  in_hand : has_card (hand_of s (to_play s.position)) c ≡ true
  in_hand = legal_cards-low s.position.trick.cards (hand_of s (to_play s.position)) c legal

  can : CanPlay s.position c
  can = legal_can_play s ok c legal

  no_more : (seat : Seat) (d : ℕ) → has_card (hand_of (after s c) seat) d ≡ true → has_card (hand_of s seat) d ≡ true
  no_more seat d h = take_out-low c (hand_of s seat) d (sym (ap (λ (l : List ℕ). has_card l d) (hand_after s c seat)) ∙ h)

  above_more : (b : Bool) (w : ℕ) → IsAbove b trump w s → AreLower b trump w s.position.trick.leader (s.position.trick.cards ++ c ∷ [])
  above_more b w a = lower_more b trump w s.position.trick.leader s.position.trick.cards c a.trick (λ other is. a.hands (to_play s.position) other c in_hand is)

  above_short : length s.position.trick.cards < 3 → (b : Bool) (w : ℕ) → IsAbove b trump w s → IsAbove b trump w (after s c)
  above_short short b w a = record {
    trick = subst (λ (t : TrickValue). AreLower b trump w t.leader t.cards) (sym (ap (λ (u : PositionValue). u.trick) (after_short s.position c short))) (above_more b w a);
    hands = λ seat other d h is. a.hands seat other d (no_more seat d h) is;
  }

  above_third : length s.position.trick.cards ≡ 3 → (b : Bool) (w : ℕ) → IsAbove b trump w s → IsAbove b trump w (after s c)
  above_third third b w a = record {
    trick = subst (λ (l : List ℕ). AreLower b trump w (after s c).position.trick.leader l) (sym (ap (λ (u : PositionValue). u.trick.cards) (after_third s.position c third))) (λ k low. absurd (omega arith));
    hands = λ seat other d h is. a.hands seat other d (no_more seat d h) is;
  }

  module _ (top : List ℕ) (are : AreAbove x trump top s) where
    -- one of them is played by the seat
    turn : has_card top c ≡ true → to_play s.position ≡ x
    turn among = elim (seat_cases (to_play s.position) x) as (λ _. to_play s.position ≡ x) [
      | inl e ↦ e
      | inr differ ↦ absurd (false≢true (sym (hands_are_apart s (to_play s.position) x ok differ c in_hand) ∙ are.held c among))
    ]

    are_after : ((w : ℕ) → IsAbove (is_declarers x) trump w s → IsAbove (is_declarers x) trump w (after s c)) → AreAbove x trump (take_out c top) (after s c)
    are_after step = record {
      ok = after-IsState s ok c legal;
      trump_is = after_card-trump s.position c ∙ are.trump_is;
      set = IsCardSet-filter (λ d. not (eqb d c)) top are.set;
      held = λ d h.
          let both = and_parts (has_card top d) (not (eqb d c)) (sym (has_card-take_out c top d) ∙ h) in
          ap (λ (l : List ℕ). has_card l d) (hand_after s c x) ∙ has_card-take_out c (hand_of s x) d ∙ rw (are.held d both.0, both.1) refl;
      trumps = λ d h. are.trumps d (take_out-low c top d h);
      above = λ d h. step d (are.above d (take_out-low c top d h));
    }

    -- a seat plays once to a trick
    not_ahead : length s.position.trick.cards < 4 → has_card top c ≡ true → IsAhead x trump s → ⊥
    not_ahead short among ahead =
        let within = ahead.within in
        seats_differ ahead.place (length s.position.trick.cards) s.position.trick.leader (omega arith) short (λ e. omega arith) (ahead.own ∙ sym (turn among))

    fewer : has_card top c ≡ true → suc (length (take_out c top)) ≡ length top
    fewer among = omega (arith, length-take_out top c are.set among)

    same : has_card top c ≡ false → take_out c top ≡ top
    same out = take_out-absent top c out

    -- ---- within the trick

    module _ (short : length s.position.trick.cards < 3) where
      is : after_card s.position c ≡ put_card s.position c
      is = after_short s.position c short

      played : length (after s c).position.trick.cards ≡ suc (length s.position.trick.cards)
      played = ap (λ (u : PositionValue). length u.trick.cards) is ∙ cards_more s.position c

      goes_ahead : has_card top c ≡ true → IsAhead x trump (after s c)
      goes_ahead among =
          let tricks = tricks_within s.position c ok.sound can short in
          let hand = hand_length s ok (to_play s.position) in
          let some = has_card-length (hand_of s (to_play s.position)) c in_hand in
          let last : get_or (after s c).position.trick.cards (length s.position.trick.cards) 0 ≡ c =
          ap (λ (u : PositionValue). get_or u.trick.cards (length s.position.trick.cards) 0) is ∙ get_or-append_seam s.position.trick.cards c [] 0 in
          record {
            on = omega arith;
            place = length s.position.trick.cards;
            within = omega (arith, played);
            own = ap (λ (u : PositionValue). seat_after (length s.position.trick.cards) u.trick.leader) is ∙ turn among;
            is = ap (is_trump trump) last ∙ are.trumps c among;
            above = subst (λ w. IsAbove (is_declarers x) trump w (after s c)) (sym last) (above_short short (is_declarers x) c (are.above c among));
          }

      stays_ahead : IsAhead x trump s → IsAhead x trump (after s c)
      stays_ahead ahead =
          let tricks = tricks_within s.position c ok.sound can short in
          let on = ahead.on in
          let within = ahead.within in
          let kept : get_or (after s c).position.trick.cards ahead.place 0 ≡ get_or s.position.trick.cards ahead.place 0 =
          ap (λ (u : PositionValue). get_or u.trick.cards ahead.place 0) is ∙ get_or_append_left s.position.trick.cards (c ∷ []) 0 ahead.place within in
          record {
            on = omega arith;
            place = ahead.place;
            within = omega (arith, played);
            own = ap (λ (u : PositionValue). seat_after ahead.place u.trick.leader) is ∙ ahead.own;
            is = ap (is_trump trump) kept ∙ ahead.is;
            above = subst (λ w. IsAbove (is_declarers x) trump w (after s c)) (sym kept)
                (above_short short (is_declarers x) (get_or s.position.trick.cards ahead.place 0) ahead.above);
          }

      owed_short : (k : ℕ) → IsOwed x trump top s k → IsOwed x trump (take_out c top) (after s c) k
      owed_short k owed = elim (cases_Bool (has_card top c)) as (λ _. IsOwed x trump (take_out c top) (after s c) k) [
        | inl among ↦ elim owed as (λ _. IsOwed x trump (take_out c top) (after s c) k) [
          | inl e ↦ inr (e ∙ sym (fewer among), goes_ahead among)
          | inr ahead ↦ absurd (not_ahead (omega arith) among ahead.1)
        ]
        | inr out ↦ elim owed as (λ _. IsOwed x trump (take_out c top) (after s c) k) [
          | inl e ↦ inl (e ∙ ap (length {A = ℕ}) (sym (same out)))
          | inr ahead ↦ inr (ahead.0 ∙ ap (λ (l : List ℕ). suc (length l)) (sym (same out)), stays_ahead ahead.1)
        ]
      ]

    -- ---- the last card of the trick

    module _ (third : length s.position.trick.cards ≡ 3) where
      wins : (p : ℕ) (w : ℕ) → p < 4 → seat_after p s.position.trick.leader ≡ x → get_or (s.position.trick.cards ++ c ∷ []) p 0 ≡ w → is_trump trump w ≡ true
          → IsAbove (is_declarers x) trump w s → is_declarers (winner_of s.position.trump (put_card s.position c).trick) ≡ is_declarers x
      wins p w low own card trump_w above =
          ap (λ (t : Trump). is_declarers (winner_of t (put_card s.position c).trick)) are.trump_is
          ∙ side_wins (is_declarers x) trump s.position.trick.leader (s.position.trick.cards ++ c ∷ []) p
          (omega (arith, cards_more s.position c)) (ap is_declarers own) (ap (is_trump trump) card ∙ trump_w)
          (subst (λ v. AreLower (is_declarers x) trump v s.position.trick.leader (s.position.trick.cards ++ c ∷ [])) (sym card) (above_more (is_declarers x) w above))

      card_wins : has_card top c ≡ true → is_declarers (winner_of s.position.trump (put_card s.position c).trick) ≡ is_declarers x
      card_wins among = wins 3 c (omega arith) (ap (λ n. seat_after n s.position.trick.leader) (sym third) ∙ turn among)
          (ap (λ n. get_or (s.position.trick.cards ++ c ∷ []) n 0) (sym third) ∙ get_or-append_seam s.position.trick.cards c [] 0)
          (are.trumps c among) (are.above c among)

      ahead_wins : IsAhead x trump s → is_declarers (winner_of s.position.trump (put_card s.position c).trick) ≡ is_declarers x
      ahead_wins ahead = let within = ahead.within in wins ahead.place (get_or s.position.trick.cards ahead.place 0) (omega arith) ahead.own
          (get_or_append_left s.position.trick.cards (c ∷ []) 0 ahead.place within) ahead.is ahead.above

      -- whoever wins it
      anyone : (b : Bool) (k : ℕ) → Suffices b s.position k → Suffices b (after_card s.position c) k
      anyone true k h = omega (arith, the_need_never_rises s.position c ok.sound)
      anyone false k h =
          let one : cond {A = ℕ} (eqb (length s.position.trick.cards) 3) 1 0 ≡ 1 = rw third refl in
          omega (arith, tricks_last s.position c ok.sound can third, the_need_falls_by_one_at_most s.position c ok.sound, one)

      owed_third : (k : ℕ) → IsOwed x trump top s k → Suffices (is_declarers x) s.position k → Suffices (is_declarers x) (after_card s.position c) (length (take_out c top))
      owed_third k owed h = elim (cases_Bool (has_card top c)) as (λ _. Suffices (is_declarers x) (after_card s.position c) (length (take_out c top))) [
        | inl among ↦ elim owed as (λ _. Suffices (is_declarers x) (after_card s.position c) (length (take_out c top))) [
          | inl e ↦ suffices_after (is_declarers x) s.position c (length (take_out c top)) ok.sound can third (card_wins among)
              (subst (λ n. Suffices (is_declarers x) s.position n) (e ∙ sym (fewer among)) h)
          | inr ahead ↦ absurd (not_ahead (omega arith) among ahead.1)
        ]
        | inr out ↦ elim owed as (λ _. Suffices (is_declarers x) (after_card s.position c) (length (take_out c top))) [
          | inl e ↦ anyone (is_declarers x) (length (take_out c top))
              (subst (λ n. Suffices (is_declarers x) s.position n) (e ∙ ap (length {A = ℕ}) (sym (same out))) h)
          | inr ahead ↦ suffices_after (is_declarers x) s.position c (length (take_out c top)) ok.sound can third (ahead_wins ahead.1)
              (subst (λ n. Suffices (is_declarers x) s.position n) (ahead.0 ∙ ap (λ (l : List ℕ). suc (length l)) (sym (same out))) h)
        ]
      ]

-- ---- card after card

-- nothing is owed where no trick is left
none_owed : (x : Seat) (trump : Trump) (top : List ℕ) (s : State) (k : ℕ) → AreAbove x trump top s → IsOwed x trump top s k → tricks_left s.position ≡ 0 → k ≡ 0
none_owed x trump top s k are owed none = elim owed as (λ _. k ≡ 0) [
  | inl e ↦ (let hand = hand_length s are.ok x in
      let part = length-IsSubset (hand_of s x) top (hand_set s are.ok x) are.set are.held in
      omega arith)
  | inr ahead ↦ (let on = (ahead.1).on in absurd (omega arith))
]

owed_tricks : (n : ℕ) (x : Seat) (trump : Trump) (top : List ℕ) (s : State) (k : ℕ) → AreAbove x trump top s → IsOwed x trump top s k → cards_left s.position < n
    → Suffices (is_declarers x) s.position k → makes s ≡ is_declarers x
owed_tricks zero x trump top s k are owed few h = absurd (omega arith)
owed_tricks (suc n) x trump top s k are owed few h = elim (cases_eq (tricks_left s.position) 0) as (λ _. makes s ≡ is_declarers x) [
  | inl e ↦ settled s (is_declarers x) are.ok (subst (λ i. Suffices (is_declarers x) s.position i) (none_owed x trump top s k are owed e) h)
  | inr e ↦ by_each s (is_declarers x) are.ok (ne_eqb (tricks_left s.position) 0 e) (λ c legal.
      let ok = are.ok in
      let can : CanPlay s.position c = legal_can_play s ok c legal in
      let left = cards_left-after s.position c ok.sound can in
      elim (cases_lt (length s.position.trick.cards) 3) as (λ _. makes (after s c) ≡ is_declarers x) [
        | inl short ↦ owed_tricks n x trump (take_out c top) (after s c) k (are_after x trump s ok c legal top are (above_short x trump s ok c legal short (is_declarers x)))
            (owed_short x trump s ok c legal top are short k owed) (omega arith) (suffices_within (is_declarers x) s.position c k ok.sound can short h)
        | inr past ↦ (let third : length s.position.trick.cards ≡ 3 = omega (arith, past, ok.sound.trick_short) in
            owed_tricks n x trump (take_out c top) (after s c) (length (take_out c top)) (are_after x trump s ok c legal top are (above_third x trump s ok c legal third (is_declarers x)))
            (inl refl) (omega arith) (owed_third x trump s ok c legal top are third k owed h))
      ])
]

-- ---- between two tricks

-- of two trumps the higher has the higher rank
ranked : (trump : Trump) (c d : ℕ) → c < 52 → d < 52 → is_trump trump c ≡ true → is_trump trump d ≡ true → c < d → rank_of c < rank_of d
ranked trump c d low_c low_d tc td less =
    let suits = two_trumps trump c d tc td in
    let one : card_of (suit_of d) (rank_of c) ≡ c = ap (λ suit. card_of suit (rank_of c)) (sym suits) ∙ card_of-suit_of c low_c in
    let other : card_of (suit_of d) (rank_of d) ≡ d = card_of-suit_of d low_d in
    omega (arith, one, other)

begun : (s : State) (x : Seat) (top : List ℕ) → IsState s → s.position.trick.cards ≡ [] → AreTopTrumps s x top → AreAbove x s.position.trump top s
begun s x top ok none are = record {
  ok = ok;
  trump_is = refl;
  set = are.set;
  held = are.held;
  trumps = are.trumps;
  above = λ w among. record {
    trick = subst (λ (l : List ℕ). AreLower (is_declarers x) s.position.trump w s.position.trick.leader l) (sym none) (λ k low. absurd (omega arith));
    hands = λ seat other c held is. ranked s.position.trump c w (has_card-below (hand_of s seat) c (hand_set s ok seat) held) (has_card-below top w are.set among) is (are.trumps w among)
        (lower w among seat other c held is);
  };
}
  where
    lower : (w : ℕ) → has_card top w ≡ true → (seat : Seat) → is_declarers seat ≡ not (is_declarers x) → (c : ℕ) → has_card (hand_of s seat) c ≡ true → is_trump s.position.trump c ≡ true → c < w
    lower w among seat other c held is = elim (cases_lt c w) as (λ _. c < w) [
      | inl less ↦ less
      | inr more ↦ elim (cases_eq c w) as (λ _. c < w) [
        | inl e ↦ absurd (false≢true (sym (hands_are_apart s x seat ok (λ i. two_sides (is_declarers seat) (is_declarers x) (ap is_declarers (sym i)) other) w (are.held w among))
            ∙ subst (λ d. has_card (hand_of s seat) d ≡ true) e held))
        | inr differ ↦ elim (are.highest w c seat among held is (omega (arith, more, differ))) as (λ _. c < w) [
          | inl i ↦ absurd (two_sides (is_declarers seat) (is_declarers x) (ap is_declarers i) other)
          | inr i ↦ absurd (two_sides (is_declarers seat) (is_declarers x) (ap is_declarers i ∙ partners_side x) other)
        ]
      ]
    ]

pub top_trumps : (s : State) (x : Seat) (top : List ℕ) → IsState s → s.position.trick.cards ≡ [] → AreTopTrumps s x top
    → Suffices (is_declarers x) s.position (length top) → makes s ≡ is_declarers x
top_trumps s x top ok none are h =
    owed_tricks (suc (cards_left s.position)) x s.position.trump top s (length top) (begun s x top ok none are) (inl refl) (omega arith) h

pub our_top_trumps_win : (s : State) (x : Seat) (top : List ℕ) → IsState s → s.position.trick.cards ≡ [] → AreTopTrumps s x top → is_declarers x ≡ true
    → s.position.need ≤ length top → makes s ≡ true
our_top_trumps_win s x top ok none are side h = top_trumps s x top ok none are (subst (λ b. Suffices b s.position (length top)) (sym side) h) ∙ side

pub their_top_trumps_win : (s : State) (x : Seat) (top : List ℕ) → IsState s → s.position.trick.cards ≡ [] → AreTopTrumps s x top → is_declarers x ≡ false
    → tricks_left s.position < s.position.need + length top → makes s ≡ false
their_top_trumps_win s x top ok none are side h = top_trumps s x top ok none are (subst (λ b. Suffices b s.position (length top)) (sym side) h) ∙ side
