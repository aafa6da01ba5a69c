-- Two cards that exchange their names, and who takes a trick then.
use Rattle.std.proofs.Common.{◌≡◌, ◌≢◌, ℕ, zero, suc, ◌<◌, ◌≤◌, Bool, true, false, not, ◌&&◌, ◌||◌, cond, eqb, ltb, List, [], ◌∷◌, length, map, get_or, All, AllPairs, refl, sym, ap, subst, ◌∙◌, inl, inr, arith}
use Rattle.std.proofs.lemmas.Bool.{false≢true, eq-eqb, ne_eqb, cases_eq, cases_lt, cases_Bool, lt-ltb, le-ltb, and_parts, false_from_ne_true}
use Rattle.std.proofs.lemmas.List.{get_or-map, length-map}
use Rattle.card_sets.specs.declared.card.Suit.{Suit}
use Rattle.card_sets.specs.declared.seat.Seat.{Seat}
use Rattle.card_sets.specs.Cards.{suit_of, rank_of, same_suit, suit_place}
use Rattle.card_sets.specs.SetWords.{has_card}
use Rattle.card_sets.proofs.Suits.{card_of-suit_of, same_suit-true}
use Rattle.trick_rules.specs.declared.trump.Trump.{Trump}
use Rattle.trick_rules.specs.declared.trump.Trump.TheVariants.{NoTrump, Suit as Suited}
use Rattle.trick_rules.specs.Positions.{seat_after}
use Rattle.trick_rules.specs.Play.{is_trump, beats, IsWonBy, winner_of}
use Rattle.trick_rules.proofs.CardLists.{or_true, first_has}
use Rattle.trick_rules.proofs.TrickLemmas.{one_winner}

-- ---- names exchanged

-- a card under its new name where two cards exchange their names
abbrev pub swap : ℕ → ℕ → ℕ → ℕ
swap a b c = cond (eqb c a) b (cond (eqb c b) a c)

pub swap-first : (a b : ℕ) → swap a b a ≡ b
swap-first a b = rw (eq-eqb a a refl) refl

pub swap-second : (a b : ℕ) → swap a b b ≡ a
swap-second a b =
    elim (cases_eq b a) as (λ _. swap a b b ≡ a) [
      | inl e ↦ rw (eq-eqb b a e) e
      | inr e ↦ rw (ne_eqb b a e, eq-eqb b b refl) refl
    ]

pub swap-other : (a b c : ℕ) → c ≢ a → c ≢ b → swap a b c ≡ c
swap-other a b c e f = rw (ne_eqb c a e, ne_eqb c b f) refl

-- the two cards and the others
pub each_card : (a b : ℕ) (P : ℕ → Type 0) → P a → P b → ((c : ℕ) → c ≢ a → c ≢ b → P c) → (c : ℕ) → P c
each_card a b P p q r c =
    elim (cases_eq c a) as (λ _. P c) [
      | inl e ↦ subst P (sym e) p
      | inr e ↦ elim (cases_eq c b) as (λ _. P c) [
        | inl f ↦ subst P (sym f) q
        | inr f ↦ r c e f
      ]
    ]

pub swap-swap : (a b c : ℕ) → swap a b (swap a b c) ≡ c
swap-swap a b = each_card a b (λ c. swap a b (swap a b c) ≡ c)
    (ap (swap a b) (swap-first a b) ∙ swap-second a b)
    (ap (swap a b) (swap-second a b) ∙ swap-first a b)
    (λ c e f. ap (swap a b) (swap-other a b c e f) ∙ swap-other a b c e f)

pub swap-eqb : (a b c d : ℕ) → eqb d (swap a b c) ≡ eqb (swap a b d) c
swap-eqb a b c d =
    elim (cases_eq (swap a b d) c) as (λ _. eqb d (swap a b c) ≡ eqb (swap a b d) c) [
      | inl e ↦ eq-eqb d (swap a b c) (sym (swap-swap a b d) ∙ ap (swap a b) e) ∙ sym (eq-eqb (swap a b d) c e)
      | inr e ↦ ne_eqb d (swap a b c) (λ f. e (ap (swap a b) f ∙ swap-swap a b c)) ∙ sym (ne_eqb (swap a b d) c e)
    ]

pub swap-suit : (a b : ℕ) → suit_of a ≡ suit_of b → (c : ℕ) → suit_of (swap a b c) ≡ suit_of c
swap-suit a b suit = each_card a b (λ c. suit_of (swap a b c) ≡ suit_of c)
    (ap suit_of (swap-first a b) ∙ sym suit)
    (ap suit_of (swap-second a b) ∙ suit)
    (λ c e f. ap suit_of (swap-other a b c e f))

-- ---- the order of cards

same_ltb : (p q r t : ℕ) → (p < q → r < t) → (r < t → p < q) → ltb p q ≡ ltb r t
same_ltb p q r t there back =
    elim (cases_lt p q) as (λ _. ltb p q ≡ ltb r t) [
      | inl h ↦ lt-ltb p q h ∙ sym (lt-ltb r t (there h))
      | inr h ↦ le-ltb p q h ∙ sym (elim (cases_lt r t) as (λ _. ltb r t ≡ false) [
        | inl k ↦ absurd (omega (arith, back k))
        | inr k ↦ le-ltb r t k
      ])
    ]

-- within a suit ranks are ordered as cards are
rank_order : (c d : ℕ) → c < 52 → d < 52 → suit_of c ≡ suit_of d → ltb (rank_of c) (rank_of d) ≡ ltb c d
rank_order c d one other suit =
    let e = card_of-suit_of c one in
    let f = card_of-suit_of d other in
    let g = ap suit_place suit in
    same_ltb (rank_of c) (rank_of d) c d (λ h. omega (arith, e, f, g)) (λ h. omega (arith, e, f, g))

-- a card that isn't between two others
abbrev pub NotBetween : ℕ → ℕ → ℕ → Type 0
NotBetween a b c = a < c → c < b → ⊥

below_low : (a b c : ℕ) → NotBetween a b c → c ≢ a → c < b → c < a
below_low a b c not_between other low =
    elim (cases_lt c a) as (λ _. c < a) [
      | inl h ↦ h
      | inr h ↦ absurd (not_between (le_ne_lt a c h (λ e. other (sym e))) low)
    ]
  where
    le_ne_lt : (m n : ℕ) → m ≤ n → m ≢ n → m < n
    le_ne_lt m n h ne = elim (cases_lt m n) as (λ _. m < n) [
      | inl k ↦ k
      | inr k ↦ absurd (ne (omega arith))
    ]

-- two cards compare as before where neither lies between the two that exchange their names, and they aren't these two
order-swap : (a b : ℕ) → a < b → (c d : ℕ) → NotBetween a b c → NotBetween a b d → (c ≡ a → d ≡ b → ⊥) → (c ≡ b → d ≡ a → ⊥) → ltb (swap a b c) (swap a b d) ≡ ltb c d
order-swap a b order =
    each_card a b (λ c. (d : ℕ) → NotBetween a b c → NotBetween a b d → (c ≡ a → d ≡ b → ⊥) → (c ≡ b → d ≡ a → ⊥) → ltb (swap a b c) (swap a b d) ≡ ltb c d)
    (each_card a b (λ d. NotBetween a b a → NotBetween a b d → (a ≡ a → d ≡ b → ⊥) → (a ≡ b → d ≡ a → ⊥) → ltb (swap a b a) (swap a b d) ≡ ltb a d)
    (λ m n x y. rw (swap-first a b) (le-ltb b b (omega arith) ∙ sym (le-ltb a a (omega arith))))
    (λ m n x y. absurd (x refl refl))
    (λ d e f m n x y. rw (swap-first a b, swap-other a b d e f) (same_ltb b d a d (λ h. omega arith) (λ h. omega (arith, n, e, f)))))
    (each_card a b (λ d. NotBetween a b b → NotBetween a b d → (b ≡ a → d ≡ b → ⊥) → (b ≡ b → d ≡ a → ⊥) → ltb (swap a b b) (swap a b d) ≡ ltb b d)
    (λ m n x y. absurd (y refl refl))
    (λ m n x y. rw (swap-second a b) (le-ltb a a (omega arith) ∙ sym (le-ltb b b (omega arith))))
    (λ d e f m n x y. rw (swap-second a b, swap-other a b d e f) (same_ltb a d b d (λ h. omega (arith, n, e, f)) (λ h. omega arith))))
    (λ c e f. each_card a b (λ d. NotBetween a b c → NotBetween a b d → (c ≡ a → d ≡ b → ⊥) → (c ≡ b → d ≡ a → ⊥) → ltb (swap a b c) (swap a b d) ≡ ltb c d)
    (λ m n x y. rw (swap-first a b, swap-other a b c e f) (same_ltb c b c a (below_low a b c m e) (λ h. omega arith)))
    (λ m n x y. rw (swap-second a b, swap-other a b c e f) (same_ltb c a c b (λ h. omega arith) (below_low a b c m e)))
    (λ d g h m n x y. rw (swap-other a b c e f, swap-other a b d g h) refl))

-- ---- who takes a trick

-- what one card's beating another comes to: whether each is a trump, whether each is of the suit led, and whether the first is the higher
abbrev pub beaten : Bool → Bool → Bool → Bool → Bool → Bool
beaten tc td fc fd higher = cond td (tc && higher) (tc || fc && (not fd || higher))

-- of two suits the ranks don't matter
pub beaten_apart : (tc td fc fd h k : Bool) → (tc && td) ≡ false → (fc && fd) ≡ false → beaten tc td fc fd h ≡ beaten tc td fc fd k
beaten_apart true true fc fd h k t f = absurd (false≢true (sym t))
beaten_apart false true fc fd h k t f = refl
beaten_apart true false fc fd h k t f = refl
beaten_apart false false true true h k t f = absurd (false≢true (sym f))
beaten_apart false false true false h k t f = refl
beaten_apart false false false fd h k t f = refl

pub two_suits : (x y suit : Suit) → same_suit x y ≡ false → (same_suit x suit && same_suit y suit) ≡ false
two_suits x y suit differ =
    false_from_ne_true (same_suit x suit && same_suit y suit) (λ h.
    let both = and_parts (same_suit x suit) (same_suit y suit) h in
    false≢true (sym differ ∙ ap (same_suit x) (same_suit-true y suit both.1) ∙ both.0))

pub two_trumps : (trump : Trump) (c d : ℕ) → same_suit (suit_of c) (suit_of d) ≡ false → (is_trump trump c && is_trump trump d) ≡ false
two_trumps NoTrump c d differ = refl
two_trumps (Suited suit) c d differ = two_suits (suit_of c) (suit_of d) suit differ

trump_suit : (trump : Trump) (c d : ℕ) → suit_of c ≡ suit_of d → is_trump trump c ≡ is_trump trump d
trump_suit NoTrump c d e = refl
trump_suit (Suited suit) c d e = ap (λ s. same_suit s suit) e

-- one card beats another under their new names where it did under the old ones
beats-swap : (a b : ℕ) → suit_of a ≡ suit_of b → a < b → b < 52 → (trump : Trump) (led : Suit) (c d : ℕ) → c < 52 → d < 52
    → NotBetween a b c → NotBetween a b d → (c ≡ a → d ≡ b → ⊥) → (c ≡ b → d ≡ a → ⊥) → beats trump led (swap a b c) (swap a b d) ≡ beats trump led c d
beats-swap a b suit order low trump led c d one other m n x y =
    let sc = swap-suit a b suit c in
    let sd = swap-suit a b suit d in
    let tc = trump_suit trump (swap a b c) c sc in
    let td = trump_suit trump (swap a b d) d sd in
    elim (cases_Bool (same_suit (suit_of c) (suit_of d))) as (λ _. beats trump led (swap a b c) (swap a b d) ≡ beats trump led c d) [
      | inl e ↦
          (let same : suit_of d ≡ suit_of c = sym (same_suit-true (suit_of c) (suit_of d) e) in
          let ranks : ltb (rank_of (swap a b d)) (rank_of (swap a b c)) ≡ ltb (rank_of d) (rank_of c) =
          rank_order (swap a b d) (swap a b c) (swap_low a b (λ _. order) low d other) (swap_low a b (λ _. order) low c one) (sd ∙ same ∙ sym sc)
          ∙ order-swap a b order d c n m (λ p q. y q p) (λ p q. x q p) ∙ sym (rank_order d c other one same) in
          rw (tc, td, sc, sd, ranks) refl)
      | inr e ↦
          (let h = ltb (rank_of (swap a b d)) (rank_of (swap a b c)) in
          let k = ltb (rank_of d) (rank_of c) in
          rw (tc, td, sc, sd) (beaten_apart (is_trump trump c) (is_trump trump d) (same_suit (suit_of c) led) (same_suit (suit_of d) led) h k
          (two_trumps trump c d e) (two_suits (suit_of c) (suit_of d) led e)))
    ]
  where
    swap_low : (a b : ℕ) → (ℕ → a < b) → b < 52 → (c : ℕ) → c < 52 → swap a b c < 52
    swap_low a b order low = each_card a b (λ c. c < 52 → swap a b c < 52)
        (λ h. rw (swap-first a b) low)
        (λ h. rw (swap-second a b) (let o = order 0 in omega arith))
        (λ c e f h. rw (swap-other a b c e f) h)

-- the cards of a trick, of which no two are the same, none lies between the two cards, and not both are among them
pub record TrickOf (a b : ℕ) (cards : List ℕ) : Type 0 where
  pub low : All (λ c. c < 52) cards
  pub differ : AllPairs (λ c d. c ≢ d) cards
  pub between : (c : ℕ) → has_card cards c ≡ true → NotBetween a b c
  pub one : has_card cards a ≡ true → has_card cards b ≡ false

card_at : (xs : List ℕ) (k : ℕ) → k < length xs → has_card xs (get_or xs k 0) ≡ true
card_at [] k h = absurd (omega arith)
card_at (x ∷ xs) zero h = first_has x xs
card_at (x ∷ xs) (suc k) h = rw (card_at xs k (omega arith)) (or_true (eqb x (get_or xs k 0)))

module _ (a b : ℕ) (suit : suit_of a ≡ suit_of b) (order : a < b) (low : b < 52) (trump : Trump) (cards : List ℕ) (ok : TrickOf a b cards) where
  new_at : (k : ℕ) → k < length cards → get_or (map (swap a b) cards) k 0 ≡ swap a b (get_or cards k 0)
  new_at k h = get_or-map (swap a b) cards k 0 0 h

  beats_at : (i j : ℕ) → i < length cards → j < length cards → beats trump (suit_of (get_or (map (swap a b) cards) 0 0)) (get_or (map (swap a b) cards) i 0) (get_or (map (swap a b) cards) j 0)
      ≡ beats trump (suit_of (get_or cards 0 0)) (get_or cards i 0) (get_or cards j 0)
  beats_at i j hi hj =
      let c = get_or cards i 0 in
      let d = get_or cards j 0 in
      let led : suit_of (get_or (map (swap a b) cards) 0 0) ≡ suit_of (get_or cards 0 0) = ap suit_of (new_at 0 (omega arith)) ∙ swap-suit a b suit (get_or cards 0 0) in
      rw (led, new_at i hi, new_at j hj)
      (beats-swap a b suit order low trump (suit_of (get_or cards 0 0)) c d (ok.low i 0 hi) (ok.low j 0 hj) (ok.between c (card_at cards i hi)) (ok.between d (card_at cards j hj))
      (λ p q. false≢true (sym (ok.one (subst (λ x. has_card cards x ≡ true) p (card_at cards i hi))) ∙ subst (λ x. has_card cards x ≡ true) q (card_at cards j hj)))
      (λ p q. false≢true (sym (ok.one (subst (λ x. has_card cards x ≡ true) q (card_at cards j hj))) ∙ subst (λ x. has_card cards x ≡ true) p (card_at cards i hi))))

  won_as_before : (place : ℕ) → IsWonBy trump cards place → IsWonBy trump (map (swap a b) cards) place
  won_as_before place h = record {
    within = rw length-map h.within;
    beats_each = λ other k differs. (let k' : other < length cards = rw length-map at k in beats_at place other h.within k' ∙ h.beats_each other k' differs);
  }

-- the same seat takes the trick
pub winner-swap : (a b : ℕ) → suit_of a ≡ suit_of b → a < b → b < 52 → (trump : Trump) (leader : Seat) (cards : List ℕ) → 1 ≤ length cards → TrickOf a b cards
    → All (λ c. c < 52) (map (swap a b) cards) → AllPairs (λ c d. c ≢ d) (map (swap a b) cards)
    → winner_of trump (record { leader = leader; cards = map (swap a b) cards }) ≡ winner_of trump (record { leader = leader; cards = cards })
winner-swap a b suit order low trump leader cards some ok new_low new_differ =
    let old = one_winner trump (record { leader = leader; cards = cards }) some ok.low ok.differ in
    let new = one_winner trump (record { leader = leader; cards = map (swap a b) cards }) (rw length-map some) new_low new_differ in
    let same : old.0 ≡ new.0 = new.2 old.0 (won_as_before a b suit order low trump cards ok old.0 old.1) in
    new.3 ∙ ap (λ place. seat_after place leader) (sym same) ∙ sym old.3
