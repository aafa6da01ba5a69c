-- Who takes a trick.
use Rattle.std.proofs.Common.{◌≡◌, ◌≢◌, ℕ, zero, suc, ◌+◌, ◌/◌, ◌<◌, ◌≤◌, Bool, true, false, not, ◌&&◌, ◌||◌, cond, eqb, ltb, List, [], ◌∷◌, length, map, get_or, All, AllPairs, refl, sym, ap, ◌∙◌, inl, inr, arith, add-one}
use Rattle.std.specs.Prelude.{◌⊎◌}
use Rattle.std.specs.List.{position_or_len}
use Rattle.std.proofs.lemmas.Bool.{false≢true, eqb-true, eq-eqb, ne_eqb, cases_eq, cases_lt, cases_order, lt-ltb, le-ltb, ltb-true}
use Rattle.std.proofs.lemmas.Bool.Decides.{nat_tests}
use Rattle.std.proofs.lemmas.List.Sums.{position_or_len_is}
use Rattle.std.proofs.lemmas.Grind.{get_or_default_zero}
use Rattle.std.proofs.lemmas.List.{get_or-map, length-map}
use Rattle.card_sets.specs.declared.card.Suit.{Suit}
use Rattle.card_sets.specs.declared.seat.Seat.{Seat}
use Rattle.card_sets.specs.Cards.{suit_of, rank_of, same_suit, suit_place}
use Rattle.card_sets.proofs.Suits.{same_suit-true}
use Rattle.trick_rules.specs.declared.trump.Trump.{Trump}
use Rattle.trick_rules.specs.declared.trump.Trump.TheVariants.{NoTrump, Suit as Suited}
use Rattle.trick_rules.specs.Positions.{TrickValue, seat_after}
use Rattle.trick_rules.specs.Play.{is_trump, strength, greatest, winning_place, beats, IsWonBy, winner_of}

-- ---- the place of the greatest number

pub record IsHighest (xs : List ℕ) (i b : ℕ) : Type 0 where
  pub within : b < i
  pub most : (k : ℕ) → k < i → get_or xs k 0 ≤ get_or xs b 0
  pub first : (k : ℕ) → k < b → get_or xs k 0 < get_or xs b 0

pub IsHighest-one : (xs : List ℕ) → IsHighest xs 1 0
IsHighest-one xs = record {
  within = omega arith;
  most = λ k h. (let e : k ≡ 0 = omega arith in rw e (omega arith));
  first = λ k h. absurd (omega arith);
}

pub IsHighest-keeps : (xs : List ℕ) (i b : ℕ) → IsHighest xs i b → get_or xs i 0 ≤ get_or xs b 0 → IsHighest xs (i + 1) b
IsHighest-keeps xs i b h low = record {
  within = omega (arith, h.within);
  most = λ k at. elim (cases_lt k i) as (λ _. get_or xs k 0 ≤ get_or xs b 0) [
    | inl before ↦ h.most k before
    | inr past ↦ (let e : k ≡ i = omega arith in rw e low)
  ];
  first = h.first;
}

pub IsHighest-takes : (xs : List ℕ) (i b : ℕ) → IsHighest xs i b → get_or xs b 0 < get_or xs i 0 → IsHighest xs (i + 1) i
IsHighest-takes xs i b h high = record {
  within = omega arith;
  most = λ k at. elim (cases_lt k i) as (λ _. get_or xs k 0 ≤ get_or xs i 0) [
    | inl before ↦ omega (arith, h.most k before)
    | inr past ↦ (let e : k ≡ i = omega arith in rw e (omega arith))
  ];
  first = λ k at. omega (arith, h.most k at);
}

pub highest_among : (xs : List ℕ) (i : ℕ) → (b : ℕ) × IsHighest xs (suc i) b
highest_among xs zero = (0, IsHighest-one xs)
highest_among xs (suc i) =
    let before : (b : ℕ) × IsHighest xs (suc i) b = highest_among xs i in
    elim (cases_lt (get_or xs before.0 0) (get_or xs (suc i) 0)) as (λ _. (b : ℕ) × IsHighest xs (suc (suc i)) b) [
      | inl high ↦ (suc i, (let h = IsHighest-takes xs (suc i) before.0 before.1 high in rw add-one at h))
      | inr low ↦ (before.0, (let h = IsHighest-keeps xs (suc i) before.0 before.1 low in rw add-one at h))
    ]

greatest-ge : (xs : List ℕ) (k : ℕ) → k < length xs → get_or xs k 0 ≤ greatest xs
greatest-ge [] k h = absurd (omega arith)
greatest-ge (x ∷ xs) zero h = omega arith
greatest-ge (x ∷ xs) (suc k) h = omega (arith, greatest-ge xs k (omega arith))

greatest-le : (xs : List ℕ) (m : ℕ) → ((k : ℕ) → k < length xs → get_or xs k 0 ≤ m) → greatest xs ≤ m
greatest-le [] m h = omega arith
greatest-le (x ∷ xs) m h =
    let here : x ≤ m = h 0 (omega arith) in
    let rest = greatest-le xs m (λ k low. h (suc k) (omega arith)) in
    omega arith

-- the first place of the greatest number
pub place_of_highest : (xs : List ℕ) (b : ℕ) → IsHighest xs (length xs) b → position_or_len (λ x. eqb x (greatest xs)) xs ≡ b
place_of_highest xs b h =
    let low = greatest-le xs (get_or xs b 0) h.most in
    let high = greatest-ge xs b h.within in
    position_or_len_is (λ x. eqb x (greatest xs)) xs b 0 (omega (arith, h.within))
    (λ k before. ne_eqb (get_or xs k 0) (greatest xs) (λ e. omega (arith, h.first k before)))
    (λ _. eq-eqb (get_or xs b 0) (greatest xs) (omega arith))

-- ---- beating by strength

rank-low : (c : ℕ) → (2 ≤ rank_of c) × (rank_of c ≤ 14)
rank-low c = (omega arith, omega arith)

-- the strengths of two cards by what each is, and by rank
beat_numbers : (tc td fc fd : Bool) (rc rd : ℕ) → 2 ≤ rc → rc ≤ 14 → 2 ≤ rd → rd ≤ 14
    → cond td (tc && ltb rd rc) (tc || (fc && (not fd || ltb rd rc))) ≡ ltb (cond td (20 + rd) (cond fd rd 0)) (cond tc (20 + rc) (cond fc rc 0))
beat_numbers true true fc fd rc rd a b c d = grind (arith, nat_tests)
beat_numbers false true true fd rc rd a b c d = sym (le-ltb (20 + rd) rc (omega arith))
beat_numbers false true false fd rc rd a b c d = sym (le-ltb (20 + rd) 0 (omega arith))
beat_numbers true false fc true rc rd a b c d = sym (lt-ltb rd (20 + rc) (omega arith))
beat_numbers true false fc false rc rd a b c d = sym (lt-ltb 0 (20 + rc) (omega arith))
beat_numbers false false true true rc rd a b c d = refl
beat_numbers false false true false rc rd a b c d = sym (lt-ltb 0 rc (omega arith))
beat_numbers false false false true rc rd a b c d = sym (le-ltb rd 0 (omega arith))
beat_numbers false false false false rc rd a b c d = sym (le-ltb 0 0 (omega arith))

-- one card beats another where it is the stronger
pub beats-strength : (trump : Trump) (led : Suit) (c d : ℕ) → beats trump led c d ≡ ltb (strength trump led d) (strength trump led c)
beats-strength trump led c d =
    beat_numbers (is_trump trump c) (is_trump trump d) (same_suit (suit_of c) led) (same_suit (suit_of d) led) (rank_of c) (rank_of d)
    (rank-low c).0 (rank-low c).1 (rank-low d).0 (rank-low d).1

-- ---- cards of equal strength

pub suit_place-of : (c : ℕ) → c < 52 → suit_place (suit_of c) ≡ c / 13
suit_place-of c h =
    elim (cases_lt c 13) as (λ _. suit_place (suit_of c) ≡ c / 13) [
      | inl a ↦ rw (lt-ltb c 13 a) (omega arith)
      | inr a ↦ elim (cases_lt c 26) as (λ _. suit_place (suit_of c) ≡ c / 13) [
        | inl b ↦ rw (le-ltb c 13 a, lt-ltb c 26 b) (omega arith)
        | inr b ↦ elim (cases_lt c 39) as (λ _. suit_place (suit_of c) ≡ c / 13) [
          | inl d ↦ rw (le-ltb c 13 a, le-ltb c 26 b, lt-ltb c 39 d) (omega arith)
          | inr d ↦ rw (le-ltb c 13 a, le-ltb c 26 b, le-ltb c 39 d) (omega arith)
        ]
      ]
    ]

same_suit_and_rank : (c d : ℕ) (suit : Suit) → c < 52 → d < 52 → same_suit (suit_of c) suit ≡ true → same_suit (suit_of d) suit ≡ true → rank_of c ≡ rank_of d → c ≡ d
same_suit_and_rank c d suit one other cs ds ranks =
    let a = eqb-true (suit_place (suit_of c)) (suit_place suit) cs in
    let b = eqb-true (suit_place (suit_of d)) (suit_place suit) ds in
    omega (arith, suit_place-of c one, suit_place-of d other, a, b)

-- what a strength above 0 comes from
equal_numbers : (tc td fc fd : Bool) (rc rd : ℕ) → 2 ≤ rc → rc ≤ 14 → 2 ≤ rd → rd ≤ 14
    → cond tc (20 + rc) (cond fc rc 0) ≡ cond td (20 + rd) (cond fd rd 0) → 0 < cond tc (20 + rc) (cond fc rc 0)
    → (rc ≡ rd) × (((tc ≡ true) × (td ≡ true)) ⊎ ((fc ≡ true) × (fd ≡ true)))
equal_numbers true true fc fd rc rd a b c d e p = (omega arith, inl (refl, refl))
equal_numbers true false fc true rc rd a b c d e p = absurd (omega arith)
equal_numbers true false fc false rc rd a b c d e p = absurd (omega arith)
equal_numbers false true true fd rc rd a b c d e p = absurd (omega arith)
equal_numbers false true false fd rc rd a b c d e p = absurd (omega arith)
equal_numbers false false true true rc rd a b c d e p = (e, inr (refl, refl))
equal_numbers false false true false rc rd a b c d e p = absurd (omega arith)
equal_numbers false false false fd rc rd a b c d e p = absurd (omega arith)

both_trumps : (trump : Trump) (c d : ℕ) → c < 52 → d < 52 → is_trump trump c ≡ true → is_trump trump d ≡ true → rank_of c ≡ rank_of d → c ≡ d
both_trumps NoTrump c d one other ct dt ranks = absurd (false≢true ct)
both_trumps (Suited suit) c d one other ct dt ranks = same_suit_and_rank c d suit one other ct dt ranks

-- two cards of one strength above 0 are the same card
pub same_strength : (trump : Trump) (led : Suit) (c d : ℕ) → c < 52 → d < 52 → strength trump led c ≡ strength trump led d → 0 < strength trump led c → c ≡ d
same_strength trump led c d one other e p =
    let found : (rank_of c ≡ rank_of d) × (((is_trump trump c ≡ true) × (is_trump trump d ≡ true)) ⊎ ((same_suit (suit_of c) led ≡ true) × (same_suit (suit_of d) led ≡ true))) =
    equal_numbers (is_trump trump c) (is_trump trump d) (same_suit (suit_of c) led) (same_suit (suit_of d) led) (rank_of c) (rank_of d)
    (rank-low c).0 (rank-low c).1 (rank-low d).0 (rank-low d).1 e p in
    elim found.1 as (λ _. c ≡ d) [
      | inl trumps ↦ both_trumps trump c d one other trumps.0 trumps.1 found.0
      | inr suits ↦ same_suit_and_rank c d led one other suits.0 suits.1 found.0
    ]

strong_numbers : (t : Bool) (r : ℕ) → 2 ≤ r → 0 < cond t (20 + r) (cond true r 0)
strong_numbers true r h = omega arith
strong_numbers false r h = omega arith

-- the card led has a strength
pub led_strong : (trump : Trump) (led : ℕ) → 0 < strength trump (suit_of led) led
led_strong trump led = rw (eq-eqb (suit_place (suit_of led)) (suit_place (suit_of led)) refl) (strong_numbers (is_trump trump led) (rank_of led) (rank-low led).0)

-- what is so of a card with a strength above 0
pub strong_card : (trump : Trump) (led : Suit) (c : ℕ) → 0 < strength trump led c → (is_trump trump c ≡ true) ⊎ (suit_of c ≡ led)
strong_card trump led c p =
    elim (either (is_trump trump c) (same_suit (suit_of c) led) (rank_of c) p) as (λ _. (is_trump trump c ≡ true) ⊎ (suit_of c ≡ led)) [
      | inl trumps ↦ inl trumps
      | inr suits ↦ inr (same_suit-true (suit_of c) led suits)
    ]
  where
    either : (t f : Bool) (r : ℕ) → 0 < cond t (20 + r) (cond f r 0) → (t ≡ true) ⊎ (f ≡ true)
    either true f r h = inl refl
    either false true r h = inr refl
    either false false r h = absurd (omega arith)

-- ---- a trick's one winner

-- the strengths of a trick's cards
abbrev pub strengths : Trump → ℕ → List ℕ → List ℕ
strengths trump led rest = map (strength trump (suit_of led)) (led ∷ rest)

pub strength_at : (trump : Trump) (led : ℕ) (rest : List ℕ) (k : ℕ) → k < length (led ∷ rest) → get_or (strengths trump led rest) k 0 ≡ strength trump (suit_of led) (get_or (led ∷ rest) k 0)
strength_at trump led rest k h = get_or-map (strength trump (suit_of led)) (led ∷ rest) k 0 0 h

pub winning_place-highest : (trump : Trump) (led : ℕ) (rest : List ℕ) (b : ℕ) → IsHighest (strengths trump led rest) (length (led ∷ rest)) b → winning_place trump (led ∷ rest) ≡ b
winning_place-highest trump led rest b h = place_of_highest (strengths trump led rest) b (rw length-map h)

module _ (trump : Trump) (led : ℕ) (rest : List ℕ) (cards_low : All (λ c. c < 52) (led ∷ rest)) (apart : AllPairs (λ c d. c ≢ d) (led ∷ rest))
    (b : ℕ) (high : IsHighest (strengths trump led rest) (length (led ∷ rest)) b) where
  strong : (k : ℕ) → k < length (led ∷ rest) → k ≢ b → strength trump (suit_of led) (get_or (led ∷ rest) k 0) < strength trump (suit_of led) (get_or (led ∷ rest) b 0)
  strong k low other =
      let S = strength trump (suit_of led) in
      let at_k = strength_at trump led rest k low in
      let at_b = strength_at trump led rest b high.within in
      let most = high.most k low in
      let least = high.most 0 (omega arith) in
      let first = led_strong trump led in
      elim (cases_order (S (get_or (led ∷ rest) k 0)) (S (get_or (led ∷ rest) b 0))) as (λ _. S (get_or (led ∷ rest) k 0) < S (get_or (led ∷ rest) b 0)) [
        | inl e ↦ (let same : get_or (led ∷ rest) k 0 ≡ get_or (led ∷ rest) b 0 =
            same_strength trump (suit_of led) _ _ (cards_low k 0 low) (cards_low b 0 high.within) e (omega arith) in
            elim (cases_order k b) as (λ _. S (get_or (led ∷ rest) k 0) < S (get_or (led ∷ rest) b 0)) [
              | inl i ↦ absurd (other i)
              | inr i ↦ elim i as (λ _. S (get_or (led ∷ rest) k 0) < S (get_or (led ∷ rest) b 0)) [
                | inl before ↦ absurd (apart k b 0 before high.within same)
                | inr past ↦ absurd (apart b k 0 past low (sym same))
              ]
            ])
        | inr i ↦ elim i as (λ _. S (get_or (led ∷ rest) k 0) < S (get_or (led ∷ rest) b 0)) [
          | inl less ↦ less
          | inr more ↦ absurd (omega arith)
        ]
      ]

  won : IsWonBy trump (led ∷ rest) b
  won = record {
    within = high.within;
    beats_each = λ other low differs. beats-strength trump (suit_of led) (get_or (led ∷ rest) b 0) (get_or (led ∷ rest) other 0) ∙ lt-ltb _ _ (strong other low differs);
  }

  won_once : (other : ℕ) → IsWonBy trump (led ∷ rest) other → other ≡ b
  won_once other h =
      elim (cases_eq other b) as (λ _. other ≡ b) [
        | inl e ↦ e
        | inr differs ↦
            (let weaker = strong other h.within differs in
            let stronger = ltb-true _ _ (sym (beats-strength trump (suit_of led) (get_or (led ∷ rest) other 0) (get_or (led ∷ rest) b 0)) ∙ h.beats_each b high.within (λ e. differs (sym e))) in
            absurd (omega arith))
      ]

winner_among : (trump : Trump) (leader : Seat) (cards : List ℕ) → 1 ≤ length cards → All (λ c. c < 52) cards → AllPairs (λ c d. c ≢ d) cards
    → (place : ℕ) × IsWonBy trump cards place × ((other : ℕ) → IsWonBy trump cards other → other ≡ place) × (seat_after (winning_place trump cards) leader ≡ seat_after place leader)
winner_among trump leader [] some cards_low apart = absurd (omega arith)
winner_among trump leader (led ∷ rest) some cards_low apart =
    let best : (b : ℕ) × IsHighest (strengths trump led rest) (suc (length rest)) b = highest_among (strengths trump led rest) (length rest) in (
      best.0,
      won trump led rest cards_low apart best.0 best.1,
      won_once trump led rest cards_low apart best.0 best.1,
      ap (λ place. seat_after place leader) (winning_place-highest trump led rest best.0 best.1),
    )

-- a trick has exactly one winner
pub one_winner : (trump : Trump) (trick : TrickValue) → 1 ≤ length trick.cards → All (λ c. c < 52) trick.cards → AllPairs (λ c d. c ≢ d) trick.cards
    → (place : ℕ) × IsWonBy trump trick.cards place × ((other : ℕ) → IsWonBy trump trick.cards other → other ≡ place) × (winner_of trump trick ≡ seat_after place trick.leader)
one_winner trump trick some cards_low apart = winner_among trump trick.leader trick.cards some cards_low apart

-- ---- for a loop over the cards

-- a strength that was read from the list of cards
pub strength_read : (trump : Trump) (cards : List ℕ) (k x y : ℕ) → k < length cards → x ≡ get_or cards 0 x → y ≡ get_or cards k y
    → get_or (map (strength trump (suit_of (get_or cards 0 0))) cards) k 0 ≡ strength trump (suit_of x) y
strength_read trump cards k x y h first here =
    let led : get_or cards 0 0 ≡ x = sym (get_or_default_zero cards 0 x (omega arith)) ∙ sym first in
    let card : get_or cards k 0 ≡ y = sym (get_or_default_zero cards k y h) ∙ sym here in
    get_or-map (strength trump (suit_of (get_or cards 0 0))) cards k 0 0 h ∙ ap (λ c. strength trump (suit_of c) (get_or cards k 0)) led ∙ ap (strength trump (suit_of x)) card

pub winner_from_highest : (trump : Trump) (leader : Seat) (cards : List ℕ) (b : ℕ) → 1 ≤ length cards
    → IsHighest (map (strength trump (suit_of (get_or cards 0 0))) cards) (length cards) b → winner_of trump (record { leader = leader; cards = cards }) ≡ seat_after b leader
winner_from_highest trump leader [] b some h = absurd (omega arith)
winner_from_highest trump leader (led ∷ rest) b some h = ap (λ place. seat_after place leader) (winning_place-highest trump led rest b h)
