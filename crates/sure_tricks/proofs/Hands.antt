-- Seats round the table, hands after a card, and what decides a state.
use Rattle.std.proofs.Common.{◌≡◌, ◌≢◌, ◌⊎◌, ℕ, zero, suc, ◌+◌, ◌-◌, ◌%◌, ◌<◌, ◌≤◌, Bool, true, false, not, eqb, cond, List, [], ◌∷◌, length, filter, refl, sym, ap, ◌∙◌, inl, inr, arith}
use Rattle.std.specs.List.{list_any, list_all}
use Rattle.std.proofs.lemmas.Bool.{cases_eq, eq-eqb, ne_eqb, lt-ltb, both_ways, false_from_ne_true}
use Rattle.card_sets.specs.declared.seat.Seat.{Seat}
use Rattle.card_sets.specs.declared.seat.Seat.TheVariants.{Declarer, Left, Dummy, Right}
use Rattle.card_sets.specs.SetWords.{has_card, IsCardSet}
use Rattle.card_sets.proofs.Sets.{IsCardSet-filter}
use Rattle.card_sets.proofs.SetCounts.{take_out-absent}
use Rattle.trick_rules.specs.Positions.{PositionValue, State, seat_after, seat_place, places_on, to_play, tricks_left, IsSound, IsState}
use Rattle.trick_rules.specs.Play.{take_out, put_card, after_card, after, hand_of, legal_in, is_declarers, is_over, winner_of, CanPlay, makes}
use Rattle.trick_rules.proofs.CardLists.{has_card-take_out, take_out-low, list_any-from_card, card_from_list_any, list_all-from_cards, cards_from_list_all}
use Rattle.trick_rules.proofs.States.{after_card-declarer, after_card-dummy, after_card-unseen, tricks_left-after, some_legal}
use Rattle.trick_rules.proofs.Soundness.{after_short, after_third}
use Rattle.trick_rules.proofs.PlayLaws.{hands_are_apart, makes_by_some_card, makes_against_each_card, makes_where_decided}

-- ---- seats

pub place-after : (i : ℕ) (x : Seat) → i < 4 → seat_place (seat_after i x) ≡ (seat_place x + i) % 4
place-after zero Declarer h = refl
place-after zero Left h = refl
place-after zero Dummy h = refl
place-after zero Right h = refl
place-after (suc zero) Declarer h = refl
place-after (suc zero) Left h = refl
place-after (suc zero) Dummy h = refl
place-after (suc zero) Right h = refl
place-after (suc (suc zero)) Declarer h = refl
place-after (suc (suc zero)) Left h = refl
place-after (suc (suc zero)) Dummy h = refl
place-after (suc (suc zero)) Right h = refl
place-after (suc (suc (suc zero))) Declarer h = refl
place-after (suc (suc (suc zero))) Left h = refl
place-after (suc (suc (suc zero))) Dummy h = refl
place-after (suc (suc (suc zero))) Right h = refl
place-after (suc (suc (suc (suc i)))) x h = absurd (omega arith)

pub place_low : (x : Seat) → seat_place x < 4
place_low Declarer = omega arith
place_low Left = omega arith
place_low Dummy = omega arith
place_low Right = omega arith

-- two places round the table are two seats
pub seats_differ : (i j : ℕ) (x : Seat) → i < 4 → j < 4 → i ≢ j → seat_after i x ≢ seat_after j x
seats_differ i j x low_i low_j differ e =
    let places = ap seat_place e in
    let one = place-after i x low_i in
    let other = place-after j x low_j in
    let low = place_low x in
    differ (omega arith)

seat_at : ℕ → Seat
seat_at zero = Declarer
seat_at (suc zero) = Left
seat_at (suc (suc zero)) = Dummy
seat_at (suc (suc (suc n))) = Right

at_place : (x : Seat) → seat_at (seat_place x) ≡ x
unfolding seat_at
at_place Declarer = refl
at_place Left = refl
at_place Dummy = refl
at_place Right = refl

-- one place, one seat
one_place : (x y : Seat) → seat_place x ≡ seat_place y → x ≡ y
one_place x y e = sym (at_place x) ∙ ap seat_at e ∙ at_place y

-- one seat or two
pub seat_cases : (x y : Seat) → (x ≡ y) ⊎ (x ≢ y)
seat_cases x y = elim (cases_eq (seat_place x) (seat_place y)) as (λ _. (x ≡ y) ⊎ (x ≢ y)) [
  | inl same ↦ inl (one_place x y same)
  | inr differ ↦ inr (λ e. differ (ap seat_place e))
]

-- places round the table
places_low : (n : ℕ) → n % 4 < 4
places_low n = omega arith

places_apart : (p q : ℕ) → p < 4 → q < 4 → q ≢ p → 1 ≤ (q + 4 - p) % 4
places_apart p q low_p low_q differ = omega arith

places_there : (p q : ℕ) → p < 4 → q < 4 → (p + (q + 4 - p) % 4) % 4 ≡ q
places_there p q low_p low_q = omega arith

-- each other seat is one of the next three
pub next_three : (x y : Seat) → y ≢ x → (i : ℕ) × (1 ≤ i) × (i < 4) × (seat_after i x ≡ y)
next_three x y differ =
    let low = places_low (seat_place y + 4 - seat_place x) in (
      places_on x y,
      places_apart (seat_place x) (seat_place y) (place_low x) (place_low y) (λ e. differ (one_place y x e)),
      low,
      one_place (seat_after (places_on x y) x) y (place-after (places_on x y) x low ∙ places_there (seat_place x) (seat_place y) (place_low x) (place_low y)),
    )

-- ---- hands

rights_out : (c : ℕ) (left u : List ℕ) → filter (λ d. not (has_card (take_out c left) d)) (take_out c u) ≡ take_out c (filter (λ d. not (has_card left d)) u)
rights_out c left [] = refl
rights_out c left (x ∷ u) = go (eqb x c) (has_card left x) refl refl (rights_out c left u)
  where
    go : (a b : Bool) → eqb x c ≡ a → has_card left x ≡ b → filter (λ d. not (has_card (take_out c left) d)) (take_out c u) ≡ take_out c (filter (λ d. not (has_card left d)) u)
        → filter (λ d. not (has_card (take_out c left) d)) (cond (not a) (x ∷ take_out c u) (take_out c u))
        ≡ take_out c (cond (not b) (x ∷ filter (λ d. not (has_card left d)) u) (filter (λ d. not (has_card left d)) u))
    go true true e f rest = rest
    go true false e f rest = rw e rest
    go false true e f rest = rw (has_card-take_out c left x, f, e) rest
    go false false e f rest = rw (has_card-take_out c left x, f, e) (ap (λ (l : List ℕ). x ∷ l) rest)

-- each hand is what was there, without the card that was played
pub hand_after : (s : State) (c : ℕ) (y : Seat) → hand_of (after s c) y ≡ take_out c (hand_of s y)
hand_after s c Declarer = after_card-declarer s.position c
hand_after s c Left = refl
hand_after s c Dummy = after_card-dummy s.position c
hand_after s c Right = ap (λ (u : List ℕ). filter (λ d. not (has_card (take_out c s.left) d)) u) (after_card-unseen s.position c) ∙ rights_out c s.left s.position.unseen

-- what a hand has after a card it had before
pub was_held : (s : State) (c : ℕ) (y : Seat) (d : ℕ) → has_card (hand_of (after s c) y) d ≡ true → has_card (hand_of s y) d ≡ true
was_held s c y d h = take_out-low c (hand_of s y) d (sym (ap (λ (l : List ℕ). has_card l d) (hand_after s c y)) ∙ h)

-- the hands of the others stay as they are
pub hand_stays : (s : State) (c : ℕ) (y : Seat) → IsState s → has_card (hand_of s (to_play s.position)) c ≡ true → y ≢ to_play s.position → hand_of (after s c) y ≡ hand_of s y
hand_stays s c y ok held other = hand_after s c y
    ∙ take_out-absent (hand_of s y) c (hands_are_apart s (to_play s.position) y ok (λ e. other (sym e)) c held)

pub hand_set : (s : State) → IsState s → (y : Seat) → IsCardSet (hand_of s y)
hand_set s ok Declarer = ok.sound.declarer_set
hand_set s ok Left = ok.fits.set
hand_set s ok Dummy = ok.sound.dummy_set
hand_set s ok Right = IsCardSet-filter (λ c. not (has_card s.left c)) s.position.unseen ok.sound.unseen_set

-- ---- one step of double dummy

-- what some legal card of its side comes to
pub by_card : (s : State) (b : Bool) (c : ℕ) → IsState s → is_over s.position ≡ false → is_declarers (to_play s.position) ≡ b
    → has_card (legal_in s) c ≡ true → makes (after s c) ≡ b → makes s ≡ b
by_card s true c ok on side legal made = makes_by_some_card s ok on side ∙ list_any-from_card (λ d. makes (after s d)) (legal_in s) c legal made
by_card s false c ok on side legal made = makes_against_each_card s ok on side
    ∙ false_from_ne_true (list_all (λ d. makes (after s d)) (legal_in s)) (λ e. both_ways (makes (after s c)) made (cards_from_list_all (λ d. makes (after s d)) (legal_in s) e c legal))

-- what every legal card comes to
pub by_each : (s : State) (b : Bool) → IsState s → is_over s.position ≡ false → ((c : ℕ) → has_card (legal_in s) c ≡ true → makes (after s c) ≡ b) → makes s ≡ b
by_each s b ok on each = go b (is_declarers (to_play s.position)) refl each (some_legal s ok on)
  where
    go : (b side : Bool) → is_declarers (to_play s.position) ≡ side → ((c : ℕ) → has_card (legal_in s) c ≡ true → makes (after s c) ≡ b)
        → (card : ℕ) × (has_card (legal_in s) card ≡ true) → makes s ≡ b
    go true true turn each some = by_card s true some.0 ok on turn some.1 (each some.0 some.1)
    go true false turn each some = makes_against_each_card s ok on turn ∙ list_all-from_cards (λ d. makes (after s d)) (legal_in s) each
    go false false turn each some = by_card s false some.0 ok on turn some.1 (each some.0 some.1)
    go false true turn each some = makes_by_some_card s ok on turn
        ∙ false_from_ne_true (list_any (λ d. makes (after s d)) (legal_in s)) (λ e.
        let found = card_from_list_any (λ d. makes (after s d)) (legal_in s) e in both_ways (makes (after s found.0)) (each found.0 found.1) found.2)

-- ---- how many tricks a side still wants

-- with this many tricks more for this side its result holds
abbrev pub Suffices : Bool → PositionValue → ℕ → Type 0
Suffices true t k = t.need ≤ k
Suffices false t k = tricks_left t < t.need + k

pub settled : (s : State) (b : Bool) → IsState s → Suffices b s.position 0 → makes s ≡ b
settled s true ok h = makes_where_decided s true ok (rw (eq-eqb s.position.need 0 (omega arith)) refl)
settled s false ok h = makes_where_decided s false ok (rw (ne_eqb s.position.need 0 (λ e. omega arith), lt-ltb (tricks_left s.position) s.position.need (omega arith)) refl)

-- a card within a trick
pub tricks_within : (t : PositionValue) (c : ℕ) → IsSound t → CanPlay t c → length t.trick.cards < 3 → tricks_left (after_card t c) ≡ tricks_left t
tricks_within t c sound can short =
    let e : eqb (length t.trick.cards) 3 ≡ false = ne_eqb (length t.trick.cards) 3 (λ i. omega arith) in
    let falls : tricks_left (after_card t c) + cond {A = ℕ} (eqb (length t.trick.cards) 3) 1 0 ≡ tricks_left t = tricks_left-after t c sound can in
    let none : cond {A = ℕ} (eqb (length t.trick.cards) 3) 1 0 ≡ 0 = rw e refl in
    omega arith

pub suffices_within : (b : Bool) (t : PositionValue) (c k : ℕ) → IsSound t → CanPlay t c → length t.trick.cards < 3 → Suffices b t k → Suffices b (after_card t c) k
suffices_within true t c k sound can short h = rw (after_short t c short) h
suffices_within false t c k sound can short h =
    let same = tricks_within t c sound can short in
    let need : (after_card t c).need ≡ t.need = rw (after_short t c short) refl in
    omega arith

-- and the last of one
pub tricks_last : (t : PositionValue) (c : ℕ) → IsSound t → CanPlay t c → length t.trick.cards ≡ 3 → tricks_left (after_card t c) + 1 ≡ tricks_left t
tricks_last t c sound can third =
    let e : eqb (length t.trick.cards) 3 ≡ true = eq-eqb (length t.trick.cards) 3 third in
    let falls : tricks_left (after_card t c) + cond {A = ℕ} (eqb (length t.trick.cards) 3) 1 0 ≡ tricks_left t = tricks_left-after t c sound can in
    let one : cond {A = ℕ} (eqb (length t.trick.cards) 3) 1 0 ≡ 1 = rw e refl in
    omega arith

-- the last card of a trick that the side wins
pub suffices_after : (b : Bool) (t : PositionValue) (c k : ℕ) → IsSound t → CanPlay t c → length t.trick.cards ≡ 3 → is_declarers (winner_of t.trump (put_card t c).trick) ≡ b
    → Suffices b t (suc k) → Suffices b (after_card t c) k
suffices_after true t c k sound can third wins h =
    let need : (after_card t c).need ≡ t.need - 1 = rw (after_third t c third, wins) refl in
    omega arith
suffices_after false t c k sound can third wins h =
    let e : eqb (length t.trick.cards) 3 ≡ true = eq-eqb (length t.trick.cards) 3 third in
    let falls : tricks_left (after_card t c) + cond {A = ℕ} (eqb (length t.trick.cards) 3) 1 0 ≡ tricks_left t = tricks_left-after t c sound can in
    let one : cond {A = ℕ} (eqb (length t.trick.cards) 3) 1 0 ≡ 1 = rw e refl in
    let need : (after_card t c).need ≡ t.need = rw (after_third t c third, wins) refl in
    omega arith
