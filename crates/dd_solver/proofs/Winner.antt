-- The card that wins a trick, and a card with all higher ones.
use Rattle.std.proofs.Common.{◌≡◌, ◌≢◌, ◌⊎◌, ℕ, zero, suc, ◌<◌, ◌≤◌, Bool, true, false, not, ◌&&◌, ◌||◌, ltb, List, [], ◌∷◌, ◌++◌, length, get_or, All, AllPairs, refl, sym, ap, subst, ◌∙◌, inl, inr, arith}
use Rattle.std.specs.Prelude.{Option, MatchOption}
use Rattle.std.proofs.lemmas.Bool.{false≢true, cases_eq, eq-eqb, ne_eqb, le-ltb, and_parts, or_left, or_right, not-true, ltb-false}
use Rattle.std.proofs.lemmas.List.{length_push}
use Rattle.std.proofs.lemmas.List.Elements.{All-push}
use Rattle.std.proofs.lemmas.List.Quantifiers.{all_pairs_push}
use Rattle.card_sets.specs.declared.seat.Seat.{Seat}
use Rattle.card_sets.specs.declared.seat.Seat.TheVariants.{Declarer, Left, Dummy, Right}
use Rattle.card_sets.specs.Cards.{suit_of, same_suit}
use Rattle.card_sets.specs.SetWords.{has_card, cards_where, IsCardSet, IsSubset, first_card}
use Rattle.card_sets.proofs.Sets.{has_card-cards_where, has_card-below, IsCardSet-cards_where}
use Rattle.card_sets.proofs.Suits.{same_suit-true}
use Rattle.trick_rules.specs.Positions.{PositionValue, seat_after, places_on, to_play, IsSound}
use Rattle.trick_rules.specs.Play.{take_out, winning_place, CanPlay}
use Rattle.trick_rules.proofs.TrickLemmas.{one_winner}
use Rattle.trick_rules.proofs.Soundness.{held_low, trick_held}
use Rattle.sure_tricks.proofs.Holding.{suit_test}
use Rattle.equivalent_positions.specs.Alike.{IsClosedUp, SettlesTrick}
use Rattle.equivalent_positions.proofs.Counting.{a_card_and_all_higher, both_are_closed_up}
use Rattle.dd_solver.specs.Closed.{up_from}

-- ---- a card with all higher ones

pub up_has : (low card : ℕ) → card < 52 → suit_of card ≡ suit_of low → low ≤ card → has_card (up_from low) card ≡ true
up_has low card fits suit order =
    has_card-cards_where (λ c. same_suit (suit_of c) (suit_of low) && not (ltb c low)) card fits
    ∙ rw (suit_test card (suit_of low) suit, le-ltb card low order) refl

pub up_parts : (low card : ℕ) → has_card (up_from low) card ≡ true → (suit_of card ≡ suit_of low) × (low ≤ card)
up_parts low card h =
    let test = λ (c : ℕ). same_suit (suit_of c) (suit_of low) && not (ltb c low) in
    let is : test card ≡ true = sym (has_card-cards_where test card (has_card-below (up_from low) card (IsCardSet-cards_where test) h)) ∙ h in
    let both = and_parts (same_suit (suit_of card) (suit_of low)) (not (ltb card low)) is in
    (same_suit-true (suit_of card) (suit_of low) both.0, ltb-false card low (not-true (ltb card low) both.1))

pub up_suit : (low card : ℕ) → has_card (up_from low) card ≡ true → suit_of card ≡ suit_of low
up_suit low card h = (up_parts low card h).0

-- a closed-up set that has a card has all higher ones
pub up_counts : (cards : List ℕ) (card : ℕ) → IsClosedUp cards → has_card cards card ≡ true → (c : ℕ) → c < 52 → has_card cards c ≡ (has_card cards c || has_card (up_from card) c)
up_counts cards card closed held c fits = go (has_card cards c) (has_card (up_from card) c) refl refl
  where
    go : (a b : Bool) → has_card cards c ≡ a → has_card (up_from card) c ≡ b → a ≡ (a || b)
    go true b e f = refl
    go false false e f = refl
    go false true e f =
        let up = up_parts card c f in
        elim (cases_eq card c) as (λ _. false ≡ true) [
          | inl same ↦ absurd (false≢true (sym e ∙ sym (ap (has_card cards) same) ∙ held))
          | inr other ↦ absurd (false≢true (sym e ∙ closed card c held (sym up.0) (omega (arith, up.1, other)) fits))
        ]

-- ---- two sets

module _ (these those new : List ℕ) (e : new ≡ cards_where (λ c. has_card these c || has_card those c)) where
  either_has : (c : ℕ) → c < 52 → has_card new c ≡ (has_card these c || has_card those c)
  either_has c low = ap (λ (l : List ℕ). has_card l c) e ∙ has_card-cards_where (λ d. has_card these d || has_card those d) c low

  pub either-closed : IsClosedUp these → IsClosedUp those → IsClosedUp new
  either-closed one other = subst IsClosedUp (sym e) (both_are_closed_up these those one other)

  pub either-first : IsCardSet these → IsSubset these new
  either-first set c h = either_has c (has_card-below these c set h) ∙ or_left (has_card these c) (has_card those c) h

  pub either-second : IsCardSet those → IsSubset those new
  either-second set c h = either_has c (has_card-below those c set h) ∙ or_right (has_card these c) (has_card those c) h

module _ (cards up new : List ℕ) (card : ℕ) (is : up ≡ up_from card) (e : new ≡ cards_where (λ c. has_card cards c || has_card up c)) where
  pub either_up : (c : ℕ) → c < 52 → has_card new c ≡ (has_card cards c || has_card (up_from card) c)
  either_up c low = either_has cards up new e c low ∙ ap (λ (l : List ℕ). has_card cards c || has_card l c) is

  pub either_up-closed : IsClosedUp cards → IsClosedUp new
  either_up-closed closed = either-closed cards up new e closed (subst IsClosedUp (sym is) (a_card_and_all_higher card))

  pub either_up-within : IsCardSet cards → IsSubset cards new
  either_up-within set = either-first cards up new e set

-- the card itself counts among it and all higher ones
pub up_here : (new part : List ℕ) (d : ℕ) → d < 52 → ((c : ℕ) → c < 52 → has_card new c ≡ (has_card part c || has_card (up_from d) c)) → has_card new d ≡ true
up_here new part d low value = value d low ∙ or_right (has_card part d) (has_card (up_from d) d) (up_has d d low refl (omega arith))

-- a card that is taken out leaves fewer
no_longer : (c : ℕ) (xs : List ℕ) → length (take_out c xs) ≤ length xs
no_longer c [] = omega arith
no_longer c (x ∷ xs) = elim (cases_eq x c) as (λ _. length (take_out c (x ∷ xs)) ≤ suc (length xs)) [
  | inl same ↦ rw (eq-eqb x c same) (let k = no_longer c xs in omega arith)
  | inr other ↦ rw (ne_eqb x c other) (let k = no_longer c xs in omega arith)
]

pub shorter : (c : ℕ) (xs : List ℕ) → has_card xs c ≡ true → length (take_out c xs) < length xs
shorter c [] h = absurd (false≢true h)
shorter c (x ∷ xs) h = elim (cases_eq x c) as (λ _. length (take_out c (x ∷ xs)) < suc (length xs)) [
  | inl same ↦ rw (eq-eqb x c same) (let k = no_longer c xs in omega arith)
  | inr other ↦ rw (ne_eqb x c other) (let k = shorter c xs (rw (ne_eqb x c other) at h) in omega arith)
]

-- ---- who won

pub place_back : (leader : Seat) (k : ℕ) → k < 4 → places_on leader (seat_after k leader) ≡ k
place_back leader zero h = elim leader as (λ seat. places_on seat (seat_after 0 seat) ≡ 0) [ Declarer ↦ refl | Left ↦ refl | Dummy ↦ refl | Right ↦ refl ]
place_back leader (suc zero) h = elim leader as (λ seat. places_on seat (seat_after 1 seat) ≡ 1) [ Declarer ↦ refl | Left ↦ refl | Dummy ↦ refl | Right ↦ refl ]
place_back leader (suc (suc zero)) h = elim leader as (λ seat. places_on seat (seat_after 2 seat) ≡ 2) [ Declarer ↦ refl | Left ↦ refl | Dummy ↦ refl | Right ↦ refl ]
place_back leader (suc (suc (suc zero))) h = elim leader as (λ seat. places_on seat (seat_after 3 seat) ≡ 3) [ Declarer ↦ refl | Left ↦ refl | Dummy ↦ refl | Right ↦ refl ]
place_back leader (suc (suc (suc (suc k)))) h = absurd (omega arith)

absent_differs : (xs : List ℕ) (card : ℕ) → has_card xs card ≡ false → (k : ℕ) (d : ℕ) → k < length xs → get_or xs k d ≡ card → ⊥
absent_differs [] card h k d low e = absurd (omega arith)
absent_differs (x ∷ xs) card h zero d low e = false≢true (sym h ∙ rw (eq-eqb x card e) refl)
absent_differs (x ∷ xs) card h (suc k) d low e =
    elim (cases_eq x card) as (λ _. ⊥) [
      | inl same ↦ false≢true (sym h ∙ rw (eq-eqb x card same) refl)
      | inr other ↦ absent_differs xs card (rw (ne_eqb x card other) at h) k d (omega arith) e
    ]

module _ (t : PositionValue) (c : ℕ) (sound : IsSound t) (can : CanPlay t c) (third : length t.trick.cards ≡ 3) where
  abbrev cards : List ℕ
  cards = t.trick.cards ++ c ∷ []

  count : length cards ≡ 4
  count = omega (arith, length_push t.trick.cards c, third)

  low : All (λ d. d < 52) cards
  low = All-push (λ d. d < 52) t.trick.cards c sound.trick_cards (held_low t sound c (to_play t) can)

  differ : AllPairs (λ d e. d ≢ e) cards
  differ = all_pairs_push (λ d e. d ≢ e) t.trick.cards c sound.trick_differs (absent_differs t.trick.cards c (trick_held t sound (to_play t) c can))

  -- the trick is settled by the card at its winning place
  pub settled_by : (counting : List ℕ) (place : ℕ) → place < 4 → place ≡ winning_place t.trump cards
      → ((has_card counting (get_or cards place 0) ≡ true) ⊎ ((other : ℕ) → other < 4 → other ≢ place → suit_of (get_or cards other 0) ≢ suit_of (get_or cards place 0)))
      → SettlesTrick counting t.trump cards
  settled_by counting place fits at settled other wins =
      let leader = t.trick.leader in
      let one = one_winner t.trump (record { leader = leader; cards = cards }) (omega (arith, count)) low differ in
      let within : one.0 < 4 = omega (arith, one.1.within, count) in
      let leads : seat_after place leader ≡ seat_after one.0 leader = ap (λ n. seat_after n leader) at ∙ one.3 in
      let same : place ≡ other = sym (place_back leader place fits) ∙ ap (places_on leader) leads ∙ place_back leader one.0 within ∙ sym (one.2 other wins) in
      subst (λ p. (has_card counting (get_or cards p 0) ≡ true) ⊎ ((k : ℕ) → k < length cards → k ≢ p → suit_of (get_or cards k 0) ≢ suit_of (get_or cards p 0))) same
      (subst (λ n. (has_card counting (get_or cards place 0) ≡ true) ⊎ ((k : ℕ) → k < n → k ≢ place → suit_of (get_or cards k 0) ≢ suit_of (get_or cards place 0))) (sym count) settled)

  pub card_fits : (k : ℕ) → k < 4 → get_or cards k 0 < 52
  card_fits k h = low k 0 (omega (arith, count))

-- ---- four cards

pub four : (xs : List ℕ) (c a b d : ℕ) → length xs ≡ 3 → a ≡ get_or xs 0 0 → b ≡ get_or xs 1 0 → d ≡ get_or xs 2 0 → (a ∷ b ∷ d ∷ c ∷ []) ≡ xs ++ c ∷ []
four [] c a b d h e f g = absurd (omega arith)
four (x ∷ []) c a b d h e f g = absurd (omega arith)
four (x ∷ y ∷ []) c a b d h e f g = absurd (omega arith)
four (x ∷ y ∷ z ∷ []) c a b d h e f g = rw (e, f, g) refl
four (x ∷ y ∷ z ∷ w ∷ xs) c a b d h e f g = absurd (omega arith)

-- ---- the first of some cards

pub first_found : (xs cards : List ℕ) (found : Option ℕ) → found ≡ first_card xs → IsSubset xs cards → (xs ≡ [] → cards ≡ []) → MatchOption found (cards ≡ []) (λ card. has_card cards card ≡ true)
first_found xs cards found e within none = subst (λ o. MatchOption o (cards ≡ []) (λ card. has_card cards card ≡ true)) (sym e) (go xs within none)
  where
    go : (xs : List ℕ) → IsSubset xs cards → (xs ≡ [] → cards ≡ []) → MatchOption (first_card xs) (cards ≡ []) (λ card. has_card cards card ≡ true)
    go [] within none = none refl
    go (x ∷ xs) within none = within x (rw (eq-eqb x x refl) refl)
