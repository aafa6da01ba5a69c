-- The cards that a seat plays in a manner, collected card by card and node by node.
use Rattle.std.proofs.Common.{◌≡◌, ◌∙◌, ◌<◌, ◌+◌, ◌==◌, ◌||◌, ◌&&◌, ℕ, Bool, true, false, List, [], ◌∷◌, take, length, get_or, refl, sym, ap, ap₂, inl, inr}
use Rattle.std.specs.Prelude.{filter}
use Rattle.std.specs.List.{list_any}
use Rattle.std.proofs.lemmas.Bool.{cases_eq, eq-eqb, ne_eqb, or_right}
use Rattle.std.proofs.lemmas.List.Folds.{list_any_more}
use Rattle.card_sets.specs.SetWords.{has_card, cards_where, IsCardSet}
use Rattle.card_sets.proofs.Sets.{has_card-cards_where, has_card-filter, cards_where-agree, IsCardSet-nil}

-- the cards collected so far, and those of the ones left that pass, are those of all that pass
abbrev pub Collected : List ℕ → (ℕ → Bool) → List ℕ → List ℕ → Type 0
Collected all test here left = (card : ℕ) → card < 52 → (has_card here card || has_card left card && test card) ≡ (has_card all card && test card)

and_false : (a : Bool) → (a && false) ≡ false
and_false true = refl
and_false false = refl

or_true : (a : Bool) → (a || true) ≡ true
or_true true = refl
or_true false = refl

or_false : (a : Bool) → (a || false) ≡ a
or_false true = refl
or_false false = refl

module _ (all : List ℕ) (test : ℕ → Bool) (here left new : List ℕ) (card : ℕ) (first : left ≡ card ∷ new) (so_far : Collected all test here left) where
  other_left : (d : ℕ) → (card ≡ d → ⊥) → has_card left d ≡ has_card new d
  other_left d other = ap (λ cards. has_card cards d) first ∙ ap (λ b. b || has_card new d) (ne_eqb card d other)

  same_left : (d : ℕ) → card ≡ d → has_card left d ≡ true
  same_left d same = ap (λ cards. has_card cards d) first ∙ ap (λ b. b || has_card new d) (eq-eqb card d same)

  -- a card that passes is collected
  pub collect_one : test card ≡ true → Collected all test (cards_where (λ c. has_card here c || c == card)) new
  collect_one passes d low =
      elim (cases_eq card d) [
        | inl same ↦
            (let whole : (has_card here d || has_card left d && test d) ≡ true = ap₂ (λ (a b : Bool). has_card here d || a && b) (same_left d same) (ap test (sym same) ∙ passes) ∙ or_true (has_card here d) in
            ap (λ b. b || has_card new d && test d) (has_card-cards_where (λ c. has_card here c || c == card) d low ∙ or_right (has_card here d) (d == card) (eq-eqb d card (sym same)))
            ∙ sym whole ∙ so_far d low)
        | inr other ↦
            (ap₂ (λ (a b : Bool). a || b && test d) (has_card-cards_where (λ c. has_card here c || c == card) d low ∙ ap (λ b. has_card here d || b) (ne_eqb d card (λ e. other (sym e))) ∙ or_false (has_card here d)) (sym (other_left d other))
            ∙ so_far d low)
      ]

  -- a card that fails is left out
  pub collect_none : test card ≡ false → Collected all test here new
  collect_none fails d low =
      elim (cases_eq card d) [
        | inl same ↦
            (let test_d : test d ≡ false = ap test (sym same) ∙ fails in
            ap (λ b. has_card here d || has_card new d && b) test_d ∙ ap (λ b. has_card here d || b) (and_false (has_card new d) ∙ sym (and_false (has_card left d))) ∙ ap (λ b. has_card here d || has_card left d && b) (sym test_d)
            ∙ so_far d low)
        | inr other ↦ ap (λ b. has_card here d || b && test d) (sym (other_left d other)) ∙ so_far d low
      ]

regroup : (h s c m : Bool) → s ≡ true → ((h && c) && m) ≡ (h && ((s && c) && m))
regroup true s c m is = ap (λ b. (b && c) && m) (sym is)
regroup false s c m is = refl

-- all collected
pub collected : (cards legal all here left : List ℕ) (turn : Bool) (test : ℕ → Bool) → all ≡ filter (has_card legal) cards → turn ≡ true → left ≡ [] → IsCardSet here → Collected all test here left
    → here ≡ cards_where (λ card. has_card cards card && ((turn && has_card legal card) && test card))
collected cards legal all here left turn test is_all is_turn none a_set so_far =
    a_set
    ∙ cards_where-agree (has_card here) (λ card. has_card cards card && ((turn && has_card legal card) && test card))
    (λ c low.
    sym (or_false (has_card here c)) ∙ ap (λ xs. has_card here c || has_card xs c && test c) (sym none) ∙ so_far c low
    ∙ ap (λ b. b && test c) (ap (λ xs. has_card xs c) is_all ∙ has_card-filter (has_card legal) cards c) ∙ regroup (has_card cards c) turn (has_card legal c) (test c) is_turn)

-- no card, if it isn't the seat's turn
pub not_its_turn : (cards legal here : List ℕ) (turn : Bool) (test : ℕ → Bool) → turn ≡ false → here ≡ [] → here ≡ cards_where (λ card. has_card cards card && ((turn && has_card legal card) && test card))
not_its_turn cards legal here turn test is_turn none =
    none ∙ IsCardSet-nil
    ∙ cards_where-agree (has_card []) (λ card. has_card cards card && ((turn && has_card legal card) && test card))
    (λ c low. sym (and_false (has_card cards c)) ∙ ap (λ b. has_card cards c && ((b && has_card legal c) && test c)) (sym is_turn))

share : (h a b : Bool) → ((h && a) || (h && b)) ≡ (h && (a || b))
share true a b = refl
share false a b = refl

-- one node more
pub node_more : {N : Type 0} (cards : List ℕ) (test : ℕ → N → Bool) (places : List N) (i : ℕ) (n : N) → i < length places → n ≡ get_or places i n
    → cards_where (λ c. has_card (cards_where (λ card. has_card cards card && list_any (test card) (take i places))) c || has_card (cards_where (λ card. has_card cards card && test card n)) c)
    ≡ cards_where (λ card. has_card cards card && list_any (test card) (take (i + 1) places))
node_more cards test places i n low is =
    cards_where-agree (λ c. has_card (cards_where (λ card. has_card cards card && list_any (test card) (take i places))) c || has_card (cards_where (λ card. has_card cards card && test card n)) c)
    (λ card. has_card cards card && list_any (test card) (take (i + 1) places))
    (λ c below.
    ap₂ (λ (a b : Bool). a || b) (has_card-cards_where (λ card. has_card cards card && list_any (test card) (take i places)) c below) (has_card-cards_where (λ card. has_card cards card && test card n) c below)
    ∙ share (has_card cards c) (list_any (test c) (take i places)) (test c n)
    ∙ ap (λ b. has_card cards c && b) (ap (λ x. list_any (test c) (take i places) || test c x) is ∙ sym (list_any_more (test c) places i n low)))
