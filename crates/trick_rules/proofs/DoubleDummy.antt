-- Double dummy, with no fuel.
use Rattle.std.proofs.Common.{◌≡◌, ℕ, zero, suc, ◌<◌, Bool, true, false, eqb, List, [], ◌∷◌, Some, refl, sym, ap, ◌∙◌, inl, inr, arith}
use Rattle.std.specs.List.{list_any, list_all}
use Rattle.std.proofs.lemmas.Bool.{false≢true, eqb-true, cases_Bool, false_from_ne_true, both_ways}
use Rattle.card_sets.specs.SetWords.{has_card}
use Rattle.trick_rules.specs.Positions.{State, to_play, IsState}
use Rattle.trick_rules.specs.Play.{after, is_declarers, is_over, decided, legal_in, makes_within, makes, Makes, cards_left}
use Rattle.trick_rules.specs.Play.Makes.{ended, some_card, each_card}
use Rattle.trick_rules.proofs.CardLists.{or_true, first_has, list_any-from_card, card_from_list_any, list_all-from_cards, cards_from_list_all}
use Rattle.trick_rules.proofs.States.{after-IsState, legal_can_play, cards_left-after, some_legal}
use Rattle.trick_rules.proofs.Decisions.{decided-need, decided-after}

-- ---- tests that agree at each member

list_any-same : (p q : ℕ → Bool) (xs : List ℕ) → ((c : ℕ) → has_card xs c ≡ true → p c ≡ q c) → list_any p xs ≡ list_any q xs
list_any-same p q [] same = refl
list_any-same p q (x ∷ xs) same = rw (same x (first_has x xs), list_any-same p q xs (λ c h. same c (rw h (or_true (eqb x c))))) refl

list_all-same : (p q : ℕ → Bool) (xs : List ℕ) → ((c : ℕ) → has_card xs c ≡ true → p c ≡ q c) → list_all p xs ≡ list_all q xs
list_all-same p q [] same = refl
list_all-same p q (x ∷ xs) same = rw (same x (first_has x xs), list_all-same p q xs (λ c h. same c (rw h (or_true (eqb x c))))) refl

-- ---- one step

-- the fuel of a state after a legal card
fuel-after : (s : State) → IsState s → (card : ℕ) → has_card (legal_in s) card ≡ true → makes_within (cards_left s.position) (after s card) ≡ makes (after s card)
unfolding makes
fuel-after s ok card h = ap (λ n. makes_within n (after s card)) (sym (cards_left-after s.position card ok.sound (legal_can_play s ok card h)))

pub makes-over : (s : State) → is_over s.position ≡ true → makes s ≡ eqb s.position.need 0
unfolding makes makes_within
makes-over s over = rw over refl

ours_step : (s : State) → is_over s.position ≡ false → is_declarers (to_play s.position) ≡ true → makes s ≡ list_any (λ c. makes_within (cards_left s.position) (after s c)) (legal_in s)
unfolding makes makes_within
ours_step s left ours = rw (left, ours) refl

theirs_step : (s : State) → is_over s.position ≡ false → is_declarers (to_play s.position) ≡ false → makes s ≡ list_all (λ c. makes_within (cards_left s.position) (after s c)) (legal_in s)
unfolding makes makes_within
theirs_step s left theirs = rw (left, theirs) refl

pub makes-ours : (s : State) → IsState s → is_over s.position ≡ false → is_declarers (to_play s.position) ≡ true → makes s ≡ list_any (λ c. makes (after s c)) (legal_in s)
makes-ours s ok left ours = ours_step s left ours ∙ list_any-same (λ c. makes_within (cards_left s.position) (after s c)) (λ c. makes (after s c)) (legal_in s) (fuel-after s ok)

pub makes-theirs : (s : State) → IsState s → is_over s.position ≡ false → is_declarers (to_play s.position) ≡ false → makes s ≡ list_all (λ c. makes (after s c)) (legal_in s)
makes-theirs s ok left theirs = theirs_step s left theirs ∙ list_all-same (λ c. makes_within (cards_left s.position) (after s c)) (λ c. makes (after s c)) (legal_in s) (fuel-after s ok)

-- ---- the rules

rules_within : (n : ℕ) (s : State) → makes_within n s ≡ true → Makes s
unfolding makes_within
rules_within zero s h = absurd (false≢true h)
rules_within (suc n) s h =
    elim (cases_Bool (is_over s.position)) as (λ _. Makes s) [
      | inl over ↦ ended over (eqb-true s.position.need 0 (rw over at h))
      | inr left ↦ elim (cases_Bool (is_declarers (to_play s.position))) as (λ _. Makes s) [
        | inl ours ↦ (let some : (c : ℕ) × (has_card (legal_in s) c ≡ true) × (makes_within n (after s c) ≡ true) =
            card_from_list_any (λ c. makes_within n (after s c)) (legal_in s) (rw (left, ours) at h) in
            some_card left ours some.0 some.1 (rules_within n (after s some.0) some.2))
        | inr theirs ↦ each_card left theirs (λ c k. rules_within n (after s c)
            (cards_from_list_all (λ d. makes_within n (after s d)) (legal_in s) (rw (left, theirs) at h) c k))
      ]
    ]

pub Makes-from_makes : (s : State) → makes s ≡ true → Makes s
unfolding makes
Makes-from_makes s h = rules_within (suc (cards_left s.position)) s h

pub makes-from_Makes : {s : State} → Makes s → IsState s → makes s ≡ true
makes-from_Makes {s} (ended over none) ok = makes-over s over ∙ rw none refl
makes-from_Makes {s} (some_card left ours card h more) ok =
    makes-ours s ok left ours ∙ list_any-from_card (λ c. makes (after s c)) (legal_in s) card h (makes-from_Makes more (after-IsState s ok card h))
makes-from_Makes {s} (each_card left theirs more) ok =
    makes-theirs s ok left theirs ∙ list_all-from_cards (λ c. makes (after s c)) (legal_in s) (λ c h. makes-from_Makes (more c h) (after-IsState s ok c h))

-- ---- what is decided

any_constant : (p : ℕ → Bool) (xs : List ℕ) (b : Bool) (card : ℕ) → has_card xs card ≡ true → ((c : ℕ) → has_card xs c ≡ true → p c ≡ b) → list_any p xs ≡ b
any_constant p xs true card h same = list_any-from_card p xs card h (same card h)
any_constant p xs false card h same =
    false_from_ne_true (list_any p xs) (λ e.
    let some : (c : ℕ) × (has_card xs c ≡ true) × (p c ≡ true) = card_from_list_any p xs e in
    both_ways (p some.0) (same some.0 some.1) some.2)

all_constant : (p : ℕ → Bool) (xs : List ℕ) (b : Bool) (card : ℕ) → has_card xs card ≡ true → ((c : ℕ) → has_card xs c ≡ true → p c ≡ b) → list_all p xs ≡ b
all_constant p xs true card h same = list_all-from_cards p xs same
all_constant p xs false card h same = false_from_ne_true (list_all p xs) (λ e. both_ways (p card) (same card h) (cards_from_list_all p xs e card h))

decided_within : (n : ℕ) (s : State) → IsState s → cards_left s.position < n → (made : Bool) → decided s.position ≡ Some made → makes s ≡ made
decided_within zero s ok low made h = absurd (omega arith)
decided_within (suc n) s ok low made h =
    elim (cases_Bool (is_over s.position)) as (λ _. makes s ≡ made) [
      | inl over ↦ makes-over s over ∙ sym (decided-need s.position made h)
      | inr left ↦
          (let each : (c : ℕ) → has_card (legal_in s) c ≡ true → makes (after s c) ≡ made = λ c k.
          (let can = legal_can_play s ok c k in
          decided_within n (after s c) (after-IsState s ok c k) (omega (arith, cards_left-after s.position c ok.sound can)) made (decided-after s.position c made ok.sound can h)) in
          let some = some_legal s ok left in
          elim (cases_Bool (is_declarers (to_play s.position))) as (λ _. makes s ≡ made) [
            | inl ours ↦ makes-ours s ok left ours ∙ any_constant (λ c. makes (after s c)) (legal_in s) made some.0 some.1 each
            | inr theirs ↦ makes-theirs s ok left theirs ∙ all_constant (λ c. makes (after s c)) (legal_in s) made some.0 some.1 each
          ])
    ]

pub makes-decided : (s : State) → IsState s → (made : Bool) → decided s.position ≡ Some made → makes s ≡ made
makes-decided s ok made h = decided_within (suc (cards_left s.position)) s ok (omega arith) made h
