-- Over and decided, before and after a card.
use Rattle.std.proofs.Common.{◌≡◌, ℕ, ◌+◌, ◌-◌, ◌<◌, ◌≤◌, Bool, true, false, cond, eqb, length, None, Some, refl, sym, ap, ◌∙◌, inl, inr, arith}
use Rattle.std.proofs.lemmas.Bool.{eqb-true, eq-eqb, ne_eqb, cases_Bool, cases_eq, cases_lt, lt-ltb, le-ltb}
use Rattle.trick_rules.specs.Positions.{PositionValue, tricks_left, IsSound}
use Rattle.trick_rules.specs.Play.{put_card, end_trick, after_card, CanPlay, is_declarers, is_over, decided}
use Rattle.trick_rules.proofs.Soundness.{after_short, after_third}
use Rattle.trick_rules.proofs.States.{tricks_left-after}

-- ---- what a decided result is

pub decided_made : (t : PositionValue) → t.need ≡ 0 → decided t ≡ Some true
decided_made t e = rw (eq-eqb t.need 0 e) refl

pub decided_failed : (t : PositionValue) → tricks_left t < t.need → decided t ≡ Some false
decided_failed t h = rw (ne_eqb t.need 0 (λ e. omega arith), lt-ltb (tricks_left t) t.need h) refl

pub decided_open : (t : PositionValue) → (t.need ≡ 0 → ⊥) → t.need ≤ tricks_left t → decided t ≡ None
decided_open t some h = rw (ne_eqb t.need 0 some, le-ltb (tricks_left t) t.need h) refl

-- a result is what the need says
pub decided-need : (t : PositionValue) (made : Bool) → decided t ≡ Some made → made ≡ eqb t.need 0
decided-need t made h =
    elim (cases_eq t.need 0) as (λ _. made ≡ eqb t.need 0) [
      | inl e ↦ (let is : Some true ≡ Some made = sym (decided_made t e) ∙ h in rw (eq-eqb t.need 0 e) (cc))
      | inr some ↦ elim (cases_lt (tricks_left t) t.need) as (λ _. made ≡ eqb t.need 0) [
        | inl few ↦ (let is : Some false ≡ Some made = sym (decided_failed t few) ∙ h in rw (ne_eqb t.need 0 some) (cc))
        | inr enough ↦ (let is : None ≡ Some made = sym (decided_open t some enough) ∙ h in (cc))
      ]
    ]

-- a position that is over is decided
pub decided-over : (t : PositionValue) → is_over t ≡ true → decided t ≡ Some (eqb t.need 0)
decided-over t over =
    let none : tricks_left t ≡ 0 = eqb-true (tricks_left t) 0 over in
    elim (cases_eq t.need 0) as (λ _. decided t ≡ Some (eqb t.need 0)) [
      | inl e ↦ decided_made t e ∙ ap Some (sym (eq-eqb t.need 0 e))
      | inr some ↦ decided_failed t (omega arith) ∙ ap Some (sym (ne_eqb t.need 0 some))
    ]

-- ---- after a card

less_need : (b : Bool) (n : ℕ) → (cond b (n - 1) n ≤ n) × (n ≤ cond b (n - 1) n + 1)
less_need true n = (omega arith, omega arith)
less_need false n = (omega arith, omega arith)

-- the need falls by one at most, and only at the fourth card
pub need-after : (t : PositionValue) (card : ℕ) → IsSound t → ((after_card t card).need ≤ t.need) × (t.need ≤ (after_card t card).need + cond (eqb (length t.trick.cards) 3) 1 0)
need-after t card sound =
    elim (cases_eq (length t.trick.cards) 3) as (λ _. ((after_card t card).need ≤ t.need) × (t.need ≤ (after_card t card).need + cond (eqb (length t.trick.cards) 3) 1 0)) [
      | inl third ↦ rw (after_third t card third, eq-eqb (length t.trick.cards) 3 third) (less_need (is_declarers (end_trick (put_card t card)).trick.leader) t.need)
      | inr other ↦ (let short : length t.trick.cards < 3 = omega (arith, sound.trick_short, other) in
          rw (after_short t card short, ne_eqb (length t.trick.cards) 3 other) (omega arith, omega arith))
    ]

-- what is decided stays decided
pub decided-after : (t : PositionValue) (card : ℕ) (made : Bool) → IsSound t → CanPlay t card → decided t ≡ Some made → decided (after_card t card) ≡ Some made
decided-after t card made sound can h =
    let need = need-after t card sound in
    let tricks = tricks_left-after t card sound can in
    elim (cases_eq t.need 0) as (λ _. decided (after_card t card) ≡ Some made) [
      | inl e ↦ decided_made (after_card t card) (omega (arith, need.0)) ∙ sym (decided_made t e) ∙ h
      | inr some ↦ elim (cases_lt (tricks_left t) t.need) as (λ _. decided (after_card t card) ≡ Some made) [
        | inl few ↦ decided_failed (after_card t card) (omega (arith, need.1, tricks)) ∙ sym (decided_failed t few) ∙ h
        | inr enough ↦ (let is : None ≡ Some made = sym (decided_open t some enough) ∙ h in (cc))
      ]
    ]

-- wherever the result is open, tricks are left
pub open-decided : (t : PositionValue) → decided t ≡ None → is_over t ≡ false
open-decided t h =
    elim (cases_Bool (is_over t)) as (λ _. is_over t ≡ false) [
      | inl over ↦ (let is : Some (eqb t.need 0) ≡ None = sym (decided-over t over) ∙ h in (cc))
      | inr left ↦ left
    ]
