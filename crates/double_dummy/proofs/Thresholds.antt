-- What makes with a need makes with each lower one.
use Rattle.std.proofs.Common.{◌≡◌, ℕ, zero, suc, ◌-◌, ◌<◌, ◌≤◌, Bool, true, false, cond, length, refl, sym, ap, ◌∙◌, inl, inr, arith, rules}
use Rattle.std.proofs.lemmas.Bool.{false≢true, eqb-true, eq-eqb, cases_eq, cases_Bool, false_from_ne_true}
use Rattle.card_sets.specs.SetWords.{has_card}
use Rattle.trick_rules.specs.Positions.{State, to_play, IsSound, IsState}
use Rattle.trick_rules.specs.Play.{after, put_card, end_trick, is_over, is_declarers, legal_in, cards_left, makes}
use Rattle.trick_rules.proofs.CardLists.{list_any-from_card, card_from_list_any, list_all-from_cards, cards_from_list_all}
use Rattle.trick_rules.proofs.Soundness.{after_short, after_third}
use Rattle.trick_rules.proofs.States.{after-IsState, legal_can_play, cards_left-after}
use Rattle.trick_rules.proofs.PlayLaws.{makes_at_the_end, makes_by_some_card, makes_against_each_card}
use Rattle.double_dummy.specs.Needs.{with_need, IsSettled}

pub with_need-IsState : (s : State) (need : ℕ) → IsState s → need ≤ 13 → IsState (with_need s need)
with_need-IsState s need ok low = search rules

-- after a card the lower need is still no greater than the other
record StillLower (s : State) (need card : ℕ) : Type 0 where
  pub need_then : ℕ
  pub lower : need_then ≤ (after s card).position.need
  pub same : after (with_need s need) card ≡ with_need (after s card) need_then

less_too : (b : Bool) (m n : ℕ) → m ≤ n → cond b (m - 1) m ≤ cond b (n - 1) n
less_too true m n h = omega arith
less_too false m n h = h

lower-after : (s : State) (need card : ℕ) → IsSound s.position → need ≤ s.position.need → StillLower s need card
lower-after s need card sound low =
    let m = with_need s need in
    elim (cases_eq (length s.position.trick.cards) 3) as (λ _. StillLower s need card) [
      | inl third ↦
          (let taken = is_declarers (end_trick (put_card s.position card)).trick.leader in
          record {
            need_then = cond taken (need - 1) need;
            lower = rw (after_third s.position card third) (less_too taken need s.position.need low);
            same = rw (after_third s.position card third, after_third m.position card third) refl;
          })
      | inr other ↦
          (let short : length s.position.trick.cards < 3 = omega (arith, sound.trick_short, other) in
          record {
            need_then = need;
            lower = rw (after_short s.position card short) low;
            same = rw (after_short s.position card short, after_short m.position card short) refl;
          })
    ]

lower_within : (n : ℕ) (s : State) (need : ℕ) → IsState s → need ≤ s.position.need → cards_left s.position < n → makes s ≡ true → makes (with_need s need) ≡ true
lower_within zero s need ok low few h = absurd (omega arith)
lower_within (suc n) s need ok low few h =
    let m = with_need s need in
    let mok : IsState m = with_need-IsState s need ok (omega (arith, low, ok.sound.need_fits)) in
    let each : (c : ℕ) → has_card (legal_in s) c ≡ true → makes (after s c) ≡ true → makes (after m c) ≡ true = λ c k e.
    (let then = lower-after s need c ok.sound low in
    let can = legal_can_play s ok c k in
    ap makes then.same ∙ lower_within n (after s c) then.need_then (after-IsState s ok c k) then.lower (omega (arith, few, cards_left-after s.position c ok.sound can)) e) in
    elim (cases_Bool (is_over s.position)) as (λ _. makes m ≡ true) [
      | inl over ↦ makes_at_the_end m over ∙ eq-eqb need 0 (omega (arith, low, eqb-true s.position.need 0 (sym (makes_at_the_end s over) ∙ h)))
      | inr left ↦ elim (cases_Bool (is_declarers (to_play s.position))) as (λ _. makes m ≡ true) [
        | inl ours ↦
            (let some : (c : ℕ) × (has_card (legal_in s) c ≡ true) × (makes (after s c) ≡ true) = card_from_list_any (λ c. makes (after s c)) (legal_in s) (sym (makes_by_some_card s ok left ours) ∙ h) in
            makes_by_some_card m mok left ours ∙ list_any-from_card (λ c. makes (after m c)) (legal_in m) some.0 some.1 (each some.0 some.1 some.2))
        | inr theirs ↦
            makes_against_each_card m mok left theirs
            ∙ list_all-from_cards (λ c. makes (after m c)) (legal_in m) (λ c k.
            each c k (cards_from_list_all (λ d. makes (after s d)) (legal_in s) (sym (makes_against_each_card s ok left theirs) ∙ h) c k))
      ]
    ]

pub a_lower_need_is_made : (s : State) (need : ℕ) → IsState s → need ≤ s.position.need → makes s ≡ true → makes (with_need s need) ≡ true
a_lower_need_is_made s need ok low h = lower_within (suc (cards_left s.position)) s need ok low (omega arith) h

pub a_higher_need_fails : (s : State) (need : ℕ) → IsState s → s.position.need ≤ need → need ≤ 13 → makes s ≡ false → makes (with_need s need) ≡ false
a_higher_need_fails s need ok low fits h =
    false_from_ne_true (makes (with_need s need)) (λ made. false≢true (sym h ∙ a_lower_need_is_made (with_need s need) s.position.need (with_need-IsState s need ok fits) low made))

-- ---- what an answer settles

pub settled : (s : State) (made : Bool) → IsState s → makes s ≡ made → (other : ℕ) → IsSettled made s.position.need other → makes (with_need s other) ≡ made
settled s true ok h other lower = a_lower_need_is_made s other ok lower h
settled s false ok h other higher = a_higher_need_fails s other ok higher.0 higher.1 h
