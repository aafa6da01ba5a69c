-- What is kept of the choices of a node.
use Rattle.std.proofs.Common.{◌≡◌, ◌≢◌, ℕ, zero, suc, ◌<◌, ◌≤◌, ◌↔◌, ◌&&◌, Bool, true, false, List, [], ◌∷◌, refl, sym, ap, subst, ◌∙◌, inl, inr, arith}
use Rattle.std.proofs.lemmas.Bool.{false≢true, ne_eqb, cases_eq, cases_Bool}
use Rattle.card_sets.specs.SetWords.{has_card, IsSubset}
use Rattle.trick_rules.specs.Play.{take_out}
use Rattle.trick_rules.specs.Nodes.{NodeValue, IsNode, choices}
use Rattle.trick_rules.proofs.CardLists.{has_card-take_out, take_out-low, take_out-gone}
use Rattle.double_dummy.proofs.Minimax.{rest_legal}
use Rattle.equal_cards.specs.Equals.{AreEqualAt, IsLowest, ComeToTheSame}
use Rattle.equal_cards.proofs.OneFront.{one_front}

-- while the choices are gone through, of which the rest is still to come: what isn't kept has a lower equal card, and what is kept
-- has none among those that were gone through
pub record IsKeptOf (n : NodeValue) (rest kept : List ℕ) : Type 0 where
  pub to_come : IsSubset rest (choices n)
  pub some : IsSubset kept (choices n)
  pub left_out : (card : ℕ) → has_card (choices n) card ≡ true → has_card kept card ≡ false → (low : ℕ) × AreEqualAt n low card
  pub apart : (low card : ℕ) → has_card kept card ≡ true → has_card rest low ≡ false → AreEqualAt n low card → ⊥

pub kept-all : (n : NodeValue) (rest kept : List ℕ) → rest ≡ choices n → kept ≡ choices n → IsKeptOf n rest kept
kept-all n rest kept r k = record {
  to_come = λ card h. sym (ap (λ x. has_card x card) r) ∙ h;
  some = λ card h. sym (ap (λ x. has_card x card) k) ∙ h;
  left_out = λ card h out. absurd (false≢true (sym out ∙ ap (λ x. has_card x card) k ∙ h));
  apart = λ low card h gone eq. false≢true (sym gone ∙ ap (λ x. has_card x low) r ∙ eq.low_choice);
}

-- ---- one choice after another

and_true : (b : Bool) → (b && true) ≡ b
and_true true = refl
and_true false = refl

-- a card that isn't the first of a list of cards is among the others
not_first : (rest later : List ℕ) (card other : ℕ) → rest ≡ card ∷ later → other ≢ card → has_card later other ≡ false → has_card rest other ≡ false
not_first rest later card other e differs out = ap (λ x. has_card x other) e ∙ rw (ne_eqb card other (λ f. differs (sym f))) out

-- the choice has no higher equal card
pub kept-more : (n : NodeValue) (rest later kept : List ℕ) (card : ℕ) → rest ≡ card ∷ later → ((high : ℕ) → AreEqualAt n card high → ⊥) → IsKeptOf n rest kept → IsKeptOf n later kept
kept-more n rest later kept card e none k = record {
  to_come = rest_legal rest later (choices n) card e k.to_come;
  some = k.some;
  left_out = k.left_out;
  apart = λ low c h gone eq.
      elim (cases_eq low card) as (λ _. ⊥) [
        | inl same ↦ none c (subst (λ x. AreEqualAt n x c) same eq)
        | inr other ↦ k.apart low c h (not_first rest later card low e other gone) eq
      ];
}

-- the choice has one
pub kept-without : (n : NodeValue) (rest later kept new : List ℕ) (card next : ℕ) → rest ≡ card ∷ later → new ≡ take_out next kept → AreEqualAt n card next
    → ((high : ℕ) → AreEqualAt n card high → next ≡ high) → IsKeptOf n rest kept → IsKeptOf n later new
kept-without n rest later kept new card next e is equal one k =
    let before : (c : ℕ) → has_card new c ≡ true → has_card kept c ≡ true = λ c h. take_out-low next kept c (sym (ap (λ x. has_card x c) is) ∙ h) in
    record {
      to_come = rest_legal rest later (choices n) card e k.to_come;
      some = λ c h. k.some c (before c h);
      left_out = λ c h out.
          elim (cases_eq c next) as (λ _. (low : ℕ) × AreEqualAt n low c) [
            | inl same ↦ (card, subst (λ x. AreEqualAt n card x) (sym same) equal)
            | inr other ↦ k.left_out c h
                (sym (and_true (has_card kept c)) ∙ rw (ne_eqb c next other) at (sym (has_card-take_out next kept c) ∙ sym (ap (λ x. has_card x c) is) ∙ out))
          ];
      apart = λ low c h gone eq.
          elim (cases_eq low card) as (λ _. ⊥) [
            | inl same ↦
                (let at : next ≡ c = one c (subst (λ x. AreEqualAt n x c) same eq) in
                false≢true (sym (take_out-gone next kept) ∙ sym (ap (λ x. has_card x next) is) ∙ ap (has_card new) at ∙ h))
            | inr other ↦ k.apart low c (before c h) (not_first rest later card low e other gone) eq
          ];
    }

-- ---- at the end

pub kept-lowest : (n : NodeValue) (rest kept : List ℕ) → rest ≡ [] → IsKeptOf n rest kept → (card : ℕ) → (has_card kept card ≡ true) ↔ IsLowest n card
kept-lowest n rest kept e k card = (
  λ h. record {
    choice = k.some card h;
    no_lower = λ low eq. k.apart low card h (ap (λ x. has_card x low) e) eq;
  },
  λ lowest. elim (cases_Bool (has_card kept card)) as (λ _. has_card kept card ≡ true) [
    | inl h ↦ h
    | inr out ↦ (let found : (low : ℕ) × AreEqualAt n low card = k.left_out card lowest.choice out in absurd (lowest.no_lower found.0 found.1))
  ],
)

-- ---- what comes to the same

same_self : (n : NodeValue) (card : ℕ) → ComeToTheSame n card card
same_self n card = record { same_layouts = refl; one_front = λ moves front. (λ f. f, λ f. f) }

same_then : (n : NodeValue) (a b c : ℕ) → ComeToTheSame n a b → ComeToTheSame n b c → ComeToTheSame n a c
same_then n a b c first then = record {
  same_layouts = first.same_layouts ∙ then.same_layouts;
  one_front = λ moves front.
      (λ f. (then.one_front moves front).0 ((first.one_front moves front).0 f), λ f. (first.one_front moves front).1 ((then.one_front moves front).1 f));
}

same_equal : (n : NodeValue) (low high : ℕ) → IsNode n → AreEqualAt n low high → ComeToTheSame n low high
same_equal n low high ok eq = record { same_layouts = eq.same_layouts; one_front = λ moves front. one_front n low high moves front ok eq }

-- each choice has a kept one
pub each_kept : (n : NodeValue) (rest kept : List ℕ) → IsNode n → IsKeptOf n rest kept → (k card : ℕ) → card < k → has_card (choices n) card ≡ true
    → (d : ℕ) × (has_card kept d ≡ true) × (d ≤ card) × ComeToTheSame n d card
each_kept n rest kept ok is zero card low h = absurd (omega arith)
each_kept n rest kept ok is (suc k) card low h =
    elim (cases_Bool (has_card kept card)) as (λ _. (d : ℕ) × (has_card kept d ≡ true) × (d ≤ card) × ComeToTheSame n d card) [
      | inl e ↦ (card, e, omega arith, same_self n card)
      | inr e ↦
          (let lower : (c : ℕ) × AreEqualAt n c card = is.left_out card h e in
          let found : (d : ℕ) × (has_card kept d ≡ true) × (d ≤ lower.0) × ComeToTheSame n d lower.0 =
          each_kept n rest kept ok is k lower.0 (omega (arith, lower.1.order)) lower.1.low_choice in
          (found.0, found.1, omega (arith, found.2, lower.1.order), same_then n found.0 lower.0 card found.3 (same_equal n lower.0 card ok lower.1)))
    ]
