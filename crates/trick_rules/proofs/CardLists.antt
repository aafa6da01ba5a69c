-- Sets of cards as lists: a card out, and tests of the members.
use Rattle.std.proofs.Common.{◌≡◌, ℕ, ◌≤◌, Bool, true, false, not, ◌&&◌, ◌||◌, eqb, List, [], ◌∷◌, ◌++◌, length, refl, sym, ap, ◌∙◌, inl, inr}
use Rattle.std.specs.List.{list_any, list_all}
use Rattle.std.proofs.lemmas.List.Folds.{list_any-append}
use Rattle.std.proofs.lemmas.Bool.{false≢true, eq-eqb, ne_eqb, and_parts, cases_Bool, cases_eq}
use Rattle.card_sets.specs.SetWords.{has_card, IsCardSet}
use Rattle.card_sets.proofs.SetCounts.{length-le_52}
use Rattle.card_sets.proofs.Sets.{has_card-filter}
use Rattle.trick_rules.specs.Play.{take_out}

pub has_card-append : (xs ys : List ℕ) (c : ℕ) → has_card (xs ++ ys) c ≡ (has_card xs c || has_card ys c)
has_card-append xs ys c = list_any-append (λ y. eqb y c) xs ys

-- ---- a card out

pub has_card-take_out : (card : ℕ) (xs : List ℕ) (c : ℕ) → has_card (take_out card xs) c ≡ (has_card xs c && not (eqb c card))
has_card-take_out card xs c = has_card-filter (λ d. not (eqb d card)) xs c

pub take_out-low : (card : ℕ) (xs : List ℕ) (c : ℕ) → has_card (take_out card xs) c ≡ true → has_card xs c ≡ true
take_out-low card xs c h = (and_parts _ _ (sym (has_card-take_out card xs c) ∙ h)).0

pub take_out-gone : (card : ℕ) (xs : List ℕ) → has_card (take_out card xs) card ≡ false
take_out-gone card xs = has_card-take_out card xs card ∙ rw (eq-eqb card card refl) (no_more (has_card xs card))
  where
    no_more : (b : Bool) → (b && false) ≡ false
    no_more true = refl
    no_more false = refl

-- ---- tests of the members

pub first_has : (x : ℕ) (xs : List ℕ) → has_card (x ∷ xs) x ≡ true
first_has x xs = rw (eq-eqb x x refl) refl

pub or_true : (b : Bool) → (b || true) ≡ true
or_true true = refl
or_true false = refl

pub list_any-from_card : (p : ℕ → Bool) (xs : List ℕ) (c : ℕ) → has_card xs c ≡ true → p c ≡ true → list_any p xs ≡ true
list_any-from_card p [] c h k = absurd (false≢true h)
list_any-from_card p (x ∷ xs) c h k =
    elim (cases_eq x c) as (λ _. list_any p (x ∷ xs) ≡ true) [
      | inl e ↦ rw (ap p e ∙ k) refl
      | inr e ↦ rw (list_any-from_card p xs c (rw (ne_eqb x c e) at h) k) (or_true (p x))
    ]

pub card_from_list_any : (p : ℕ → Bool) (xs : List ℕ) → list_any p xs ≡ true → (c : ℕ) × (has_card xs c ≡ true) × (p c ≡ true)
card_from_list_any p [] h = absurd (false≢true h)
card_from_list_any p (x ∷ xs) h =
    elim (cases_Bool (p x)) as (λ _. (c : ℕ) × (has_card (x ∷ xs) c ≡ true) × (p c ≡ true)) [
      | inl e ↦ (x, first_has x xs, e)
      | inr e ↦ (let more : (c : ℕ) × (has_card xs c ≡ true) × (p c ≡ true) = card_from_list_any p xs (rw e at h) in
          (more.0, rw more.1 (or_true (eqb x more.0)), more.2))
    ]

pub list_all-from_cards : (p : ℕ → Bool) (xs : List ℕ) → ((c : ℕ) → has_card xs c ≡ true → p c ≡ true) → list_all p xs ≡ true
list_all-from_cards p [] h = refl
list_all-from_cards p (x ∷ xs) h =
    rw (h x (first_has x xs)) (list_all-from_cards p xs (λ c k. h c (rw k (or_true (eqb x c)))))

pub cards_from_list_all : (p : ℕ → Bool) (xs : List ℕ) → list_all p xs ≡ true → (c : ℕ) → has_card xs c ≡ true → p c ≡ true
cards_from_list_all p [] h c k = absurd (false≢true k)
cards_from_list_all p (x ∷ xs) h c k =
    let both = and_parts (p x) (list_all p xs) h in
    elim (cases_eq x c) as (λ _. p c ≡ true) [
      | inl e ↦ sym (ap p e) ∙ both.0
      | inr e ↦ cards_from_list_all p xs both.1 c (rw (ne_eqb x c e) at k)
    ]

-- ---- a set has at most 52 cards

pub at_most_52 : (xs : List ℕ) → IsCardSet xs → length xs ≤ 52
at_most_52 = length-le_52
