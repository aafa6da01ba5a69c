-- Tests on each card of a set.
use Rattle.std.proofs.Common.{◌≡◌, ℕ, ◌⊎◌, Bool, true, false, not, List, [], ◌∷◌, refl, sym, ap, subst, inl, inr}
use Rattle.std.specs.Prelude.{◌==◌, ◌||◌, ◌&&◌}
use Rattle.std.specs.List.{list_all}
use Rattle.std.proofs.lemmas.Bool.{eq-eqb, eqb-true, false≢true, and_parts, not-true}
use Rattle.card_sets.specs.SetWords.{has_card, IsSubset, Apart}

or_cases : (a b : Bool) → (a || b) ≡ true → (a ≡ true) ⊎ (b ≡ true)
or_cases true b holds = inl refl
or_cases false b holds = inr holds

or_left : (a b : Bool) → a ≡ true → (a || b) ≡ true
or_left a b holds = ap (λ x. x || b) holds

or_right : (a b : Bool) → b ≡ true → (a || b) ≡ true
or_right true b holds = refl
or_right false b holds = holds

both_true : (a b : Bool) → a ≡ true → b ≡ true → (a && b) ≡ true
both_true a b first second = rw (first, second) refl

-- ---- each card of a set

each_held : (test : ℕ → Bool) (cards : List ℕ) → ((card : ℕ) → has_card cards card ≡ true → test card ≡ true) → list_all test cards ≡ true
each_held test [] each = refl
each_held test (x ∷ xs) each =
    both_true (test x) (list_all test xs) (each x (or_left (x == x) (has_card xs x) (eq-eqb x x refl)))
    (each_held test xs (λ card holds. each card (or_right (x == card) (has_card xs card) holds)))

held_each : (test : ℕ → Bool) (cards : List ℕ) → list_all test cards ≡ true → (card : ℕ) → has_card cards card ≡ true → test card ≡ true
held_each test [] all card holds = absurd (false≢true holds)
held_each test (x ∷ xs) all card holds =
    let parts = and_parts (test x) (list_all test xs) all in
    elim (or_cases (x == card) (has_card xs card) holds) [
      | inl same ↦ subst (λ (c : ℕ). test c ≡ true) (eqb-true x card same) parts.0
      | inr later ↦ held_each test xs parts.1 card later
    ]

same_test : (a b : Bool) → (a ≡ true → b ≡ true) → (b ≡ true → a ≡ true) → a ≡ b
same_test true b there back = sym (there refl)
same_test false true there back = back refl
same_test false false there back = refl

pub holds_each : (told : Bool) (cards hand : List ℕ) → (told ≡ true → IsSubset cards hand) → (IsSubset cards hand → told ≡ true) → told ≡ list_all (has_card hand) cards
holds_each told cards hand there back =
    same_test told (list_all (has_card hand) cards) (λ yes. each_held (has_card hand) cards (there yes)) (λ all. back (held_each (has_card hand) cards all))

pub lacks_each : (told : Bool) (cards hand : List ℕ) → (told ≡ true → Apart cards hand) → (Apart cards hand → told ≡ true) → told ≡ list_all (λ card. not (has_card hand card)) cards
lacks_each told cards hand there back =
    same_test told (list_all (λ card. not (has_card hand card)) cards)
    (λ yes. each_held (λ card. not (has_card hand card)) cards (λ card holds. ap not (there yes card holds)))
    (λ all. back (λ card holds. not-true (has_card hand card) (held_each (λ c. not (has_card hand c)) cards all card holds)))
