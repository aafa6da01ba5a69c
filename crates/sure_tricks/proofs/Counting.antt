-- How many cards of a kind are left when one is taken out.
use Rattle.std.proofs.Common.{◌≡◌, ◌⊎◌, ℕ, ◌+◌, ◌≤◌, Bool, true, false, not, ◌&&◌, eqb, cond, List, [], ◌∷◌, length, filter, refl, ap, ◌∙◌, subst, inl, inr, arith}
use Rattle.std.proofs.lemmas.Bool.{cases_Bool, cases_lt, cases_eq, ne_eqb, false≢true}
use Rattle.card_sets.specs.SetWords.{has_card, IsCardSet}
use Rattle.card_sets.proofs.Sets.{has_card-filter, IsCardSet-filter}
use Rattle.card_sets.proofs.SetCounts.{length-take_out, take_out-absent, has_card-length}
use Rattle.trick_rules.specs.Play.{take_out}
use Rattle.trick_rules.proofs.CardLists.{first_has, or_true}

-- two tests in either order
pub filter-filter : (p q : ℕ → Bool) (xs : List ℕ) → filter p (filter q xs) ≡ filter q (filter p xs)
filter-filter p q [] = refl
filter-filter p q (x ∷ xs) = go (p x) (q x) refl refl (filter-filter p q xs)
  where
    go : (a b : Bool) → p x ≡ a → q x ≡ b → filter p (filter q xs) ≡ filter q (filter p xs)
        → filter p (cond b (x ∷ filter q xs) (filter q xs)) ≡ filter q (cond a (x ∷ filter p xs) (filter p xs))
    go true true pa qb rest = rw (pa, qb) (ap (λ (l : List ℕ). x ∷ l) rest)
    go true false pa qb rest = rw qb rest
    go false true pa qb rest = rw pa rest
    go false false pa qb rest = rest

module _ (p : ℕ → Bool) where
  -- a card of the kind, taken out, leaves one fewer
  pub count_in : (xs : List ℕ) (c : ℕ) → IsCardSet xs → has_card xs c ≡ true → p c ≡ true
      → length (filter p (take_out c xs)) + 1 ≡ length (filter p xs)
  count_in xs c set held kind =
      ap (λ (l : List ℕ). length l + 1) (filter-filter p (λ d. not (eqb d c)) xs)
      ∙ length-take_out (filter p xs) c (IsCardSet-filter p xs set) (has_card-filter p xs c ∙ rw (held, kind) refl)

  -- another one leaves them as they were
  pub count_out : (xs : List ℕ) (c : ℕ) → p c ≡ false → filter p (take_out c xs) ≡ filter p xs
  count_out xs c kind = filter-filter p (λ d. not (eqb d c)) xs
      ∙ take_out-absent (filter p xs) c (has_card-filter p xs c ∙ rw kind (no_more (has_card xs c)))
    where
      no_more : (b : Bool) → (b && false) ≡ false
      no_more true = refl
      no_more false = refl

  -- and none leaves more
  pub count_less : (xs : List ℕ) (c : ℕ) → length (filter p (take_out c xs)) ≤ length (filter p xs)
  count_less [] c = omega arith
  count_less (x ∷ xs) c = go (eqb x c) (p x) refl refl (count_less xs c)
    where
      go : (a b : Bool) → eqb x c ≡ a → p x ≡ b → length (filter p (take_out c xs)) ≤ length (filter p xs)
          → length (filter p (cond (not a) (x ∷ take_out c xs) (take_out c xs))) ≤ length (cond b (x ∷ filter p xs) (filter p xs))
      go true true e k rest = omega arith
      go true false e k rest = rest
      go false true e k rest = rw k (omega arith)
      go false false e k rest = rw k rest

  -- where there is none of the kind
  pub none_of : (xs : List ℕ) → length (filter p xs) ≤ 0 → (c : ℕ) → has_card xs c ≡ true → p c ≡ false
  none_of xs few c held = elim (cases_Bool (p c)) as (λ _. p c ≡ false) [
    | inl e ↦ (let some = has_card-length (filter p xs) c (has_card-filter p xs c ∙ rw (held, e) refl) in absurd (omega arith))
    | inr e ↦ e
  ]

  -- one of the kind
  pub one_of : (xs : List ℕ) (c : ℕ) → has_card xs c ≡ true → p c ≡ true → 1 ≤ length (filter p xs)
  one_of xs c held e = has_card-length (filter p xs) c (has_card-filter p xs c ∙ rw (held, e) refl)

-- a list that isn't empty has a member that comes first, by any order
module _ (Before : ℕ → ℕ → Type 0) (itself : (x : ℕ) → Before x x) (either : (x y : ℕ) → Before x y ⊎ Before y x) (on : (x y z : ℕ) → Before x y → Before y z → Before x z) where
  pub first_of : (xs : List ℕ) → 1 ≤ length xs → (w : ℕ) × (has_card xs w ≡ true) × ((c : ℕ) → has_card xs c ≡ true → Before w c)
  first_of [] some = absurd (omega arith)
  first_of (x ∷ []) some = (
    x,
    first_has x [],
    λ c h. elim (cases_eq x c) as (λ _. Before x c) [
      | inl e ↦ subst (Before x) e (itself x)
      | inr e ↦ absurd (false≢true (rw (ne_eqb x c e) at h))
    ],
  )
  first_of (x ∷ y ∷ xs) some = go (first_of (y ∷ xs) (omega arith))
    where
      go : (w : ℕ) × (has_card (y ∷ xs) w ≡ true) × ((c : ℕ) → has_card (y ∷ xs) c ≡ true → Before w c)
          → (w : ℕ) × (has_card (x ∷ y ∷ xs) w ≡ true) × ((c : ℕ) → has_card (x ∷ y ∷ xs) c ≡ true → Before w c)
      go r = elim (either x r.0) as (λ _. (w : ℕ) × (has_card (x ∷ y ∷ xs) w ≡ true) × ((c : ℕ) → has_card (x ∷ y ∷ xs) c ≡ true → Before w c)) [
        | inl here ↦ (
          x,
          first_has x (y ∷ xs),
          λ c h. elim (cases_eq x c) as (λ _. Before x c) [
            | inl e ↦ subst (Before x) e (itself x)
            | inr e ↦ on x r.0 c here (r.2 c (rw (ne_eqb x c e) at h))
          ],
        )
        | inr there ↦ (
          r.0,
          rw r.1 (or_true (eqb x r.0)),
          λ c h. elim (cases_eq x c) as (λ _. Before r.0 c) [
            | inl e ↦ subst (Before r.0) e there
            | inr e ↦ r.2 c (rw (ne_eqb x c e) at h)
          ],
        )
      ]

in_order : (x y : ℕ) → (x ≤ y) ⊎ (y ≤ x)
in_order x y = elim (cases_lt x y) as (λ _. (x ≤ y) ⊎ (y ≤ x)) [
  | inl less ↦ inl (omega arith)
  | inr more ↦ inr more
]

-- a greatest one, and a least
pub greatest_of : (xs : List ℕ) → 1 ≤ length xs → (w : ℕ) × (has_card xs w ≡ true) × ((c : ℕ) → has_card xs c ≡ true → c ≤ w)
greatest_of = first_of (λ x y. y ≤ x) (λ x. omega arith) (λ x y. in_order y x) (λ x y z h k. omega arith)

pub least_of : (xs : List ℕ) → 1 ≤ length xs → (w : ℕ) × (has_card xs w ≡ true) × ((c : ℕ) → has_card xs c ≡ true → w ≤ c)
least_of = first_of (λ x y. x ≤ y) (λ x. omega arith) in_order (λ x y z h k. omega arith)
