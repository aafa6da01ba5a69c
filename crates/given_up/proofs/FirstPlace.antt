-- The first number of a range that passes a test.
use Rattle.std.proofs.Common.{◌≡◌, ◌∙◌, ℕ, zero, suc, ◌+◌, ◌<◌, ◌≤◌, Bool, true, false, cond, Some, None, find, refl, ap, sym, subst, inl, inr, arith}
use Rattle.std.specs.List.{range_with_len}
use Rattle.std.proofs.lemmas.Bool.{cases_Bool, cases_lt}

module _ (p : ℕ → Bool) where
  -- no number of a range passes
  pub none_first : (a n : ℕ) → ((k : ℕ) → k < n → p (a + k) ≡ false) → find p (range_with_len a n) ≡ None
  none_first a zero fail = refl
  none_first a (suc n) fail =
      let here : p a ≡ false = subst (λ m. p m ≡ false) (place a) (fail 0 (omega arith)) in
      let later = none_first (a + 1) n (λ k low. subst (λ m. p m ≡ false) (next a k) (fail (suc k) (omega arith))) in
      ap (λ b. cond b (Some a) (find p (range_with_len (a + 1) n))) here ∙ later
    where
      place : (a : ℕ) → a + 0 ≡ a
      place a = omega arith

      next : (a k : ℕ) → a + suc k ≡ a + 1 + k
      next a k = omega arith

  -- a number of a range passes, and none before it
  pub first_at : (a n k : ℕ) → k < n → ((j : ℕ) → j < k → p (a + j) ≡ false) → p (a + k) ≡ true → find p (range_with_len a n) ≡ Some (a + k)
  first_at a zero k low fail pass = absurd (omega arith)
  first_at a (suc n) zero low fail pass =
      let place : a + 0 ≡ a = omega arith in
      let here : p a ≡ true = subst (λ m. p m ≡ true) place pass in
      ap (λ b. cond b (Some a) (find p (range_with_len (a + 1) n))) here ∙ ap (λ (m : ℕ). Some m) (sym place)
  first_at a (suc n) (suc k) low fail pass =
      let place : a + 0 ≡ a = omega arith in
      let next : (j : ℕ) → a + suc j ≡ a + 1 + j = λ j. omega arith in
      let here : p a ≡ false = subst (λ m. p m ≡ false) place (fail 0 (omega arith)) in
      let later = first_at (a + 1) n k (omega arith) (λ j less. subst (λ m. p m ≡ false) (next j) (fail (suc j) (omega arith))) (subst (λ m. p m ≡ true) (next k) pass) in
      ap (λ b. cond b (Some a) (find p (range_with_len (a + 1) n))) here ∙ later ∙ ap (λ (m : ℕ). Some m) (sym (next k))

  -- what is found is the first number that passes
  pub record IsFirst (a n found : ℕ) : Type 0 where
    pub within : found < a + n
    pub above : a ≤ found
    pub passes : p found ≡ true
    pub first : (k : ℕ) → a ≤ k → k < found → p k ≡ false

  pub found_first : (a n found : ℕ) → find p (range_with_len a n) ≡ Some found → IsFirst a n found
  found_first a zero found is = absurd (cc)
  found_first a (suc n) found is =
      elim (cases_Bool (p a)) as (λ _. IsFirst a (suc n) found) [
        | inl passed ↦ at_once passed (sym (ap (λ b. cond b (Some a) (find p (range_with_len (a + 1) n))) passed) ∙ is)
        | inr failed ↦ later failed (found_first (a + 1) n found (sym (ap (λ b. cond b (Some a) (find p (range_with_len (a + 1) n))) failed) ∙ is))
      ]
    where
      at_once : p a ≡ true → Some a ≡ Some found → IsFirst a (suc n) found
      at_once passed same =
          let here : a ≡ found = cc in
          record { within = omega arith; above = omega arith; passes = subst (λ m. p m ≡ true) here passed; first = λ k low less. absurd (omega arith) }

      later : p a ≡ false → IsFirst (a + 1) n found → IsFirst a (suc n) found
      later failed rest = record {
        within = omega (arith, rest.within);
        above = omega (arith, rest.above);
        passes = rest.passes;
        first = λ k low less.
            elim (cases_lt a k) as (λ _. p k ≡ false) [
              | inl past ↦ rest.first k (omega arith) less
              | inr here ↦ (let same : a ≡ k = omega arith in subst (λ m. p m ≡ false) same failed)
            ];
      }

  -- nothing is found: no number passes
  pub none_passes : (a n : ℕ) → find p (range_with_len a n) ≡ None → (k : ℕ) → a ≤ k → k < a + n → p k ≡ false
  none_passes a zero is k low less = absurd (omega arith)
  none_passes a (suc n) is k low less =
      elim (cases_Bool (p a)) as (λ _. p k ≡ false) [
        | inl passed ↦ (let same : Some a ≡ None = sym (ap (λ b. cond b (Some a) (find p (range_with_len (a + 1) n))) passed) ∙ is in absurd (cc))
        | inr failed ↦
            (let rest = none_passes (a + 1) n (sym (ap (λ b. cond b (Some a) (find p (range_with_len (a + 1) n))) failed) ∙ is) k in
            elim (cases_lt a k) as (λ _. p k ≡ false) [
              | inl past ↦ rest (omega arith) (omega arith)
              | inr here ↦ (let same : a ≡ k = omega arith in subst (λ m. p m ≡ false) same failed)
            ])
      ]
