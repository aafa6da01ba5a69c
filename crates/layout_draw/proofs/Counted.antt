-- As many layouts are drawn as there are places.
use Rattle.std.proofs.Common.{◌≡◌, ℕ, zero, suc, ◌+◌, ◌<◌, ◌≤◌, true, false, List, [], ◌∷◌, length, get_or, refl, ap, ◌∙◌, inl, inr, arith}
use Rattle.std.specs.Prelude.{◌||◌, All, AllPairs}
use Rattle.std.proofs.lemmas.Bool.{cases_eq, eq-eqb, ne_eqb}
use Rattle.layout_list.specs.declared.line.Layout.{Layout}
use Rattle.drawn_places.specs.Places.{is_among}
use Rattle.layout_draw.specs.Fitting.{at_places}

-- no place, no layout
none_at : (first : ℕ) (xs : List Layout) → at_places [] first xs ≡ []
none_at first [] = refl
none_at first (x ∷ xs) = none_at (first + 1) xs

-- a place before the list
passed : (place first : ℕ) (places : List ℕ) (xs : List Layout) → place < first → at_places (place ∷ places) first xs ≡ at_places places first xs
passed place first places [] before = refl
passed place first places (x ∷ xs) before =
    let other : is_among (place ∷ places) first ≡ is_among places first = ap (λ b. b || is_among places first) (ne_eqb place first (λ same. omega (arith, same))) in
    rw (other, passed place (first + 1) places xs (omega arith)) refl

-- places after this one
not_yet : (places : List ℕ) (first : ℕ) → All (λ place. first < place) places → is_among places first ≡ false
not_yet [] first later = refl
not_yet (place ∷ places) first later =
    let here = later 0 0 (omega arith) in
    ap (λ b. b || is_among places first) (ne_eqb place first (λ same. omega (arith, same, here))) ∙ not_yet places first (λ k d inside. later (suc k) d (omega arith))

-- places in order, within the list
abbrev pub AreWithin : List ℕ → ℕ → ℕ → Type 0
AreWithin places first size = All (λ place. (first ≤ place) × (place < first + size)) places

after_head : (place first : ℕ) (places : List ℕ) → first < place → ((k d : ℕ) → k < length places → place < get_or places k d) → (k d : ℕ) → k < length (place ∷ places) → first < get_or (place ∷ places) k d
after_head place first places above later zero d inside = above
after_head place first places above later (suc k) d inside = let more = later k d (omega arith) in omega (arith, more, above)

pub length-at_places : (places : List ℕ) (first : ℕ) (xs : List Layout) → AllPairs (λ place later. place < later) places → AreWithin places first (length xs) → length (at_places places first xs) ≡ length places
length-at_places [] first xs up within = ap length (none_at first xs)
length-at_places (place ∷ places) first [] up within = let here = within 0 0 (omega arith) in absurd (omega (arith, here.0, here.1))
length-at_places (place ∷ places) first (x ∷ xs) up within =
    let rest = λ (i j d : ℕ) (before : i < j) (inside : j < length places). up (suc i) (suc j) d (omega arith) (omega arith) in
    let here = within 0 0 (omega arith) in
    elim (cases_eq place first) [
      | inl same ↦
          let now : is_among (place ∷ places) first ≡ true = ap (λ b. b || is_among places first) (eq-eqb place first same) in
          rw (now, passed place (first + 1) places xs (omega (arith, same)))
          (ap suc (length-at_places places (first + 1) xs rest
          (λ k d inside. let after = up 0 (suc k) d (omega arith) (omega arith) in let bound = within (suc k) d (omega arith) in (omega (arith, after, same), omega (arith, bound.1)))))
      | inr other ↦
          let after : All (λ p. first < p) (place ∷ places) = after_head place first places (omega (arith, here.0, other)) (λ k d inside. up 0 (suc k) d (omega arith) (omega arith)) in
          rw (not_yet (place ∷ places) first after)
          (length-at_places (place ∷ places) (first + 1) xs up (λ k d inside. let bound = within k d inside in let more = after k d inside in (omega (arith, more), omega (arith, bound.1))))
    ]
