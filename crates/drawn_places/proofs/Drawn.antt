-- Places that were drawn, in order.
use Rattle.std.proofs.Common.{◌≡◌, ◌≢◌, ℕ, zero, suc, ◌<◌, ◌≤◌, Bool, true, false, List, [], ◌∷◌, length, eqb, get_or, Result, Ok, Err, refl, sym, ap, ◌∙◌, inl, inr, arith}
use Rattle.std.specs.Prelude.{◌==◌, ◌||◌, AllPairs, is_ok}
use Rattle.std.specs.List.Sorted.{IsPermutation, IsSorted, IsNonDecreasing, IsBinarySearchResult}
use Rattle.std.specs.Ordering.{nat_cmp}
use Rattle.std.proofs.lemmas.Bool.{eq-eqb, ne_eqb, cases_eq, cases_lt}
use Rattle.std.proofs.lemmas.Bool.Decides.{Decides-eqb}
use Rattle.std.proofs.lemmas.List.Sorted.{All-permutation, length_permutation, IsNonDecreasingBy-from_sort, searched}
use Rattle.std.proofs.lemmas.List.Kept.{AllPairs-from_increasing}
use Rattle.std.proofs.lemmas.Map.Keys.{IsDistinct-IsPermutation, IsStrictlyIncreasing-from_distinct}
use Rattle.std.proofs.lemmas.Map.Made.{IsDistinct-from_AllPairs}
use Rattle.rand.specs.Sample.{IsSampleOf}
use Rattle.drawn_places.specs.Places.{ArePlaces, is_among}

flips : (a b : ℕ) → eqb a b ≡ eqb b a
flips a b =
    elim (cases_eq a b) [
      | inl same ↦ eq-eqb a b same ∙ sym (eq-eqb b a (sym same))
      | inr other ↦ ne_eqb a b other ∙ sym (ne_eqb b a (λ same. other (sym same)))
    ]

-- a sample in order
pub sample-sorted : (size amount : ℕ) (sample places : List ℕ) → IsSampleOf size amount sample → IsPermutation sample places → IsSorted nat_cmp places → ArePlaces size amount places
sample-sorted size amount sample places drawn same up =
    let rising : IsNonDecreasing places = IsNonDecreasingBy-from_sort (λ (x : ℕ). x) places up in
    let differ = IsDistinct-IsPermutation eqb flips sample places same (IsDistinct-from_AllPairs Decides-eqb sample drawn.distinct) in
    record {
      count = length_permutation sample places same ∙ drawn.len;
      inside = All-permutation (λ x. x < size) sample places same drawn.in_range;
      ascending = AllPairs-from_increasing places (IsStrictlyIncreasing-from_distinct places rising differ);
    }

-- one that stands at some place
among_at : (places : List ℕ) (k place : ℕ) → k < length places → get_or places k 0 ≡ place → is_among places place ≡ true
among_at [] k place inside is = absurd (omega arith)
among_at (x ∷ xs) zero place inside is = ap (λ b. b || is_among xs place) (eq-eqb x place is)
among_at (x ∷ xs) (suc k) place inside is = later (x == place) (is_among xs place) (among_at xs k place (omega arith) is) where
  later : (a b : Bool) → b ≡ true → (a || b) ≡ true
  later true b holds = refl
  later false b holds = holds

-- one that stands at none
among_nowhere : (places : List ℕ) (place : ℕ) → ((k : ℕ) → k < length places → get_or places k 0 ≢ place) → is_among places place ≡ false
among_nowhere [] place none = refl
among_nowhere (x ∷ xs) place none =
    ap (λ b. b || is_among xs place) (ne_eqb x place (none 0 (omega arith))) ∙ among_nowhere xs place (λ k inside. none (suc k) (omega arith))

rising : (places : List ℕ) → AllPairs (λ x later. x < later) places → (i j : ℕ) → i ≤ j → j < length places → get_or places i 0 ≤ get_or places j 0
rising places up i j before inside =
    elim (cases_eq i j) [
      | inl same ↦ (let is : get_or places i 0 ≡ get_or places j 0 = ap (λ k. get_or places k 0) same in omega arith)
      | inr other ↦ (let less = up i j 0 (omega arith) inside in omega arith)
    ]

-- a binary search finds the places that are among them
pub search-among : (places : List ℕ) (place : ℕ) (found : Result ℕ ℕ) → AllPairs (λ x later. x < later) places → IsBinarySearchResult (λ y. nat_cmp y place) places found → is_ok found ≡ is_among places place
search-among places place (Ok i) up told =
    let at = searched places place (Ok i) told (rising places up) in sym (among_at places i place at.0 at.1)
search-among places place (Err i) up told =
    let at = searched places place (Err i) told (rising places up) in
    sym (among_nowhere places place (λ k inside same. elim (cases_lt k i) as (λ _. ⊥) [
      | inl before ↦ (let less = at.1 k before in omega arith)
      | inr past ↦ (let more = at.2 k past inside in omega arith)
    ]))
