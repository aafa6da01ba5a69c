-- Fronts over some of the layouts, vector by vector.
use Rattle.std.proofs.Common.{◌≡◌, ◌∙◌, ◌++◌, ◌+◌, ◌<◌, ◌≤◌, ℕ, zero, suc, Bool, true, false, Some, slice_get, List, [], ◌∷◌, Contains, length, map, take, take_all, refl, sym, ap, subst, ⊎_elim, arith, add-one}
use Rattle.std.specs.List.{items_where_true}
use Rattle.std.proofs.lemmas.Option.{slice_get-get_or, slice_get_within, get_or_from_slice_get}
use Rattle.std.proofs.lemmas.List.{take_more, map-append}
use Rattle.win_vectors.specs.Fronts.{Vector, HaveWidth, Dominates, IsReduced}
use Rattle.strategy_games.proofs.Lists.{Contains-here, Contains-there, Contains-cons, Contains-nil, Contains-append, Contains-append_first, Contains-append_second, Contains-single, All-at}
use Rattle.strategy_games.proofs.Vectors.{Dominates-refl}
use Rattle.strategy_games.proofs.Fronts.{front_level}

-- no vector
pub reduced_none : (F : Vector → Vector) (vectors none : List Vector) → none ≡ [] → IsReduced (map F (take 0 vectors)) none
reduced_none F vectors none empty = subst (λ (vs : List Vector). IsReduced [] vs) (sym empty) (record {
  reached = λ v among. among;
  covered = λ v among. absurd (Contains-nil v among);
  apart = λ u v first second above. absurd (Contains-nil u first);
  ordered = λ i j d low high. let no_place : j < 0 = high in absurd (omega arith);
})

-- one vector more
pub reduced_more : (F : Vector → Vector) (vectors : List Vector) (place : ℕ) (v : Vector) (best more : List Vector) → place < length vectors → slice_get vectors place ≡ Some v
    → IsReduced (map F (take place vectors)) best → IsReduced (F v ∷ best) more → IsReduced (map F (take (place + 1) vectors)) more
reduced_more F vectors place v best more low at so step = subst (λ (all : List Vector). IsReduced all more) (sym parts)
    (front_level (Contains (F v ∷ best)) (Contains (map F (take place vectors) ++ F v ∷ [])) more
    (λ w among. ⊎_elim
    (λ (new : F v ≡ w). (w, subst (λ w. Contains (map F (take place vectors) ++ F v ∷ []) w) new (Contains-append_second (map F (take place vectors)) (F v ∷ []) (F v) (Contains-here (F v) [])), Dominates-refl w))
    (λ (old : Contains best w). (w, Contains-append_first (map F (take place vectors)) (F v ∷ []) w (so.reached w old), Dominates-refl w))
    (Contains-cons (F v) best w among))
    (λ w among. ⊎_elim
    (λ (old : Contains (map F (take place vectors)) w). let u = so.covered w old in (u.0, Contains-there (F v) best u.0 u.1, u.2))
    (λ (new : Contains (F v ∷ []) w). (F v, Contains-here (F v) best, subst (λ w. Dominates (F v) w) (Contains-single (F v) w new) (Dominates-refl (F v))))
    (Contains-append (map F (take place vectors)) (F v ∷ []) w among))
    step)
  where
    parts : map F (take (place + 1) vectors) ≡ map F (take place vectors) ++ F v ∷ []
    parts = ap (map F) (take_more vectors place v low ∙ ap (λ (w : Vector). take place vectors ++ w ∷ []) (let here = slice_get-get_or vectors place v low in cc)) ∙ map-append F (take place vectors) (v ∷ [])

-- all vectors
pub reduced_whole : (F : Vector → Vector) (vectors : List Vector) (place : ℕ) (best : List Vector) → length vectors ≤ place → IsReduced (map F (take place vectors)) best → IsReduced (map F vectors) best
reduced_whole F vectors place best past so = subst (λ (all : List Vector). IsReduced (map F all) best) (take_all place vectors past) so

-- a vector of a front
pub vector_at : (width : ℕ) (vectors : List Vector) (place : ℕ) (v : Vector) → HaveWidth width vectors → slice_get vectors place ≡ Some v → length v ≡ width
vector_at width vectors place v wide at =
    let low = slice_get_within vectors place v at in
    All-at (λ v. length v ≡ width) vectors wide v (place, low, get_or_from_slice_get vectors place v v at)

-- ---- layouts

module _ {X : Type 0} where
  -- the first layouts, and one more
  picked_here : (kept : Vector) (xs : List X) (place : ℕ) (x : X) (bit : Bool) → length kept ≡ length xs → place < length xs → slice_get xs place ≡ Some x → slice_get kept place ≡ Some bit
      → items_where_true (take (suc place) kept) (take (suc place) xs) ≡ items_where_true (take place kept) (take place xs) ++ items_where_true (bit ∷ []) (x ∷ [])
  picked_here [] [] place x bit e low at here = absurd (omega arith)
  picked_here [] (y ∷ xs) place x bit e low at here = absurd (omega arith)
  picked_here (b ∷ kept) [] place x bit e low at here = absurd (omega arith)
  picked_here (b ∷ kept) (y ∷ xs) zero x bit e low at here =
      let same : y ≡ x = cc in
      let same_bit : b ≡ bit = cc in
      first b bit y x same_bit same
    where
      first : (b bit : Bool) (y x : X) → b ≡ bit → y ≡ x → items_where_true (b ∷ take 0 kept) (y ∷ take 0 xs) ≡ items_where_true (bit ∷ []) (x ∷ [])
      first true true y x eb e = ap (λ y. y ∷ []) e
      first true false y x eb e = absurd cc
      first false true y x eb e = absurd cc
      first false false y x eb e = refl
  picked_here (true ∷ kept) (y ∷ xs) (suc place) x bit e low at here = ap (λ (rest : List X). y ∷ rest) (picked_here kept xs place x bit (omega arith) (omega arith) at here)
  picked_here (false ∷ kept) (y ∷ xs) (suc place) x bit e low at here = picked_here kept xs place x bit (omega arith) (omega arith) at here

  pub picked_more : (kept : Vector) (xs : List X) (place : ℕ) (x : X) (bit : Bool) → length kept ≡ length xs → place < length xs → slice_get xs place ≡ Some x → slice_get kept place ≡ Some bit
      → items_where_true (take place kept) (take place xs) ++ items_where_true (bit ∷ []) (x ∷ []) ≡ items_where_true (take (place + 1) kept) (take (place + 1) xs)
  picked_more kept xs place x bit e low at here = sym (ap (λ (i : ℕ). items_where_true (take i kept) (take i xs)) (add-one place) ∙ picked_here kept xs place x bit e low at here)

  pub picked_whole : (kept : Vector) (xs : List X) (place : ℕ) → length kept ≡ length xs → length xs ≤ place → items_where_true (take place kept) (take place xs) ≡ items_where_true kept xs
  picked_whole kept xs place e past = ap (λ (v : Vector). items_where_true v (take place xs)) (take_all place kept (omega arith)) ∙ ap (items_where_true kept) (take_all place xs past)
