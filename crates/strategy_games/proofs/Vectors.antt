-- Vectors: dominance, order and meets.
use Rattle.std.proofs.Common.{◌≡◌, ◌⊎◌, ◌<◌, ◌≤◌, ◌&&◌, ◌∙◌, Bool, true, false, cond, [], ◌∷◌, refl, sym, ap, subst, inl, inr, ⊎_elim, arith, lt-ltb, le-ltb, ltb-true, ltb-false, ltb}
use Rattle.std.specs.declared.cmp.Ordering.TheVariants.{Less, Greater}
use Rattle.std.proofs.lemmas.Bool.{cases_lt, cond-true, cond-false}
use Rattle.win_vectors.specs.Vectors.{ones_of, meet_of, spread_of, earlier_one}
use Rattle.win_vectors.specs.Fronts.{Vector, IsAtLeast, Dominates, Precedes}

pub Dominates-refl : (u : Vector) → Dominates u u
Dominates-refl [] = tt
Dominates-refl (true ∷ u) = (tt, Dominates-refl u)
Dominates-refl (false ∷ u) = (tt, Dominates-refl u)

at_least_trans : (a b c : Bool) → IsAtLeast a b → IsAtLeast b c → IsAtLeast a c
at_least_trans true b c h k = tt
at_least_trans false true c h k = absurd h
at_least_trans false false c h k = k

pub Dominates-trans : (u v w : Vector) → Dominates u v → Dominates v w → Dominates u w
Dominates-trans [] [] [] h k = tt
Dominates-trans [] [] (c ∷ w) h k = k
Dominates-trans [] (b ∷ v) w h k = elim h [ ]
Dominates-trans (a ∷ u) [] w h k = elim h [ ]
Dominates-trans (a ∷ u) (b ∷ v) [] h k = k
Dominates-trans (a ∷ u) (b ∷ v) (c ∷ w) h k = (at_least_trans a b c h.0 k.0, Dominates-trans u v w h.1 k.1)

-- the bits of a vector that is dominated are no more
pub Dominates-ones : (u v : Vector) → Dominates u v → ones_of v ≤ ones_of u
Dominates-ones [] [] h = omega arith
Dominates-ones [] (b ∷ v) h = elim h [ ]
Dominates-ones (a ∷ u) [] h = elim h [ ]
Dominates-ones (true ∷ u) (true ∷ v) h = let others = Dominates-ones u v h.1 in omega arith
Dominates-ones (true ∷ u) (false ∷ v) h = let others = Dominates-ones u v h.1 in omega arith
Dominates-ones (false ∷ u) (true ∷ v) h = absurd h.0
Dominates-ones (false ∷ u) (false ∷ v) h = let others = Dominates-ones u v h.1 in omega arith

-- and where they are as many the two are the same
pub same_from_ones : (u v : Vector) → Dominates u v → ones_of u ≤ ones_of v → u ≡ v
same_from_ones [] [] h k = refl
same_from_ones [] (b ∷ v) h k = elim h [ ]
same_from_ones (a ∷ u) [] h k = elim h [ ]
same_from_ones (true ∷ u) (true ∷ v) h k = ap (λ (l : Vector). true ∷ l) (same_from_ones u v h.1 (omega arith))
same_from_ones (true ∷ u) (false ∷ v) h k = let fewer = Dominates-ones u v h.1 in absurd (omega arith)
same_from_ones (false ∷ u) (true ∷ v) h k = absurd h.0
same_from_ones (false ∷ u) (false ∷ v) h k = ap (λ (l : Vector). false ∷ l) (same_from_ones u v h.1 (omega arith))

pub Dominates-antisym : (u v : Vector) → Dominates u v → Dominates v u → u ≡ v
Dominates-antisym u v h k = same_from_ones u v h (Dominates-ones v u k)

pub cases_Dominates : (u v : Vector) → Dominates u v ⊎ (Dominates u v → ⊥)
cases_Dominates [] [] = inl tt
cases_Dominates [] (b ∷ v) = inr (λ h. h)
cases_Dominates (a ∷ u) [] = inr (λ h. h)
cases_Dominates (true ∷ u) (b ∷ v) = ⊎_elim (λ (h : Dominates u v). inl (tt, h)) (λ (n : Dominates u v → ⊥). inr (λ (h : Dominates (true ∷ u) (b ∷ v)). n h.1)) (cases_Dominates u v)
cases_Dominates (false ∷ u) (true ∷ v) = inr (λ h. h.0)
cases_Dominates (false ∷ u) (false ∷ v) = ⊎_elim (λ (h : Dominates u v). inl (tt, h)) (λ (n : Dominates u v → ⊥). inr (λ (h : Dominates (false ∷ u) (false ∷ v)). n h.1)) (cases_Dominates u v)

-- ---- order

earlier_trans : (u v w : Vector) → earlier_one u v ≡ Less → earlier_one v w ≡ Less → earlier_one u w ≡ Less
earlier_trans [] [] w h k = cc
earlier_trans [] (b ∷ v) w h k = cc
earlier_trans (a ∷ u) [] [] h k = cc
earlier_trans (a ∷ u) [] (c ∷ w) h k = cc
earlier_trans (a ∷ u) (b ∷ v) [] h k = refl
earlier_trans (true ∷ u) (true ∷ v) (true ∷ w) h k = earlier_trans u v w h k
earlier_trans (true ∷ u) (b ∷ v) (false ∷ w) h k = refl
earlier_trans (true ∷ u) (false ∷ v) (true ∷ w) h k = cc
earlier_trans (false ∷ u) (true ∷ v) (c ∷ w) h k = cc
earlier_trans (false ∷ u) (false ∷ v) (true ∷ w) h k = cc
earlier_trans (false ∷ u) (false ∷ v) (false ∷ w) h k = earlier_trans u v w h k

earlier_irrefl : (u : Vector) → earlier_one u u ≡ Less → ⊥
earlier_irrefl [] h = cc
earlier_irrefl (true ∷ u) h = earlier_irrefl u h
earlier_irrefl (false ∷ u) h = earlier_irrefl u h

earlier_cases : (u v : Vector) → (u ≡ v) ⊎ ((earlier_one u v ≡ Less) ⊎ (earlier_one v u ≡ Less))
earlier_cases [] [] = inl refl
earlier_cases [] (b ∷ v) = inr (inr refl)
earlier_cases (a ∷ u) [] = inr (inl refl)
earlier_cases (true ∷ u) (false ∷ v) = inr (inl refl)
earlier_cases (false ∷ u) (true ∷ v) = inr (inr refl)
earlier_cases (true ∷ u) (true ∷ v) = ⊎_elim (λ (e : u ≡ v). inl (ap (λ (l : Vector). true ∷ l) e)) (λ (o : (earlier_one u v ≡ Less) ⊎ (earlier_one v u ≡ Less)). inr o) (earlier_cases u v)
earlier_cases (false ∷ u) (false ∷ v) = ⊎_elim (λ (e : u ≡ v). inl (ap (λ (l : Vector). false ∷ l) e)) (λ (o : (earlier_one u v ≡ Less) ⊎ (earlier_one v u ≡ Less)). inr o) (earlier_cases u v)

pub Precedes-more : (u v : Vector) → ones_of v < ones_of u → Precedes u v
Precedes-more u v h = cond-true (ltb (ones_of v) (ones_of u)) Less _ (lt-ltb _ _ h)

Precedes-same : (u v : Vector) → ones_of u ≡ ones_of v → earlier_one u v ≡ Less → Precedes u v
Precedes-same u v e h = cond-false (ltb (ones_of v) (ones_of u)) Less _ (le-ltb _ _ (omega arith)) ∙ cond-false (ltb (ones_of u) (ones_of v)) Greater _ (le-ltb _ _ (omega arith)) ∙ h

pub Precedes-cases : (u v : Vector) → Precedes u v → (ones_of v < ones_of u) ⊎ ((ones_of u ≡ ones_of v) × (earlier_one u v ≡ Less))
Precedes-cases u v h = go (ltb (ones_of v) (ones_of u)) (ltb (ones_of u) (ones_of v)) refl refl h
  where
    go : (a b : Bool) → ltb (ones_of v) (ones_of u) ≡ a → ltb (ones_of u) (ones_of v) ≡ b → cond a Less (cond b Greater (earlier_one u v)) ≡ Less → (ones_of v < ones_of u) ⊎ ((ones_of u ≡ ones_of v) × (earlier_one u v ≡ Less))
    go true b ea eb k = inl (ltb-true _ _ ea)
    go false true ea eb k = absurd (cc)
    go false false ea eb k = let l = ltb-false _ _ ea in let m = ltb-false _ _ eb in inr (omega arith, k)

pub Precedes-trans : (u v w : Vector) → Precedes u v → Precedes v w → Precedes u w
Precedes-trans u v w h k = ⊎_elim
    (λ (a : ones_of v < ones_of u). ⊎_elim (λ (b : ones_of w < ones_of v). Precedes-more u w (omega arith)) (λ (b : (ones_of v ≡ ones_of w) × (earlier_one v w ≡ Less)). Precedes-more u w (omega arith)) (Precedes-cases v w k))
    (λ (a : (ones_of u ≡ ones_of v) × (earlier_one u v ≡ Less)). ⊎_elim (λ (b : ones_of w < ones_of v). Precedes-more u w (omega arith)) (λ (b : (ones_of v ≡ ones_of w) × (earlier_one v w ≡ Less)). Precedes-same u w (a.0 ∙ b.0) (earlier_trans u v w a.1 b.1)) (Precedes-cases v w k))
    (Precedes-cases u v h)

pub Precedes-irrefl : (u : Vector) → Precedes u u → ⊥
Precedes-irrefl u h = ⊎_elim (λ (a : ones_of u < ones_of u). omega arith) (λ (a : (ones_of u ≡ ones_of u) × (earlier_one u u ≡ Less)). earlier_irrefl u a.1) (Precedes-cases u u h)

pub Precedes-asym : (u v : Vector) → Precedes u v → Precedes v u → ⊥
Precedes-asym u v h k = Precedes-irrefl u (Precedes-trans u v u h k)

pub cases_Precedes : (u v : Vector) → (u ≡ v) ⊎ (Precedes u v ⊎ Precedes v u)
cases_Precedes u v = ⊎_elim (λ (a : ones_of u < ones_of v). inr (inr (Precedes-more v u a))) (λ (a : ones_of v ≤ ones_of u). ⊎_elim (λ (b : ones_of v < ones_of u). inr (inl (Precedes-more u v b))) (λ (b : ones_of u ≤ ones_of v). same (omega arith)) (cases_lt (ones_of v) (ones_of u))) (cases_lt (ones_of u) (ones_of v))
  where
    same : ones_of u ≡ ones_of v → (u ≡ v) ⊎ (Precedes u v ⊎ Precedes v u)
    same e = ⊎_elim (λ (s : u ≡ v). inl s) (⊎_elim (λ (o : earlier_one u v ≡ Less). inr (inl (Precedes-same u v e o))) (λ (o : earlier_one v u ≡ Less). inr (inr (Precedes-same v u (sym e) o)))) (earlier_cases u v)

-- what dominates stands before
pub Precedes-from_dominates : (u v : Vector) → Dominates u v → (u ≡ v) ⊎ Precedes u v
Precedes-from_dominates u v h = ⊎_elim (λ (e : ones_of v < ones_of u). inr (Precedes-more u v e)) (λ (e : ones_of u ≤ ones_of v). inl (same_from_ones u v h e)) (cases_lt (ones_of v) (ones_of u))

-- what precedes has no fewer ones
pub Precedes-ones : (u v : Vector) → Precedes u v → ones_of v ≤ ones_of u
Precedes-ones u v h = ⊎_elim (λ (a : ones_of v < ones_of u). omega arith) (λ (a : (ones_of u ≡ ones_of v) × (earlier_one u v ≡ Less)). omega arith) (Precedes-cases u v h)

-- ---- meets and spreads

at_least_and : (a a' b b' : Bool) → IsAtLeast a a' → IsAtLeast b b' → IsAtLeast (a && b) (a' && b')
at_least_and true true b b' h k = k
at_least_and true false b b' h k = at_least_false b
  where
    at_least_false : (c : Bool) → IsAtLeast c false
    at_least_false true = tt
    at_least_false false = tt
at_least_and false true b b' h k = absurd h
at_least_and false false b b' h k = tt

pub Dominates-meet : (u u' v v' : Vector) → Dominates u u' → Dominates v v' → Dominates (meet_of u v) (meet_of u' v')
Dominates-meet [] [] v v' h k = tt
Dominates-meet [] (b ∷ u') v v' h k = elim h [ ]
Dominates-meet (a ∷ u) [] v v' h k = elim h [ ]
Dominates-meet (a ∷ u) (a' ∷ u') [] [] h k = tt
Dominates-meet (a ∷ u) (a' ∷ u') [] (b ∷ v') h k = elim k [ ]
Dominates-meet (a ∷ u) (a' ∷ u') (b ∷ v) [] h k = elim k [ ]
Dominates-meet (a ∷ u) (a' ∷ u') (b ∷ v) (b' ∷ v') h k = (at_least_and a a' b b' h.0 k.0, Dominates-meet u u' v v' h.1 k.1)

meet-same : (v : Vector) → meet_of v v ≡ v
meet-same [] = refl
meet-same (true ∷ v) = ap (λ (l : Vector). true ∷ l) (meet-same v)
meet-same (false ∷ v) = ap (λ (l : Vector). false ∷ l) (meet-same v)

-- two that dominate a vector meet in one that does
pub Dominates-both : (a b v : Vector) → Dominates a v → Dominates b v → Dominates (meet_of a b) v
Dominates-both a b v h k = subst (Dominates (meet_of a b)) (meet-same v) (Dominates-meet a v b v h k)

pub Dominates-spread : (u v mask : Vector) → Dominates u v → Dominates (spread_of u mask) (spread_of v mask)
Dominates-spread u v [] h = tt
Dominates-spread u v (false ∷ mask) h = (tt, Dominates-spread u v mask h)
Dominates-spread [] [] (true ∷ mask) h = tt
Dominates-spread [] (b ∷ v) (true ∷ mask) h = elim h [ ]
Dominates-spread (a ∷ u) [] (true ∷ mask) h = elim h [ ]
Dominates-spread (a ∷ u) (b ∷ v) (true ∷ mask) h = (h.0, Dominates-spread u v mask h.1)
