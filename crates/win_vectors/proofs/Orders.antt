-- Dominance and the printing order.
use Rattle.std.proofs.Common.{◌≡◌, ◌⊎◌, suc, ◌<◌, Bool, true, false, ◌&&◌, [], ◌∷◌, length, refl, sym, ap, subst, ◌↔◌, arith, inl, inr}
use Rattle.std.proofs.lemmas.Bool.{cases_order}
use Rattle.std.proofs.lemmas.Bool.Decides.{nat_tests}
use Rattle.std.specs.declared.cmp.Ordering.TheVariants.{Less}
use Rattle.win_vectors.specs.Vectors.{ones_of, meet_of, restrict_of, spread_of, earlier_one}
use Rattle.win_vectors.specs.Fronts.{Vector, IsAtLeast, Dominates, Precedes}
use Rattle.win_vectors.proofs.VectorLemmas.{vector_order-same}

-- ---- dominance is a partial order

at_least-refl : (b : Bool) → IsAtLeast b b
at_least-refl true = tt
at_least-refl false = tt

at_least-trans : (a b c : Bool) → IsAtLeast a b → IsAtLeast b c → IsAtLeast a c
at_least-trans true b c p q = tt
at_least-trans false true c p q = absurd p
at_least-trans false false c p q = q

at_least-antisym : (a b : Bool) → IsAtLeast a b → IsAtLeast b a → a ≡ b
at_least-antisym true true p q = refl
at_least-antisym true false p q = absurd q
at_least-antisym false true p q = absurd p
at_least-antisym false false p q = refl

pub Dominates-refl : (v : Vector) → Dominates v v
Dominates-refl [] = tt
Dominates-refl (b ∷ v) = (at_least-refl b, Dominates-refl v)

pub Dominates-trans : (u v w : Vector) → Dominates u v → Dominates v w → Dominates u w
Dominates-trans [] [] w p q = q
Dominates-trans [] (b ∷ v) w p q = absurd p
Dominates-trans (a ∷ u) [] w p q = absurd p
Dominates-trans (a ∷ u) (b ∷ v) [] p q = absurd q
Dominates-trans (a ∷ u) (b ∷ v) (c ∷ w) p q = (at_least-trans a b c p.0 q.0, Dominates-trans u v w p.1 q.1)

pub Dominates-antisym : (u v : Vector) → Dominates u v → Dominates v u → u ≡ v
Dominates-antisym [] [] p q = refl
Dominates-antisym [] (b ∷ v) p q = absurd p
Dominates-antisym (a ∷ u) [] p q = absurd p
Dominates-antisym (a ∷ u) (b ∷ v) p q = let first = at_least-antisym a b p.0 q.0 in let rest = Dominates-antisym u v p.1 q.1 in cc (first, rest)

pub Dominates-length : (u v : Vector) → Dominates u v → length u ≡ length v
Dominates-length [] [] p = refl
Dominates-length [] (b ∷ v) p = absurd p
Dominates-length (a ∷ u) [] p = absurd p
Dominates-length (a ∷ u) (b ∷ v) p = ap suc (Dominates-length u v p.1)

-- where one of two vectors that are equal is dominated, so is the other
pub Dominates-by : (u v w : Vector) → u ≡ v → Dominates u w → Dominates v w
Dominates-by u v w e d = subst (λ (x : Vector). Dominates x w) e d

pub Dominates-of : (u v w : Vector) → v ≡ w → Dominates u v → Dominates u w
Dominates-of u v w e d = subst (λ (x : Vector). Dominates u x) e d

-- ---- the meet is the greatest vector that both dominate

pub Dominates-meet_left : (u v : Vector) → length u ≡ length v → Dominates u (meet_of u v)
Dominates-meet_left [] v e = tt
Dominates-meet_left (a ∷ u) [] e = absurd (omega arith)
Dominates-meet_left (true ∷ u) (b ∷ v) e = (tt, Dominates-meet_left u v (omega arith))
Dominates-meet_left (false ∷ u) (b ∷ v) e = (tt, Dominates-meet_left u v (omega arith))

pub Dominates-meet_right : (u v : Vector) → length u ≡ length v → Dominates v (meet_of u v)
Dominates-meet_right [] [] e = tt
Dominates-meet_right [] (b ∷ v) e = absurd (omega arith)
Dominates-meet_right (a ∷ u) [] e = absurd (omega arith)
Dominates-meet_right (true ∷ u) (b ∷ v) e = (at_least-refl b, Dominates-meet_right u v (omega arith))
Dominates-meet_right (false ∷ u) (true ∷ v) e = (tt, Dominates-meet_right u v (omega arith))
Dominates-meet_right (false ∷ u) (false ∷ v) e = (tt, Dominates-meet_right u v (omega arith))

pub meet_of-greatest : (u v w : Vector) → Dominates u w → Dominates v w → Dominates (meet_of u v) w
meet_of-greatest [] v [] p q = tt
meet_of-greatest [] v (c ∷ w) p q = absurd p
meet_of-greatest (a ∷ u) [] [] p q = absurd p
meet_of-greatest (a ∷ u) [] (c ∷ w) p q = absurd q
meet_of-greatest (a ∷ u) (b ∷ v) [] p q = absurd p
meet_of-greatest (true ∷ u) (b ∷ v) (c ∷ w) p q = (q.0, meet_of-greatest u v w p.1 q.1)
meet_of-greatest (false ∷ u) (b ∷ v) (c ∷ w) p q = (p.0, meet_of-greatest u v w p.1 q.1)

at_least-and : (a b a' b' : Bool) → IsAtLeast a a' → IsAtLeast b b' → IsAtLeast (a && b) (a' && b')
at_least-and true true a' b' p q = tt
at_least-and true false true true p q = absurd q
at_least-and true false true false p q = tt
at_least-and true false false b' p q = tt
at_least-and false b true b' p q = absurd p
at_least-and false b false b' p q = tt

-- better vectors have a better meet
pub meet_of-mono : (u v u' v' : Vector) → Dominates u u' → Dominates v v' → Dominates (meet_of u v) (meet_of u' v')
meet_of-mono [] v [] v' p q = tt
meet_of-mono [] v (a' ∷ u') v' p q = absurd p
meet_of-mono (a ∷ u) v [] v' p q = absurd p
meet_of-mono (a ∷ u) [] (a' ∷ u') [] p q = tt
meet_of-mono (a ∷ u) [] (a' ∷ u') (b' ∷ v') p q = absurd q
meet_of-mono (a ∷ u) (b ∷ v) (a' ∷ u') [] p q = absurd q
meet_of-mono (a ∷ u) (b ∷ v) (a' ∷ u') (b' ∷ v') p q = (at_least-and a b a' b' p.0 q.0, meet_of-mono u v u' v' p.1 q.1)

-- ---- the printing order is a strict total order

earlier_one-trans : (u v w : Vector) → earlier_one u v ≡ Less → earlier_one v w ≡ Less → earlier_one u w ≡ Less
earlier_one-trans [] [] w p q = q
earlier_one-trans [] (b ∷ v) w p q = cc
earlier_one-trans (a ∷ u) v [] p q = refl
earlier_one-trans (a ∷ u) [] (c ∷ w) p q = cc
earlier_one-trans (true ∷ u) (true ∷ v) (true ∷ w) p q = earlier_one-trans u v w p q
earlier_one-trans (true ∷ u) (b ∷ v) (false ∷ w) p q = refl
earlier_one-trans (true ∷ u) (false ∷ v) (true ∷ w) p q = cc
earlier_one-trans (false ∷ u) (true ∷ v) (c ∷ w) p q = cc
earlier_one-trans (false ∷ u) (false ∷ v) (true ∷ w) p q = cc
earlier_one-trans (false ∷ u) (false ∷ v) (false ∷ w) p q = earlier_one-trans u v w p q

earlier_one-cases : (u v : Vector) → (u ≡ v) ⊎ ((earlier_one u v ≡ Less) ⊎ (earlier_one v u ≡ Less))
earlier_one-cases [] [] = inl refl
earlier_one-cases [] (b ∷ v) = inr (inr refl)
earlier_one-cases (a ∷ u) [] = inr (inl refl)
earlier_one-cases (true ∷ u) (false ∷ v) = inr (inl refl)
earlier_one-cases (false ∷ u) (true ∷ v) = inr (inr refl)
earlier_one-cases (true ∷ u) (true ∷ v) = elim (earlier_one-cases u v) [ inl e ↦ inl (ap (λ x. true ∷ x) e) | inr e ↦ inr e ]
earlier_one-cases (false ∷ u) (false ∷ v) = elim (earlier_one-cases u v) [ inl e ↦ inl (ap (λ x. false ∷ x) e) | inr e ↦ inr e ]

-- more ones, or as many and the first 1 at the first difference
ComesFirst : Vector → Vector → Type 0
ComesFirst u v = (ones_of v < ones_of u) ⊎ ((ones_of u ≡ ones_of v) × (earlier_one u v ≡ Less))

first-from : (u v : Vector) → Precedes u v → ComesFirst u v
unfolding ComesFirst
first-from u v h = elim (cases_order (ones_of u) (ones_of v)) [
  | inl same ↦ inr (same, grind (arith, nat_tests))
  | inr (inl fewer) ↦ absurd (grind (arith, nat_tests))
  | inr (inr more) ↦ inl more
]

first-to : (u v : Vector) → ComesFirst u v → Precedes u v
unfolding ComesFirst
first-to u v h = elim h [
  | inl more ↦ grind (arith, nat_tests)
  | inr same ↦ (let equal = same.0 in let earlier = same.1 in grind (arith, nat_tests))
]

pub Precedes-irrefl : (v : Vector) → Precedes v v → ⊥
Precedes-irrefl v h = let same = vector_order-same v in cc

pub Precedes-trans : (u v w : Vector) → Precedes u v → Precedes v w → Precedes u w
unfolding ComesFirst
Precedes-trans u v w p q = first-to u w (
    elim (first-from u v p) [
      | inl more ↦ elim (first-from v w q) [ inl more' ↦ inl (omega arith) | inr same ↦ inl (omega arith) ]
      | inr same ↦ elim (first-from v w q) [ inl more ↦ inl (omega arith) | inr same' ↦ inr (omega arith, earlier_one-trans u v w same.1 same'.1) ]
    ])

pub Precedes-asym : (u v : Vector) → Precedes u v → Precedes v u → ⊥
Precedes-asym u v p q = Precedes-irrefl u (Precedes-trans u v u p q)

pub Precedes-cases : (u v : Vector) → (u ≡ v) ⊎ (Precedes u v ⊎ Precedes v u)
unfolding ComesFirst
Precedes-cases u v =
    elim (cases_order (ones_of u) (ones_of v)) [
      | inl same ↦ elim (earlier_one-cases u v) [
        | inl e ↦ inl e
        | inr (inl e) ↦ inr (inl (first-to u v (inr (same, e))))
        | inr (inr e) ↦ inr (inr (first-to v u (inr (sym same, e))))
      ]
      | inr (inl fewer) ↦ inr (inr (first-to v u (inl fewer)))
      | inr (inr more) ↦ inr (inl (first-to u v (inl more)))
    ]

-- a vector stands before those that it dominates
Dominates-ones : (u v : Vector) → Dominates u v → (u ≡ v) ⊎ (ones_of v < ones_of u)
Dominates-ones [] [] p = inl refl
Dominates-ones [] (b ∷ v) p = absurd p
Dominates-ones (a ∷ u) [] p = absurd p
Dominates-ones (true ∷ u) (true ∷ v) p = elim (Dominates-ones u v p.1) [ inl e ↦ inl (ap (λ x. true ∷ x) e) | inr more ↦ inr (omega arith) ]
Dominates-ones (true ∷ u) (false ∷ v) p = elim (Dominates-ones u v p.1) [ inl e ↦ inr (omega (arith, ap ones_of e)) | inr more ↦ inr (omega arith) ]
Dominates-ones (false ∷ u) (true ∷ v) p = absurd p.0
Dominates-ones (false ∷ u) (false ∷ v) p = elim (Dominates-ones u v p.1) [ inl e ↦ inl (ap (λ x. false ∷ x) e) | inr more ↦ inr (omega arith) ]

pub Dominates-precedes : (u v : Vector) → Dominates u v → (u ≡ v) ⊎ Precedes u v
unfolding ComesFirst
Dominates-precedes u v p = elim (Dominates-ones u v p) [ inl e ↦ inl e | inr more ↦ inr (first-to u v (inl more)) ]

-- ---- masks

pub length-restrict_of : (v mask : Vector) → length v ≡ length mask → length (restrict_of v mask) ≡ ones_of mask
length-restrict_of [] [] e = refl
length-restrict_of [] (m ∷ mask) e = absurd (omega arith)
length-restrict_of (b ∷ v) [] e = absurd (omega arith)
length-restrict_of (b ∷ v) (true ∷ mask) e = omega (arith, length-restrict_of v mask (omega arith))
length-restrict_of (b ∷ v) (false ∷ mask) e = omega (arith, length-restrict_of v mask (omega arith))

pub length-spread_of : (v mask : Vector) → length v ≡ ones_of mask → length (spread_of v mask) ≡ length mask
length-spread_of v [] e = refl
length-spread_of v (false ∷ mask) e = omega (arith, length-spread_of v mask (omega arith))
length-spread_of [] (true ∷ mask) e = absurd (omega arith)
length-spread_of (b ∷ v) (true ∷ mask) e = omega (arith, length-spread_of v mask (omega arith))

pub restrict_of-spread_of : (v mask : Vector) → length v ≡ ones_of mask → restrict_of (spread_of v mask) mask ≡ v
restrict_of-spread_of [] [] e = refl
restrict_of-spread_of (b ∷ v) [] e = absurd (omega arith)
restrict_of-spread_of v (false ∷ mask) e = restrict_of-spread_of v mask (omega arith)
restrict_of-spread_of [] (true ∷ mask) e = absurd (omega arith)
restrict_of-spread_of (b ∷ v) (true ∷ mask) e = ap (λ x. b ∷ x) (restrict_of-spread_of v mask (omega arith))

pub Dominates-spread_of : (u v mask : Vector) → length u ≡ ones_of mask → length v ≡ length mask → Dominates (spread_of u mask) v ↔ Dominates u (restrict_of v mask)
Dominates-spread_of [] [] [] e f = (λ d. d, λ d. d)
Dominates-spread_of (a ∷ u) [] [] e f = absurd (omega arith)
Dominates-spread_of u (b ∷ v) [] e f = absurd (omega arith)
Dominates-spread_of u [] (m ∷ mask) e f = absurd (omega arith)
Dominates-spread_of u (b ∷ v) (false ∷ mask) e f =
    let rest = Dominates-spread_of u v mask (omega arith) (omega arith) in
    (λ d. rest.0 d.1, λ d. (tt, rest.1 d))
Dominates-spread_of [] (b ∷ v) (true ∷ mask) e f = absurd (omega arith)
Dominates-spread_of (a ∷ u) (b ∷ v) (true ∷ mask) e f =
    let rest = Dominates-spread_of u v mask (omega arith) (omega arith) in
    (λ d. (d.0, rest.0 d.1), λ d. (d.0, rest.1 d.1))
