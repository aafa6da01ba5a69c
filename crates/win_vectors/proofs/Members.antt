-- Members of a list of vectors, and lists that stand in order.
use Rattle.std.proofs.Common.{◌≡◌, ◌⊎◌, ℕ, suc, zero, ◌<◌, List, [], ◌∷◌, ◌++◌, length, refl, sym, subst, ◌∙◌, arith, get_or, inl, inr, Contains, AllPairs}
use Rattle.std.proofs.lemmas.List.Elements.{Contains-get_or, Contains-append_cases, Contains-append_left, Contains-append_right}
use Rattle.win_vectors.specs.Fronts.{Vector, Precedes}
use Rattle.win_vectors.specs.Laws.{SameMembers}
use Rattle.win_vectors.proofs.Orders.{Precedes-irrefl, Precedes-asym}

-- ---- members

pub Contains-none : (v : Vector) → Contains [] v → ⊥
Contains-none v h = absurd (omega arith)

pub Contains-first : (u : Vector) (us : List Vector) → Contains (u ∷ us) u
Contains-first u us = (0, omega arith, refl)

pub Contains-rest : (u : Vector) (us : List Vector) (v : Vector) → Contains us v → Contains (u ∷ us) v
Contains-rest u us v h = (suc h.0, omega arith, h.2)

pub Contains-cases : (u : Vector) (us : List Vector) (v : Vector) → Contains (u ∷ us) v → (u ≡ v) ⊎ Contains us v
Contains-cases u us v h = at h.0 h.1 h.2 where
  at : (k : ℕ) → k < length (u ∷ us) → get_or (u ∷ us) k v ≡ v → (u ≡ v) ⊎ Contains us v
  at zero within e = inl e
  at (suc k) within e = inr (k, omega arith, e)

-- an equal vector
pub Contains-same : (us : List Vector) (v w : Vector) → v ≡ w → Contains us v → Contains us w
Contains-same us v w e h = subst (λ (x : Vector). Contains us x) e h

-- a vector put at the end, or at the start
pub SameMembers-push : (v : Vector) (us : List Vector) → SameMembers (v ∷ us) (us ++ v ∷ [])
SameMembers-push v us w = (
  λ m. elim (Contains-cases v us w m) [
    | inl same ↦ Contains-append_right us (v ∷ []) w (Contains-same (v ∷ []) v w same (Contains-first v []))
    | inr member ↦ Contains-append_left us (v ∷ []) w member
  ],
  λ m. elim (Contains-append_cases us (v ∷ []) w m) [
    | inl member ↦ Contains-rest v us w member
    | inr last ↦ elim (Contains-cases v [] w last) [ inl same ↦ Contains-same (v ∷ us) v w same (Contains-first v us) | inr none ↦ absurd (Contains-none w none) ]
  ],
)

-- ---- ordered lists

pub AllPairs-none : AllPairs Precedes []
AllPairs-none i j d below within = absurd (omega arith)

pub AllPairs-first : (u : Vector) (us : List Vector) → AllPairs Precedes (u ∷ us) → (v : Vector) → Contains us v → Precedes u v
AllPairs-first u us h v member = subst (λ (x : Vector). Precedes u x) member.2 (h 0 (suc member.0) v (omega arith) (omega arith))

pub AllPairs-rest : (u : Vector) (us : List Vector) → AllPairs Precedes (u ∷ us) → AllPairs Precedes us
AllPairs-rest u us h i j d below within = h (suc i) (suc j) d (omega arith) (omega arith)

pub AllPairs-more : (u : Vector) (us : List Vector) → ((v : Vector) → Contains us v → Precedes u v) → AllPairs Precedes us → AllPairs Precedes (u ∷ us)
AllPairs-more u us first rest i j d below within = at i j below within where
  at : (i j : ℕ) → i < j → j < length (u ∷ us) → Precedes (get_or (u ∷ us) i d) (get_or (u ∷ us) j d)
  at i zero below within = absurd (omega arith)
  at zero (suc j) below within = first (get_or us j d) (Contains-get_or us j d (omega arith))
  at (suc i) (suc j) below within = rest i j d (omega arith) (omega arith)

-- the first of two ordered lists with the same vectors
same_first : (u : Vector) (f : List Vector) (v : Vector) (g : List Vector) → AllPairs Precedes (u ∷ f) → AllPairs Precedes (v ∷ g) → SameMembers (u ∷ f) (v ∷ g) → u ≡ v
same_first u f v g p q same =
    elim (Contains-cases v g u ((same u).0 (Contains-first u f))) [
      | inl e ↦ sym e
      | inr u_later ↦ elim (Contains-cases u f v ((same v).1 (Contains-first v g))) [
        | inl e ↦ e
        | inr v_later ↦ absurd (Precedes-asym u v (AllPairs-first u f p v v_later) (AllPairs-first v g q u u_later))
      ]
    ]

-- a vector behind the first stands behind the first of the other list
same_later : (u : Vector) (f : List Vector) (v : Vector) (g : List Vector) → u ≡ v → AllPairs Precedes (u ∷ f) → ((w : Vector) → Contains (u ∷ f) w → Contains (v ∷ g) w) → (w : Vector) → Contains f w → Contains g w
same_later u f v g first p within w member =
    elim (Contains-cases v g w (within w (Contains-rest u f w member))) [
      | inl e ↦ absurd (Precedes-irrefl w (subst (λ (x : Vector). Precedes x w) (first ∙ e) (AllPairs-first u f p w member)))
      | inr later ↦ later
    ]

-- two ordered lists with the same vectors are the same list
pub same_ordered : (f g : List Vector) → AllPairs Precedes f → AllPairs Precedes g → SameMembers f g → f ≡ g
same_ordered [] [] p q same = refl
same_ordered [] (v ∷ g) p q same = absurd (Contains-none v ((same v).1 (Contains-first v g)))
same_ordered (u ∷ f) [] p q same = absurd (Contains-none u ((same u).0 (Contains-first u f)))
same_ordered (u ∷ f) (v ∷ g) p q same =
    let first = same_first u f v g p q same in
    let rest = same_ordered f g (AllPairs-rest u f p) (AllPairs-rest v g q) (λ w. (
      same_later u f v g first p (λ x. (same x).0) w,
      same_later v g u f (sym first) q (λ x. (same x).1) w,
    )) in
    cc (first, rest)
