-- A vector put into a reduced list.
use Rattle.std.proofs.Common.{◌≡◌, ◌⊎◌, ◌↔◌, Bool, true, false, not, List, [], ◌∷◌, refl, sym, ap, subst, ◌∙◌, inl, inr, Contains, AllPairs, filter, if◌then◌else◌}
use Rattle.std.proofs.lemmas.Bool.{true≢false, false≢true, cases_Bool}
use Rattle.std.specs.Bool.{Decides}
use Rattle.std.specs.Ordering.{is_lt}
use Rattle.std.specs.declared.cmp.Ordering.{Ordering}
use Rattle.std.specs.declared.cmp.Ordering.TheVariants.{Less, Equal, Greater}
use Rattle.win_vectors.specs.Vectors.{dominates, vector_order}
use Rattle.win_vectors.specs.Fronts.{Vector, Dominates, Precedes, Covers, IsReduced}
use Rattle.win_vectors.proofs.VectorLemmas.{Decides-dominates}
use Rattle.win_vectors.proofs.Orders.{Dominates-refl, Dominates-trans, Dominates-by, Dominates-of, Precedes-cases, Precedes-trans}
use Rattle.win_vectors.proofs.Members.{Contains-same, Contains-none, Contains-first, Contains-rest, Contains-cases, AllPairs-none, AllPairs-first, AllPairs-rest, AllPairs-more}

-- u stands before v
abbrev pub is_before : Vector → Vector → Bool
is_before u v = is_lt (vector_order u v)

-- v at its place in an ordered list
abbrev pub placed : Vector → List Vector → List Vector
placed v [] = v ∷ []
placed v (u ∷ us) = if is_before u v then u ∷ placed v us else v ∷ u ∷ us

-- the vectors that v doesn't dominate
abbrev pub undominated : Vector → List Vector → List Vector
undominated v us = filter (λ u. not (dominates v u)) us

-- some vector of the list dominates v
abbrev pub is_covered : List Vector → Vector → Bool
is_covered [] v = false
is_covered (u ∷ us) v = if dominates u v then true else is_covered us v

-- v put into a reduced list
abbrev pub with_vector : Vector → List Vector → List Vector
with_vector v us = if is_covered us v then us else placed v (undominated v us)

-- ---- the tests

Precedes-from_test : (o : Ordering) → is_lt o ≡ true → o ≡ Less
Precedes-from_test Less e = refl
Precedes-from_test Equal e = absurd (false≢true e)
Precedes-from_test Greater e = absurd (false≢true e)

pub Decides-is_before : (u v : Vector) → Decides (is_before u v) (Precedes u v)
Decides-is_before u v = (Precedes-from_test (vector_order u v), λ h. ap is_lt h)

-- a test that is false
refused : {P : Type 0} (b : Bool) → Decides b P → b ≡ false → P → ⊥
refused b d e p = true≢false (sym (d.1 p) ∙ e)

Covers-rest : (u : Vector) (us : List Vector) (v : Vector) → Covers us v → Covers (u ∷ us) v
Covers-rest u us v h = (h.0, Contains-rest u us h.0 h.1, h.2)

pub Decides-is_covered : (us : List Vector) (v : Vector) → Decides (is_covered us v) (Covers us v)
Decides-is_covered [] v = (λ e. absurd (false≢true e), λ h. absurd (Contains-none h.0 h.1))
Decides-is_covered (u ∷ us) v =
    let here = Decides-dominates u v in
    let rest = Decides-is_covered us v in
    elim (cases_Bool (dominates u v)) [
      | inl holds ↦ rw holds (λ e. (u, Contains-first u us, here.0 holds), λ h. refl)
      | inr fails ↦ rw fails (
        λ e. Covers-rest u us v (rest.0 e),
        λ h. elim (Contains-cases u us h.0 h.1) [
          | inl same ↦ absurd (refused (dominates u v) here fails (Dominates-by h.0 u v (sym same) h.2))
          | inr member ↦ rest.1 (h.0, member, h.2)
        ],
      )
    ]

-- ---- members

pub undominated-member : (v : Vector) (us : List Vector) (w : Vector) → Contains (undominated v us) w ↔ (Contains us w × (Dominates v w → ⊥))
undominated-member v [] w = (λ m. absurd (Contains-none w m), λ p. absurd (Contains-none w p.0))
undominated-member v (u ∷ us) w =
    let here = Decides-dominates v u in
    let rest = undominated-member v us w in
    elim (cases_Bool (dominates v u)) [
      | inl holds ↦ rw holds (
        λ m. let r = rest.0 m in (Contains-rest u us w r.0, r.1),
        λ p. elim (Contains-cases u us w p.0) [
          | inl same ↦ absurd (p.1 (Dominates-of v u w same (here.0 holds)))
          | inr member ↦ rest.1 (member, p.1)
        ],
      )
      | inr fails ↦ rw fails (
        λ m. elim (Contains-cases u (undominated v us) w m) [
          | inl same ↦ (Contains-same (u ∷ us) u w same (Contains-first u us), λ d. refused (dominates v u) here fails (Dominates-of v w u (sym same) d))
          | inr member ↦ (let r = rest.0 member in (Contains-rest u us w r.0, r.1))
        ],
        λ p. elim (Contains-cases u us w p.0) [
          | inl same ↦ Contains-same (u ∷ undominated v us) u w same (Contains-first u (undominated v us))
          | inr member ↦ Contains-rest u (undominated v us) w (rest.1 (member, p.1))
        ],
      )
    ]

pub placed-member : (v : Vector) (us : List Vector) (w : Vector) → Contains (placed v us) w ↔ ((v ≡ w) ⊎ Contains us w)
placed-member v [] w = (
  λ m. Contains-cases v [] w m,
  λ p. elim p [ inl same ↦ Contains-same (v ∷ []) v w same (Contains-first v []) | inr member ↦ absurd (Contains-none w member) ],
)
placed-member v (u ∷ us) w =
    let rest = placed-member v us w in
    elim (cases_Bool (is_before u v)) [
      | inl holds ↦ rw holds (
        λ m. elim (Contains-cases u (placed v us) w m) [
          | inl same ↦ inr (Contains-same (u ∷ us) u w same (Contains-first u us))
          | inr later ↦ elim (rest.0 later) [ inl same ↦ inl same | inr member ↦ inr (Contains-rest u us w member) ]
        ],
        λ p. elim p [
          | inl same ↦ Contains-rest u (placed v us) w (rest.1 (inl same))
          | inr member ↦ elim (Contains-cases u us w member) [
            | inl same ↦ Contains-same (u ∷ placed v us) u w same (Contains-first u (placed v us))
            | inr later ↦ Contains-rest u (placed v us) w (rest.1 (inr later))
          ]
        ],
      )
      | inr fails ↦ rw fails (
        λ m. Contains-cases v (u ∷ us) w m,
        λ p. elim p [
          | inl same ↦ Contains-same (v ∷ u ∷ us) v w same (Contains-first v (u ∷ us))
          | inr member ↦ Contains-rest v (u ∷ us) w member
        ],
      )
    ]

-- ---- order

undominated-ordered : (v : Vector) (us : List Vector) → AllPairs Precedes us → AllPairs Precedes (undominated v us)
undominated-ordered v [] h = AllPairs-none
undominated-ordered v (u ∷ us) h =
    let rest = undominated-ordered v us (AllPairs-rest u us h) in
    elim (cases_Bool (dominates v u)) [
      | inl holds ↦ rw holds rest
      | inr fails ↦ rw fails (AllPairs-more u (undominated v us) (λ w m. AllPairs-first u us h w ((undominated-member v us w).0 m).0) rest)
    ]

placed-ordered : (v : Vector) (us : List Vector) → (Contains us v → ⊥) → AllPairs Precedes us → AllPairs Precedes (placed v us)
placed-ordered v [] new h = AllPairs-more v [] (λ w m. absurd (Contains-none w m)) AllPairs-none
placed-ordered v (u ∷ us) new h =
    let here = Decides-is_before u v in
    let rest = placed-ordered v us (λ m. new (Contains-rest u us v m)) (AllPairs-rest u us h) in
    elim (cases_Bool (is_before u v)) [
      | inl holds ↦ rw holds (AllPairs-more u (placed v us) (λ w m.
          elim ((placed-member v us w).0 m) [
            | inl same ↦ subst (λ (x : Vector). Precedes u x) same (here.0 holds)
            | inr member ↦ AllPairs-first u us h w member
          ]) rest)
      | inr fails ↦ rw fails (elim (Precedes-cases u v) [
        | inl same ↦ absurd (new (Contains-same (u ∷ us) u v same (Contains-first u us)))
        | inr (inl before) ↦ absurd (refused (is_before u v) here fails before)
        | inr (inr after) ↦ AllPairs-more v (u ∷ us) (λ w m.
            elim (Contains-cases u us w m) [
              | inl same ↦ subst (λ (x : Vector). Precedes v x) same after
              | inr member ↦ Precedes-trans v u w after (AllPairs-first u us h w member)
            ]) h
      ])
    ]

-- ---- the reduced list with one vector more

-- where the vector is covered
pub covered-reduced : (v : Vector) (all front : List Vector) → IsReduced all front → Covers front v → IsReduced (v ∷ all) front
covered-reduced v all front h above = record {
  reached = λ w m. Contains-rest v all w (h.reached w m);
  covered = λ w m. elim (Contains-cases v all w m) [
    | inl same ↦ (above.0, above.1, Dominates-of above.0 v w same above.2)
    | inr member ↦ h.covered w member
  ];
  apart = h.apart;
  ordered = h.ordered;
}

-- where it isn't
pub new-reduced : (v : Vector) (all front : List Vector) → IsReduced all front → (Covers front v → ⊥) → IsReduced (v ∷ all) (placed v (undominated v front))
new-reduced v all front h new =
    let kept : (w : Vector) → Contains (placed v (undominated v front)) w → (v ≡ w) ⊎ (Contains front w × (Dominates v w → ⊥)) = λ w m.
    elim ((placed-member v (undominated v front) w).0 m) [ inl same ↦ inl same | inr member ↦ inr ((undominated-member v front w).0 member) ] in
    let itself : Contains (placed v (undominated v front)) v = (placed-member v (undominated v front) v).1 (inl refl) in
    record {
      reached = λ w m. elim (kept w m) [
        | inl same ↦ Contains-same (v ∷ all) v w same (Contains-first v all)
        | inr old ↦ Contains-rest v all w (h.reached w old.0)
      ];
      covered = λ w m. elim (Contains-cases v all w m) [
        | inl same ↦ (v, itself, Dominates-of v v w same (Dominates-refl v))
        | inr member ↦ covered_still w (h.covered w member)
      ];
      apart = λ u w m n d. elim (kept u m) [
        | inl same ↦ elim (kept w n) [
          | inl same' ↦ sym same ∙ same'
          | inr old' ↦ absurd (old'.1 (Dominates-by u v w (sym same) d))
        ]
        | inr old ↦ elim (kept w n) [
          | inl same' ↦ absurd (new (u, old.0, Dominates-of u w v (sym same') d))
          | inr old' ↦ h.apart u w old.0 old'.0 d
        ]
      ];
      ordered = placed-ordered v (undominated v front) (λ m. new (v, ((undominated-member v front v).0 m).0, Dominates-refl v)) (undominated-ordered v front h.ordered);
    } where
      covered_still : (w : Vector) → Covers front w → Covers (placed v (undominated v front)) w
      covered_still w (u, member, above) =
          elim (cases_Bool (dominates v u)) [
            | inl holds ↦ (v, (placed-member v (undominated v front) v).1 (inl refl), Dominates-trans v u w ((Decides-dominates v u).0 holds) above)
            | inr fails ↦ (u, (placed-member v (undominated v front) u).1 (inr ((undominated-member v front u).1 (member, refused (dominates v u) (Decides-dominates v u) fails))), above)
          ]

pub with_vector-reduced : (v : Vector) (all front : List Vector) → IsReduced all front → IsReduced (v ∷ all) (with_vector v front)
with_vector-reduced v all front h =
    let test = Decides-is_covered front v in
    elim (cases_Bool (is_covered front v)) [
      | inl holds ↦ rw holds (covered-reduced v all front h (test.0 holds))
      | inr fails ↦ rw fails (new-reduced v all front h (refused (is_covered front v) test fails))
    ]
