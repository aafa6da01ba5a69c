-- What a join covers.
use Rattle.std.proofs.Common.{◌≡◌, ◌↔◌, suc, zero, ℕ, List, [], ◌∷◌, length, refl, sym, ap, ◌∙◌, arith, Contains, All, replicate, true, IsPermutation, get_or}
use Rattle.std.proofs.lemmas.List.{length-replicate}
use Rattle.std.proofs.lemmas.List.Elements.{Contains-get_or, All-contains, All-cons, All-nil, All-head, All-tail}
use Rattle.std.proofs.lemmas.List.Sorted.{All-permutation, IsPermutation-sym}
use Rattle.win_vectors.specs.Vectors.{ones_of, meet_of, spread_of, restrict_of}
use Rattle.win_vectors.specs.Fronts.{Vector, Dominates, Covers, HaveWidth, meets, spreads}
use Rattle.win_vectors.proofs.VectorLemmas.{length-meet_of}
use Rattle.win_vectors.proofs.Orders.{Dominates-trans, Dominates-of, Dominates-by, Dominates-length, Dominates-meet_left, Dominates-meet_right, meet_of-greatest, length-spread_of, Dominates-spread_of}
use Rattle.win_vectors.proofs.Members.{Contains-first}
use Rattle.win_vectors.proofs.Reduction.{meets-member, Contains-map, Contains-mapped, reduced-same_cover}
use Rattle.front_join.specs.Joins.{Child, IsChildOf, joined, JoinedCovers, JoinedInAnyOrder}

-- the vector of all ones dominates each vector of its width
Dominates-ones : (width : ℕ) (t : Vector) → length t ≡ width → Dominates (replicate width true) t
Dominates-ones zero [] e = tt
Dominates-ones zero (b ∷ t) e = absurd (omega arith)
Dominates-ones (suc width) [] e = absurd (omega arith)
Dominates-ones (suc width) (b ∷ t) e = (tt, Dominates-ones width t (omega arith))

-- the meets of two lists cover what both lists cover
meets-cover : (width : ℕ) (f g : List Vector) (t : Vector) → HaveWidth width f → HaveWidth width g → Covers (meets f g) t ↔ (Covers f t × Covers g t)
meets-cover width f g t f_width g_width = (both, meet) where
  both : Covers (meets f g) t → Covers f t × Covers g t
  both (w, member, above) =
      let h = (meets-member f g w).0 member in
      let same : length h.first ≡ length h.second = All-contains (λ v. length v ≡ width) f h.first f_width h.in_first ∙ sym (All-contains (λ v. length v ≡ width) g h.second g_width h.in_second) in
      let first = Dominates-of h.first (meet_of h.first h.second) w h.is (Dominates-meet_left h.first h.second same) in
      let second = Dominates-of h.second (meet_of h.first h.second) w h.is (Dominates-meet_right h.first h.second same) in (
        (h.first, h.in_first, Dominates-trans h.first w t first above),
        (h.second, h.in_second, Dominates-trans h.second w t second above),
      )

  meet : Covers f t × Covers g t → Covers (meets f g) t
  meet ((u, in_f, u_above), (v, in_g, v_above)) = (
    meet_of u v,
    (meets-member f g (meet_of u v)).1 (record { first = u; second = v; in_first = in_f; in_second = in_g; is = refl }),
    meet_of-greatest u v t u_above v_above,
  )

-- the spread vectors of a child cover a vector where the child covers its part of it
spreads-cover : (width : ℕ) (c : Child) (t : Vector) → IsChildOf width c → length t ≡ width → Covers (spreads c.mask c.vectors) t ↔ Covers c.vectors (restrict_of t c.mask)
spreads-cover width c t child e = (part, whole) where
  part : Covers (spreads c.mask c.vectors) t → Covers c.vectors (restrict_of t c.mask)
  part (w, member, above) =
      let (v, in_child, is) = Contains-map (λ v. spread_of v c.mask) c.vectors w member in
      let long = All-contains (λ v. length v ≡ ones_of c.mask) c.vectors v child.for_child in_child in
      (v, in_child, (Dominates-spread_of v t c.mask long (e ∙ sym child.for_node)).0 (Dominates-by w (spread_of v c.mask) t (sym is) above))

  whole : Covers c.vectors (restrict_of t c.mask) → Covers (spreads c.mask c.vectors) t
  whole (v, in_child, above) =
      let long = All-contains (λ v. length v ≡ ones_of c.mask) c.vectors v child.for_child in_child in
      (spread_of v c.mask, Contains-mapped (λ v. spread_of v c.mask) c.vectors v in_child, (Dominates-spread_of v t c.mask long (e ∙ sym child.for_node)).1 above)

-- ---- widths

HaveWidth-members : (width : ℕ) (vs : List Vector) → ((v : Vector) → Contains vs v → length v ≡ width) → HaveWidth width vs
HaveWidth-members width vs h k d within = h (get_or vs k d) (Contains-get_or vs k d within)

spreads-width : (width : ℕ) (c : Child) → IsChildOf width c → HaveWidth width (spreads c.mask c.vectors)
spreads-width width c child = HaveWidth-members width (spreads c.mask c.vectors) (λ w member.
    let (v, in_child, is) = Contains-map (λ v. spread_of v c.mask) c.vectors w member in
    let long = All-contains (λ v. length v ≡ ones_of c.mask) c.vectors v child.for_child in_child in
    ap length (sym is) ∙ length-spread_of v c.mask long ∙ child.for_node)

joined-width : (width : ℕ) (cs : List Child) → All (IsChildOf width) cs → HaveWidth width (joined width cs)
joined-width width [] children =
    All-cons (λ v. length v ≡ width) (replicate width true) [] (length-replicate width true) (All-nil (λ v. length v ≡ width))
joined-width width (c ∷ cs) children =
    let before = joined-width width cs (All-tail (IsChildOf width) c cs children) in
    let spread = spreads-width width c (All-head (IsChildOf width) c cs children) in
    HaveWidth-members width (joined width (c ∷ cs)) (λ w member.
    let h = (meets-member (joined width cs) (spreads c.mask c.vectors) w).0 member in
    let first = All-contains (λ v. length v ≡ width) (joined width cs) h.first before h.in_first in
    let second = All-contains (λ v. length v ≡ width) (spreads c.mask c.vectors) h.second spread h.in_second in
    ap length (sym h.is) ∙ length-meet_of h.first h.second (first ∙ sym second) ∙ first)

-- ---- the laws

pub joined-covers : JoinedCovers
joined-covers width [] t children e = (
  λ above k d within. absurd (omega arith),
  λ every. (replicate width true, Contains-first (replicate width true) [], Dominates-ones width t e),
)
joined-covers width (c ∷ cs) t children e =
    let child = All-head (IsChildOf width) c cs children in
    let others = All-tail (IsChildOf width) c cs children in
    let rest = joined-covers width cs t others e in
    let spread = spreads-cover width c t child e in
    let meet = meets-cover width (joined width cs) (spreads c.mask c.vectors) t (joined-width width cs others) (spreads-width width c child) in (
      λ above. let both = meet.0 above in All-cons (λ x. Covers x.vectors (restrict_of t x.mask)) c cs (spread.0 both.1) (rest.0 both.0),
      λ every. meet.1 (rest.1 (All-tail (λ x. Covers x.vectors (restrict_of t x.mask)) c cs every), spread.1 (All-head (λ x. Covers x.vectors (restrict_of t x.mask)) c cs every)),
    )

-- what a join covers in one order it covers in the other
covers_in_order : (width : ℕ) (cs ds : List Child) (t : Vector) → All (IsChildOf width) cs → IsPermutation cs ds → Covers (joined width cs) t → Covers (joined width ds) t
covers_in_order width cs ds t children order above =
    let long = All-contains (λ v. length v ≡ width) (joined width cs) above.0 (joined-width width cs children) above.1 in
    let e = sym (Dominates-length above.0 t above.2) ∙ long in
    let every = (joined-covers width cs t children e).0 above in
    (joined-covers width ds t (All-permutation (IsChildOf width) cs ds order children) e).1 (All-permutation (λ c. Covers c.vectors (restrict_of t c.mask)) cs ds order every)

pub joined-in_any_order : JoinedInAnyOrder
joined-in_any_order width cs ds front children order h =
    let back = IsPermutation-sym cs ds order in
    let turned = All-permutation (IsChildOf width) cs ds order children in
    reduced-same_cover (joined width cs) (joined width ds) front (λ t. (covers_in_order width cs ds t children order, covers_in_order width ds cs t turned back)) h
