-- Steps of the calls of a front.
use Rattle.std.proofs.Common.{◌≡◌, ◌≢◌, ◌==◌, ◌&&◌, Bool, ℕ, suc, zero, ◌+◌, ◌<◌, ◌≤◌, true, false, List, [], ◌∷◌, ◌++◌, length, refl, sym, ap, subst, ◌∙◌, arith, get_or, inl, inr, AllPairs, All, insert, take, drop, not, Any, Result, Ok, Err, IsOk, OnOk}
use Rattle.std.proofs.lemmas.Bool.{false≢true, cases_Bool, cases_order, cases_lt, and_parts, eq-eqb}
use Rattle.std.specs.List.Sorted.{IsPartitionedBy, IsPartitionPoint}
use Rattle.std.proofs.lemmas.List.Elements.{Contains-get_or, All-contains, All-filter}
use Rattle.std.proofs.lemmas.List.{get_or_default, get_or-take, length-take, take_more, append_assoc, get_or-drop, length-drop}
use Rattle.win_vectors.specs.Vectors.{dominates}
use Rattle.win_vectors.specs.Fronts.{Vector, Dominates, Precedes, Covers, HaveWidth, IsReduced, IsFirstAbove}
use Rattle.pareto_fronts.specs.FrontValue.{FrontValue, IsSoundFront}
use Rattle.pareto_fronts.specs.Places.{IsPlaceFor}
use Rattle.win_vectors.proofs.VectorLemmas.{Decides-dominates}
use Rattle.win_vectors.proofs.Orders.{Dominates-length, Dominates-refl, Dominates-precedes, Precedes-irrefl, Precedes-asym, Precedes-trans, Precedes-cases}
use Rattle.win_vectors.proofs.Insertion.{is_before, placed, undominated, covered-reduced, new-reduced, Decides-is_before}
use Rattle.win_vectors.proofs.Reduction.{reduced-its_own, reduced-push}

-- what an Ok says
pub on_ok : {T E : Type 0} {P : Type 0} (r : Result T E) → IsOk r → OnOk r P → P
on_ok (Ok x) h p = p
on_ok (Err e) h p = absurd (false≢true h)

-- vectors of two widths
pub dominates-apart : (u v : Vector) → length u ≢ length v → dominates u v ≡ false
dominates-apart u v apart =
    let test = Decides-dominates u v in
    elim (cases_Bool (dominates u v)) [
      | inl holds ↦ absurd (apart (Dominates-length u v (test.0 holds)))
      | inr fails ↦ fails
    ]

-- ---- the place of a vector

-- a vector doesn't dominate one that is printed before it
behind : (v u : Vector) → Precedes u v → dominates v u ≡ false
behind v u before =
    let test = Decides-dominates v u in
    elim (cases_Bool (dominates v u)) [
      | inl holds ↦ elim (Dominates-precedes v u (test.0 holds)) [
        | inl same ↦ absurd (Precedes-irrefl v (subst (λ (x : Vector). Precedes x v) (sym same) before))
        | inr after ↦ absurd (Precedes-asym u v before after)
      ]
      | inr fails ↦ fails
    ]

placed-first : (v : Vector) (us : List Vector) → All (λ u. Precedes v u) us → placed v us ≡ v ∷ us
placed-first v [] after = refl
placed-first v (u ∷ us) after =
    let test = Decides-is_before u v in
    elim (cases_Bool (is_before u v)) [
      | inl holds ↦ absurd (Precedes-asym u v (test.0 holds) (after 0 u (omega arith)))
      | inr fails ↦ rw fails refl
    ]

-- those that v dominates stand behind its place
undominated-long : (v : Vector) (us : List Vector) (place : ℕ) → place ≤ length us → All (λ u. Precedes u v) (take place us) → place ≤ length (undominated v us)
undominated-long v us zero within before = omega arith
undominated-long v [] (suc place) within before = absurd (omega arith)
undominated-long v (u ∷ us) (suc place) within before =
    rw (behind v u (before 0 u (omega arith))) (omega (arith, undominated-long v us place (omega arith) (λ k d low. before (suc k) d (omega arith))))

undominated-insert : (v : Vector) (us : List Vector) (place : ℕ) → place ≤ length us → All (λ u. Precedes u v) (take place us) → All (λ u. Precedes v u) (drop place us)
    → insert (undominated v us) place v ≡ placed v (undominated v us)
undominated-insert v us zero within before after = sym (placed-first v (undominated v us) (All-filter (λ u. not (dominates v u)) (λ u. Precedes v u) us after))
undominated-insert v [] (suc place) within before after = absurd (omega arith)
undominated-insert v (u ∷ us) (suc place) within before after =
    let first : is_before u v ≡ true = (Decides-is_before u v).1 (before 0 u (omega arith)) in
    let rest = undominated-insert v us place (omega arith) (λ k d low. before (suc k) d (omega arith)) after in
    rw (behind v u (before 0 u (omega arith)), first) (ap (λ ws. u ∷ ws) rest)

undominated-all : (v : Vector) (us : List Vector) (place : ℕ) → place ≤ length us → All (λ u. Precedes u v) (take place us) → (Any (λ u. Dominates v u) (drop place us) → ⊥) → undominated v us ≡ us
undominated-all v [] zero within before none = refl
undominated-all v (u ∷ us) zero within before none =
    let test = Decides-dominates v u in
    let rest = undominated-all v us zero (omega arith) (λ k d low. absurd (omega arith)) (λ one. none (suc one.0, one.1, omega arith, one.3, one.4)) in
    elim (cases_Bool (dominates v u)) [
      | inl holds ↦ absurd (none (0, u, omega arith, refl, test.0 holds))
      | inr fails ↦ rw fails (ap (λ ws. u ∷ ws) rest)
    ]
undominated-all v [] (suc place) within before none = absurd (omega arith)
undominated-all v (u ∷ us) (suc place) within before none =
    let rest = undominated-all v us place (omega arith) (λ k d low. before (suc k) d (omega arith)) none in
    rw (behind v u (before 0 u (omega arith))) (ap (λ ws. u ∷ ws) rest)

-- ---- a search for the place

-- whether a vector of this width is printed before v
abbrev pub stands_before : Vector → Vector → Bool
stands_before v u = (length u == length v) && is_before u v

-- the vectors that are printed before v come first
pub parted-by_order : (us : List Vector) (v : Vector) → HaveWidth (length v) us → AllPairs Precedes us → IsPartitionedBy (stands_before v) us
parted-by_order us v widths ordered i j d low within holds =
    elim (cases_lt i j) [
      | inl under ↦
          let parts = and_parts (length (get_or us j d) == length v) (is_before (get_or us j d) v) holds in
          let first = Precedes-trans (get_or us i d) (get_or us j d) v (ordered i j d under within) ((Decides-is_before (get_or us j d) v).0 parts.1) in
          rw (eq-eqb (length (get_or us i d)) (length v) (widths i d (omega arith)), (Decides-is_before (get_or us i d) v).1 first) refl
      | inr over ↦ let same : i ≡ j = omega arith in rw same holds
    ]

-- a vector that is not printed before v, and does not dominate it, is printed after it
printed-after : (u v : Vector) → length u ≡ length v → stands_before v u ≡ false → ¬ Dominates u v → Precedes v u
printed-after u v width not_before clear =
    elim (Precedes-cases v u) [
      | inl same ↦ absurd (clear (subst (λ (x : Vector). Dominates x v) same (Dominates-refl v)))
      | inr (inl before) ↦ before
      | inr (inr after) ↦ absurd (false≢true (sym not_before ∙ rw (eq-eqb (length u) (length v) width, (Decides-is_before u v).1 after) refl))
    ]

-- the place where they end
pub place-parted : (us : List Vector) (v : Vector) (place : ℕ) → HaveWidth (length v) us → ¬ Covers us v → place ≤ length us
    → IsPartitionPoint (λ u. stands_before v u ≡ true) (λ u. stands_before v u ≡ false) us place → IsPlaceFor us v place
place-parted us v place widths new within point = record {
  within = within;
  before = λ k d low.
      let inside : k < place = omega (arith, length-take place us) in
      let holds = point.0 k d (omega arith) inside in
      rw (get_or-take place us k d inside) ((Decides-is_before (get_or us k d) v).0 (and_parts (length (get_or us k d) == length v) (is_before (get_or us k d) v) holds).1);
  after = λ k d low.
      let inside : place + k < length us = omega (arith, length-drop place us) in
      let fails = point.1 (place + k) d (omega arith) inside in
      let u = get_or us (place + k) d in
      rw (get_or-drop place us k d) (printed-after u v (widths (place + k) d inside) fails (λ above. new (u, Contains-get_or us (place + k) d inside, above)));
  new = new;
}

-- the reduced list has the widths of the list
pub HaveWidth-reduced : (width : ℕ) (all front : List Vector) → IsReduced all front → HaveWidth width all → HaveWidth width front
HaveWidth-reduced width all front h one_width k d within =
    All-contains (λ v. length v ≡ width) all (get_or front k d) one_width (h.reached (get_or front k d) (Contains-get_or front k d within))

-- the first of an ordered list
pub first_above : (front : List Vector) (t : Vector) (place : ℕ) (u : Vector) → place < length front → u ≡ get_or front place u → Dominates u t
    → All (λ w. ¬ Dominates w t) (take place front) → AllPairs Precedes front → IsFirstAbove front t u
first_above front t place u within is above none ordered = record {
  member = (place, within, sym is);
  above = above;
  first = λ w member w_above.
      let k = member.0 in
      elim (cases_order place k) [
        | inl same ↦ inl (is ∙ ap (λ n. get_or front n u) same ∙ get_or_default front k u w member.1 ∙ member.2)
        | inr (inl later) ↦ inr (
            let at_w : get_or front k u ≡ w = get_or_default front k u w member.1 ∙ member.2 in
            let before = ordered place k u later member.1 in
            subst (λ (x : Vector). Precedes x w) (sym is) (subst (λ (x : Vector). Precedes (get_or front place u) x) at_w before))
        | inr (inr earlier) ↦
            let at_w : get_or (take place front) k w ≡ w = get_or-take place front k w earlier ∙ member.2 in
            absurd (none k w (omega (arith, length-take place front)) (subst (λ (x : Vector). Dominates x t) (sym at_w) w_above))
      ];
}

-- the list after a vector was put in
pub put-reduced : (v : Vector) (us kept : List Vector) (place : ℕ) → IsPlaceFor us v place → IsReduced us us → kept ≡ undominated v us → IsReduced (v ∷ us) (insert kept place v)
put-reduced v us kept place h reduced is =
    rw (is, undominated-insert v us place h.within h.before h.after) (new-reduced v us us reduced h.new)

pub put-long : (v : Vector) (us kept : List Vector) (place : ℕ) → IsPlaceFor us v place → kept ≡ undominated v us → place ≤ length kept
put-long v us kept place h is = rw is (undominated-long v us place h.within h.before)

pub put-all : (v : Vector) (us : List Vector) (place : ℕ) → IsPlaceFor us v place → (Any (λ u. Dominates v u) (drop place us) → ⊥) → us ≡ undominated v us
put-all v us place h none = sym (undominated-all v us place h.within h.before none)

-- the first vectors of a list were put into a front
pub record Unites (old : FrontValue) (vectors : List Vector) (done : ℕ) (new : FrontValue) : Type 0 where
  pub front : IsSoundFront new
  pub width : new.width ≡ old.width
  pub reduced : IsReduced (old.vectors ++ take done vectors) new.vectors
  pub spare : length new.vectors + length vectors ≤ new.room + done
  pub room : old.room ≤ new.room

-- one vector more
pub Unites-more : (old : FrontValue) (vectors : List Vector) (done : ℕ) (v : Vector) (new next : FrontValue) → done < length vectors → v ≡ get_or vectors done v → Unites old vectors done new
    → IsSoundFront next → next.width ≡ new.width → IsReduced (v ∷ new.vectors) next.vectors → length next.vectors ≤ length new.vectors + 1 → next.room ≡ new.room → Unites old vectors (done + 1) next
Unites-more old vectors done v new next within is h front width reduced longer room =
    let part = old.vectors ++ take done vectors in
    let whole = reduced-push part new.vectors next.vectors v h.reduced reduced in
    let list : old.vectors ++ take (done + 1) vectors ≡ part ++ v ∷ [] =
    rw (take_more vectors done v within, ← is) (sym (append_assoc old.vectors (take done vectors) (v ∷ []))) in
    record {
      front = front;
      width = width ∙ h.width;
      reduced = rw list whole;
      spare = omega (arith, h.spare);
      room = omega (arith, h.room);
    }

-- the next vector is covered
pub Unites-covered : (old : FrontValue) (vectors : List Vector) (done : ℕ) (v : Vector) (new : FrontValue) → done < length vectors → v ≡ get_or vectors done v → Unites old vectors done new
    → Covers new.vectors v → Unites old vectors (done + 1) new
Unites-covered old vectors done v new within is h above =
    let own = reduced-its_own (old.vectors ++ take done vectors) new.vectors h.reduced in
    Unites-more old vectors done v new new within is h h.front refl (covered-reduced v new.vectors new.vectors own above) (omega arith) refl
