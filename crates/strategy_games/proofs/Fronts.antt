-- The front of a set of vectors: there is one for each list, it is the only one, and it passes from set to set.
use Rattle.std.proofs.Common.{◌≡◌, ◌⊎◌, ◌<◌, ◌∙◌, zero, suc, List, [], ◌∷◌, map, get_or, Contains, AllPairs, refl, sym, subst, inl, inr, ⊎_elim, arith, zero-lt-suc, suc-le-suc, le_of_suc-le-suc}
use Rattle.std.proofs.lemmas.List.Elements.{Contains-get_or}
use Rattle.win_vectors.specs.Vectors.{meet_of}
use Rattle.win_vectors.specs.Fronts.{Vector, Dominates, Precedes, Covers, CoversAll, IsFrontOf, IsReduced, IsFirstAbove, meets}
use Rattle.strategy_games.proofs.Lists.{Contains-here, Contains-there, Contains-nil, Contains-cons, Contains-single, each_cons, Contains-append, Contains-append_first, Contains-append_second, Contains-map, Contains-of_map}
use Rattle.strategy_games.proofs.Vectors.{Dominates-refl, Dominates-trans, Dominates-antisym, cases_Dominates, Precedes-asym, Precedes-irrefl, Precedes-trans, cases_Precedes}

-- ---- lists in order

module _ {X : Type 0} (R : X → X → Type 0) where
  pub AllPairs-nil : AllPairs R []
  AllPairs-nil i j d l m = let no_place : j < 0 = m in absurd (omega arith)

  pub AllPairs-head : (x : X) (xs : List X) → AllPairs R (x ∷ xs) → (y : X) → Contains xs y → R x y
  AllPairs-head x xs h y m = subst (R x) m.2 (h 0 (suc m.0) y (zero-lt-suc m.0) (suc-le-suc m.1))

  pub AllPairs-tail : (x : X) (xs : List X) → AllPairs R (x ∷ xs) → AllPairs R xs
  AllPairs-tail x xs h i j d l m = h (suc i) (suc j) d (suc-le-suc l) (suc-le-suc m)

  pub AllPairs-cons : (x : X) (xs : List X) → ((y : X) → Contains xs y → R x y) → AllPairs R xs → AllPairs R (x ∷ xs)
  AllPairs-cons x xs first others zero zero d l m = let no_place : 0 < 0 = l in absurd (omega arith)
  AllPairs-cons x xs first others zero (suc j) d l m = first (get_or xs j d) (Contains-get_or xs j d (le_of_suc-le-suc m))
  AllPairs-cons x xs first others (suc i) zero d l m = let no_place : suc i < 0 = l in absurd (omega arith)
  AllPairs-cons x xs first others (suc i) (suc j) d l m = others i j d (le_of_suc-le-suc l) (le_of_suc-le-suc m)

  pub AllPairs-single : (x : X) → AllPairs R (x ∷ [])
  AllPairs-single x = AllPairs-cons x [] (λ y m. absurd (Contains-nil y m)) AllPairs-nil

-- two lists in order with the same members are the same
same_from_members : (f h : List Vector) → AllPairs Precedes f → AllPairs Precedes h → ((v : Vector) → Contains f v → Contains h v) → ((v : Vector) → Contains h v → Contains f v) → f ≡ h
same_from_members [] [] o p to back = refl
same_from_members [] (y ∷ ys) o p to back = absurd (Contains-nil y (back y (Contains-here y ys)))
same_from_members (x ∷ xs) [] o p to back = absurd (Contains-nil x (to x (Contains-here x xs)))
same_from_members (x ∷ xs) (y ∷ ys) o p to back = let first : x ≡ y = heads in let others = same_from_members xs ys (AllPairs-tail Precedes x xs o) (AllPairs-tail Precedes y ys p) (λ v m. tails first v m) (λ v m. tails_back first v m) in λ i. first i ∷ others i
  where
    heads : x ≡ y
    heads = ⊎_elim (λ (e : y ≡ x). sym e) (λ (k : Contains ys x). ⊎_elim (λ (e : x ≡ y). e) (λ (l : Contains xs y). absurd (Precedes-asym x y (AllPairs-head Precedes x xs o y l) (AllPairs-head Precedes y ys p x k))) (Contains-cons x xs y (back y (Contains-here y ys)))) (Contains-cons y ys x (to x (Contains-here x xs)))

    tails : x ≡ y → (v : Vector) → Contains xs v → Contains ys v
    tails e v m = ⊎_elim (λ (s : y ≡ v). absurd (Precedes-irrefl v (subst (λ z. Precedes z v) (e ∙ s) (AllPairs-head Precedes x xs o v m)))) (λ (k : Contains ys v). k) (Contains-cons y ys v (to v (Contains-there x xs v m)))

    tails_back : x ≡ y → (v : Vector) → Contains ys v → Contains xs v
    tails_back e v m = ⊎_elim (λ (s : x ≡ v). absurd (Precedes-irrefl v (subst (λ z. Precedes z v) (sym e ∙ s) (AllPairs-head Precedes y ys p v m)))) (λ (k : Contains xs v). k) (Contains-cons x xs v (back v (Contains-there y ys v m)))

-- ---- one set, and two

module _ (A : Vector → Type 0) where
  shared : (f h : List Vector) → IsFrontOf A f → IsFrontOf A h → (v : Vector) → Contains f v → Contains h v
  shared f h a b v m =
      let above : Covers h v = b.covered v (a.reached v m) in
      let again : Covers f above.0 = a.covered above.0 (b.reached above.0 above.1) in
      let back : again.0 ≡ v = a.apart again.0 v again.1 m (Dominates-trans again.0 above.0 v again.2 above.2) in
      let same : above.0 ≡ v = Dominates-antisym above.0 v above.2 (subst (λ z. Dominates z above.0) back again.2) in
      subst (Contains h) same above.1

  -- a set has one front at most
  pub front_unique : (f h : List Vector) → IsFrontOf A f → IsFrontOf A h → f ≡ h
  front_unique f h a b = same_from_members f h a.ordered b.ordered (shared f h a b) (shared h f b a)

  -- one vector that dominates the set
  pub front_single : (v : Vector) → A v → ((w : Vector) → A w → Dominates v w) → IsFrontOf A (v ∷ [])
  front_single v has top = record {
    reached = λ w m. subst A (Contains-single v w m) has;
    covered = λ w c. (v, Contains-here v [], top w c);
    apart = λ w x m k d. sym (Contains-single v w m) ∙ Contains-single v x k;
    ordered = AllPairs-single Precedes v;
  }

  -- The front of A is the front of B, where A lies in B and dominates it,
  pub front_grows : (B : Vector → Type 0) (f : List Vector) → ((v : Vector) → A v → B v) → ((v : Vector) → B v → (u : Vector) × A u × Dominates u v) → IsFrontOf A f → IsFrontOf B f
  front_grows B f within above a = record {
    reached = λ v m. within v (a.reached v m);
    covered = λ v b. let u = above v b in let c = a.covered u.0 u.1 in (c.0, c.1, Dominates-trans c.0 u.0 v c.2 u.2);
    apart = a.apart;
    ordered = a.ordered;
  }

  -- and the other way round.
  pub front_shrinks : (B : Vector → Type 0) (f : List Vector) → ((v : Vector) → A v → B v) → ((v : Vector) → B v → (u : Vector) × A u × Dominates u v) → IsFrontOf B f → IsFrontOf A f
  front_shrinks B f within above b = record {
    reached = λ v m.
        let u = above v (b.reached v m) in
        let c = b.covered u.0 (within u.0 u.1) in
        let back : c.0 ≡ v = b.apart c.0 v c.1 m (Dominates-trans c.0 u.0 v c.2 u.2) in
        subst A (Dominates-antisym u.0 v u.2 (subst (λ z. Dominates z u.0) back c.2)) u.1;
    covered = λ v h. b.covered v (within v h);
    apart = b.apart;
    ordered = b.ordered;
  }

-- Two sets have the same front where each dominates the other.
pub front_level : (A B : Vector → Type 0) (f : List Vector)
    → ((v : Vector) → A v → (u : Vector) × B u × Dominates u v)
    → ((v : Vector) → B v → (u : Vector) × A u × Dominates u v) → IsFrontOf A f → IsFrontOf B f
front_level A B f to back a = record {
  reached = λ v m.
      let b = to v (a.reached v m) in
      let c = back b.0 b.1 in
      let w = a.covered c.0 c.1 in
      let same : w.0 ≡ v = a.apart w.0 v w.1 m
      (Dominates-trans w.0 c.0 v w.2 (Dominates-trans c.0 b.0 v c.2 b.2)) in
      subst B (Dominates-antisym b.0 v b.2
      (subst (λ z. Dominates z b.0) same (Dominates-trans w.0 c.0 b.0 w.2 c.2))) b.1;
  covered = λ v b.
      let u = back v b in
      let w = a.covered u.0 u.1 in
      (w.0, w.1, Dominates-trans w.0 u.0 v w.2 u.2);
  apart = a.apart;
  ordered = a.ordered;
}

-- the same set, said in two ways
pub front_same : (A B : Vector → Type 0) (f : List Vector) → ((v : Vector) → A v → B v) → ((v : Vector) → B v → A v) → IsFrontOf A f → IsFrontOf B f
front_same A B f to back a = front_grows A B f to (λ v b. (v, back v b, Dominates-refl v)) a

-- ---- each list has a front

-- f without what v dominates
record IsWithout (v : Vector) (f h : List Vector) : Type 0 where
  from : (u : Vector) → Contains h u → Contains f u × (Dominates v u → ⊥)
  kept : (u : Vector) → Contains f u → (Dominates v u → ⊥) → Contains h u
  ordered : AllPairs Precedes h

without : (v : Vector) (f : List Vector) → AllPairs Precedes f → (h : List Vector) × IsWithout v f h
without v [] o = ([], record { from = λ u m. absurd (Contains-nil u m); kept = λ u m d. m; ordered = o })
without v (x ∷ xs) o = go (without v xs (AllPairs-tail Precedes x xs o)) (cases_Dominates v x)
  where
    go : (h : List Vector) × IsWithout v xs h → Dominates v x ⊎ (Dominates v x → ⊥) → (h : List Vector) × IsWithout v (x ∷ xs) h
    go r (inl d) = (
      r.0,
      record {
        from = λ u m. let k = r.1.from u m in (Contains-there x xs u k.0, k.1);
        kept = λ u m no_dom. ⊎_elim (λ (e : x ≡ u). absurd (no_dom (subst (Dominates v) e d))) (λ (k : Contains xs u). r.1.kept u k no_dom) (Contains-cons x xs u m);
        ordered = r.1.ordered;
      },
    )
    go r (inr n) = (
      x ∷ r.0,
      record {
        from = λ u m. ⊎_elim (λ (e : x ≡ u). (subst (Contains (x ∷ xs)) e (Contains-here x xs), λ (d : Dominates v u). n (subst (Dominates v) (sym e) d))) (λ (k : Contains r.0 u). let l = r.1.from u k in (Contains-there x xs u l.0, l.1)) (Contains-cons x r.0 u m);
        kept = λ u m no_dom. ⊎_elim (λ (e : x ≡ u). subst (Contains (x ∷ r.0)) e (Contains-here x r.0)) (λ (k : Contains xs u). Contains-there x r.0 u (r.1.kept u k no_dom)) (Contains-cons x xs u m);
        ordered = AllPairs-cons Precedes x r.0 (λ u m. AllPairs-head Precedes x xs o u (r.1.from u m).0) r.1.ordered;
      },
    )

-- f with v in its place
record IsPlaced (v : Vector) (f h : List Vector) : Type 0 where
  from : (u : Vector) → Contains h u → (v ≡ u) ⊎ Contains f u
  there : Contains h v
  kept : (u : Vector) → Contains f u → Contains h u
  ordered : AllPairs Precedes h

placed : (v : Vector) (f : List Vector) → AllPairs Precedes f → (Contains f v → ⊥) → (h : List Vector) × IsPlaced v f h
placed v [] o new = (v ∷ [], record { from = λ u m. inl (Contains-single v u m); there = Contains-here v []; kept = λ u m. absurd (Contains-nil u m); ordered = AllPairs-single Precedes v })
placed v (x ∷ xs) o new = go (placed v xs (AllPairs-tail Precedes x xs o) (λ m. new (Contains-there x xs v m))) (cases_Precedes v x)
  where
    go : (h : List Vector) × IsPlaced v xs h → (v ≡ x) ⊎ (Precedes v x ⊎ Precedes x v) → (h : List Vector) × IsPlaced v (x ∷ xs) h
    go r (inl e) = absurd (new (subst (Contains (x ∷ xs)) (sym e) (Contains-here x xs)))
    go r (inr (inl before)) = (
      v ∷ x ∷ xs,
      record {
        from = λ u m. Contains-cons v (x ∷ xs) u m;
        there = Contains-here v (x ∷ xs);
        kept = λ u m. Contains-there v (x ∷ xs) u m;
        ordered = AllPairs-cons Precedes v (x ∷ xs) (each_cons (Precedes v) x xs before (λ u m. Precedes-trans v x u before (AllPairs-head Precedes x xs o u m))) o;
      },
    )
    go r (inr (inr after)) = (
      x ∷ r.0,
      record {
        from = λ u m. ⊎_elim (λ (e : x ≡ u). inr (subst (Contains (x ∷ xs)) e (Contains-here x xs))) (λ (k : Contains r.0 u). ⊎_elim (λ (e : v ≡ u). inl e) (λ (l : Contains xs u). inr (Contains-there x xs u l)) (r.1.from u k)) (Contains-cons x r.0 u m);
        there = Contains-there x r.0 v r.1.there;
        kept = λ u m. ⊎_elim (λ (e : x ≡ u). subst (Contains (x ∷ r.0)) e (Contains-here x r.0)) (λ (k : Contains xs u). Contains-there x r.0 u (r.1.kept u k)) (Contains-cons x xs u m);
        ordered = AllPairs-cons Precedes x r.0 (λ u m. ⊎_elim (λ (e : v ≡ u). subst (Precedes x) e after) (λ (k : Contains xs u). AllPairs-head Precedes x xs o u k) (r.1.from u m)) r.1.ordered;
      },
    )

pub cases_Covers : (f : List Vector) (v : Vector) → Covers f v ⊎ (Covers f v → ⊥)
cases_Covers [] v = inr (λ (c : Covers [] v). Contains-nil c.0 c.1)
cases_Covers (x ∷ xs) v = go (cases_Dominates x v) (cases_Covers xs v)
  where
    go : Dominates x v ⊎ (Dominates x v → ⊥) → Covers xs v ⊎ (Covers xs v → ⊥) → Covers (x ∷ xs) v ⊎ (Covers (x ∷ xs) v → ⊥)
    go (inl d) _ = inl (x, Contains-here x xs, d)
    go (inr n) (inl c) = inl (c.0, Contains-there x xs c.0 c.1, c.2)
    go (inr n) (inr k) = inr (λ (c : Covers (x ∷ xs) v). ⊎_elim (λ (e : x ≡ c.0). n (subst (λ z. Dominates z v) (sym e) c.2)) (λ (m : Contains xs c.0). k (c.0, m, c.2)) (Contains-cons x xs c.0 c.1))

-- a vector that isn't dominated comes in, and what it dominates goes out
entered : (v : Vector) (all f : List Vector) → IsReduced all f → (Covers f v → ⊥) → (h : List Vector) × IsReduced (v ∷ all) h
entered v all f r new = (
  put.0,
  record {
    reached = λ u m. ⊎_elim (λ (e : v ≡ u). subst (Contains (v ∷ all)) e (Contains-here v all)) (λ (k : Contains less.0 u). Contains-there v all u (r.reached u (less.1.from u k).0)) (put.1.from u m);
    covered = λ u m. ⊎_elim (λ (e : v ≡ u). (v, put.1.there, subst (Dominates v) e (Dominates-refl v))) (λ (k : Contains all u). still u (r.covered u k)) (Contains-cons v all u m);
    apart = λ u w m k d. four u w (put.1.from u m) (put.1.from w k) d;
    ordered = put.1.ordered;
  },
)
  where
    less : (h : List Vector) × IsWithout v f h
    less = without v f r.ordered

    put : (h : List Vector) × IsPlaced v less.0 h
    put = placed v less.0 less.1.ordered (λ m. (less.1.from v m).1 (Dominates-refl v))

    still : (u : Vector) → Covers f u → Covers put.0 u
    still u c = ⊎_elim (λ (d : Dominates v c.0). (v, put.1.there, Dominates-trans v c.0 u d c.2)) (λ (n : Dominates v c.0 → ⊥). (c.0, put.1.kept c.0 (less.1.kept c.0 c.1 n), c.2)) (cases_Dominates v c.0)

    four : (u w : Vector) → (v ≡ u) ⊎ Contains less.0 u → (v ≡ w) ⊎ Contains less.0 w → Dominates u w → u ≡ w
    four u w (inl e) (inl e') d = sym e ∙ e'
    four u w (inl e) (inr k) d = absurd ((less.1.from w k).1 (subst (λ z. Dominates z w) (sym e) d))
    four u w (inr m) (inl e) d = absurd (new (u, (less.1.from u m).0, subst (Dominates u) (sym e) d))
    four u w (inr m) (inr k) d = r.apart u w (less.1.from u m).0 (less.1.from w k).0 d

-- the empty list is its own front
pub reduced_nil : IsReduced [] []
reduced_nil = record { reached = λ v m. m; covered = λ v m. absurd (Contains-nil v m); apart = λ u v m k d. absurd (Contains-nil u m); ordered = AllPairs-nil Precedes }

-- each list has a front
pub reduced_exists : (all : List Vector) → (f : List Vector) × IsReduced all f
reduced_exists [] = ([], reduced_nil)
reduced_exists (v ∷ all) = go (reduced_exists all)
  where
    go : (f : List Vector) × IsReduced all f → (f : List Vector) × IsReduced (v ∷ all) f
    go r = ⊎_elim
        (λ (c : Covers r.0 v). (
          r.0,
          front_grows (Contains all) (Contains (v ∷ all)) r.0 (λ u m. Contains-there v all u m)
              (λ u m. ⊎_elim (λ (e : v ≡ u). (c.0, r.1.reached c.0 c.1, subst (Dominates c.0) e c.2)) (λ (k : Contains all u). (u, k, Dominates-refl u)) (Contains-cons v all u m)) r.1,
        ))
        (λ (n : Covers r.0 v → ⊥). entered v all r.0 r.1 n) (cases_Covers r.0 v)

-- ---- the first vector above a target

pub first_above_exists : (f : List Vector) (t : Vector) → AllPairs Precedes f → Covers f t → (u : Vector) × IsFirstAbove f t u
first_above_exists [] t o c = absurd (Contains-nil c.0 c.1)
first_above_exists (x ∷ xs) t o c = go (first_above_exists xs t (AllPairs-tail Precedes x xs o)) (cases_Dominates x t)
  where
    go : (Covers xs t → (u : Vector) × IsFirstAbove xs t u) → Dominates x t ⊎ (Dominates x t → ⊥) → (u : Vector) × IsFirstAbove (x ∷ xs) t u
    go later (inl d) = (x, record { member = Contains-here x xs; above = d; first = λ w m k. ⊎_elim (λ (e : x ≡ w). inl e) (λ (l : Contains xs w). inr (AllPairs-head Precedes x xs o w l)) (Contains-cons x xs w m) })
    go later (inr n) =
        let r = later (c.0, ⊎_elim (λ (e : x ≡ c.0). absurd (n (subst (λ z. Dominates z t) (sym e) c.2))) (λ (m : Contains xs c.0). m) (Contains-cons x xs c.0 c.1), c.2) in (
          r.0,
          record {
            member = Contains-there x xs r.0 r.1.member;
            above = r.1.above;
            first = λ w m k. ⊎_elim (λ (e : x ≡ w). absurd (n (subst (λ z. Dominates z t) (sym e) k))) (λ (l : Contains xs w). r.1.first w l k) (Contains-cons x xs w m);
          },
        )

pub first_above_unique : (f : List Vector) (t u w : Vector) → IsFirstAbove f t u → IsFirstAbove f t w → u ≡ w
first_above_unique f t u w a b = ⊎_elim (λ (e : u ≡ w). e) (λ (p : Precedes u w). ⊎_elim (λ (e : w ≡ u). sym e) (λ (q : Precedes w u). absurd (Precedes-asym u w p q)) (b.first u a.member a.above)) (a.first w b.member b.above)

-- ---- meets of two lists

pub Contains-meets : (f h : List Vector) (u v : Vector) → Contains f u → Contains h v → Contains (meets f h) (meet_of u v)
Contains-meets f [] u v m k = absurd (Contains-nil v k)
Contains-meets f (x ∷ h) u v m k = ⊎_elim
    (λ (e : x ≡ v). Contains-append_first (map (λ w. meet_of w x) f) (meets f h) (meet_of u v) (subst (λ z. Contains (map (λ w. meet_of w x) f) (meet_of u z)) e (Contains-map (λ w. meet_of w x) f u m)))
    (λ (l : Contains h v). Contains-append_second (map (λ w. meet_of w x) f) (meets f h) (meet_of u v) (Contains-meets f h u v m l))
    (Contains-cons x h v k)

pub Contains-of_meets : (f h : List Vector) (w : Vector) → Contains (meets f h) w → (u v : Vector) × Contains f u × Contains h v × (meet_of u v ≡ w)
Contains-of_meets f [] w m = absurd (Contains-nil w m)
Contains-of_meets f (x ∷ h) w m = ⊎_elim
    (λ (k : Contains (map (λ u. meet_of u x) f) w). let r = Contains-of_map (λ u. meet_of u x) f w k in (r.0, x, r.1, Contains-here x h, r.2))
    (λ (k : Contains (meets f h) w). let r = Contains-of_meets f h w k in (r.0, r.1, r.2, Contains-there x h r.1 r.3, r.4))
    (Contains-append (map (λ u. meet_of u x) f) (meets f h) w m)

-- what covers the front covers the set
pub covers_set : (A : Vector → Type 0) (f alpha : List Vector) → IsFrontOf A f → CoversAll alpha f → (v : Vector) → A v → Covers alpha v
covers_set A f alpha a c v has = let u = a.covered v has in let w = c u.0 u.1 in (w.0, w.1, Dominates-trans w.0 u.0 v w.2 u.2)
