-- The vectors of lists that dominate a target, in unions and joins.
use Rattle.std.proofs.Common.{◌≡◌, ◌++◌, ◌∙◌, ◌↔◌, ℕ, List, [], ◌∷◌, Contains, length, take, Option, None, Some, IfSome, IsSome, refl, sym, ap, subst, ⊎_elim}
use Rattle.win_vectors.specs.Vectors.{ones_of, meet_of, spread_of, restrict_of}
use Rattle.win_vectors.specs.Fronts.{Vector, Dominates, Covers, IsFrontOf, IsReduced, IsFirstAbove, meets, spreads}
use Rattle.win_vectors.proofs.Orders.{Dominates-meet_left, Dominates-meet_right, meet_of-greatest, length-spread_of, Dominates-spread_of}
use Rattle.pareto_fronts.specs.FrontValue.{FrontValue}
use Rattle.trick_rules.specs.Nodes.{NodeValue, IsNode}
use Rattle.strategy_games.specs.Plans.{CanWin}
use Rattle.strategy_games.specs.Choosing.{IsPick}
use Rattle.strategy_games.proofs.Lists.{Contains-here, Contains-there, Contains-nil, Contains-cons, Contains-single, Contains-append, Contains-append_first, Contains-append_second, Contains-map, Contains-of_map}
use Rattle.strategy_games.proofs.Vectors.{Dominates-refl, Dominates-trans, Dominates-meet, Dominates-spread}
use Rattle.strategy_games.proofs.Fronts.{front_same, front_level, front_unique, reduced_nil, Contains-meets, Contains-of_meets}
use Rattle.strategy_tree.specs.Bridge.{bridge}
use Rattle.strategy_tree.proofs.BridgeLaws.{one_front}
use Rattle.plan_finder.specs.Above.{IsPartAbove, AreAbove}
use Rattle.plan_finder.specs.Choices.{KeepsNone}

module _ (t : Vector) where
  -- no vector is above
  pub part_none : (front part : List Vector) → ((v : Vector) → Contains front v → Dominates v t → ⊥) → part ≡ [] → IsPartAbove t front part
  part_none front part none empty = subst (λ part. IsPartAbove t front part) (sym empty)
      (front_same (Contains []) (λ v. Contains front v × Dominates v t) [] (λ v m. absurd (Contains-nil v m)) (λ v h. absurd (none v h.0 h.1)) reduced_nil)

  -- each vector is
  pub part_all : (Can : Vector → Type 0) (front : List Vector) → IsFrontOf Can front → ((v : Vector) → Contains front v → Dominates v t) → IsPartAbove t front front
  part_all Can front f above = record { reached = λ v m. (m, above v m); covered = λ v h. (v, h.0, Dominates-refl v); apart = f.apart; ordered = f.ordered }

  -- a part above a lower target has the part above this one
  pub part_of_part : (low : Vector) (Can : Vector → Type 0) (front found part : List Vector) → Dominates t low → IsFrontOf Can front → IsPartAbove low front found → IsPartAbove t found part → IsPartAbove t front part
  part_of_part low Can front found part over f a b = front_same (λ v. Contains found v × Dominates v t) (λ v. Contains front v × Dominates v t) part
      (λ v h. ((a.reached v h.0).0, h.1))
      (λ v h.
      let c = a.covered v (h.0, Dominates-trans v t low h.1 over) in
      let same : c.0 ≡ v = f.apart c.0 v (a.reached c.0 c.1).0 h.0 c.2 in
      (subst (λ u. Contains found u) same c.1, h.1))
      b

  -- one more vector, which is above
  pub part_more : (front part now : List Vector) (v : Vector) → IsPartAbove t front part → Dominates v t → IsReduced (v ∷ part) now → IsPartAbove t (front ++ v ∷ []) now
  part_more front part now v a over r = front_level (Contains (v ∷ part)) (λ u. Contains (front ++ v ∷ []) u × Dominates u t) now to back r
    where
      to : (u : Vector) → Contains (v ∷ part) u → (w : Vector) × (Contains (front ++ v ∷ []) w × Dominates w t) × Dominates w u
      to u m = ⊎_elim
          (λ (e : v ≡ u). (v, (Contains-append_second front (v ∷ []) v (Contains-here v []), over), subst (λ z. Dominates v z) e (Dominates-refl v)))
          (λ (k : Contains part u). let c = a.reached u k in (u, (Contains-append_first front (v ∷ []) u c.0, c.1), Dominates-refl u))
          (Contains-cons v part u m)

      back : (u : Vector) → Contains (front ++ v ∷ []) u × Dominates u t → (w : Vector) × Contains (v ∷ part) w × Dominates w u
      back u h = ⊎_elim
          (λ (k : Contains front u). let c = a.covered u (k, h.1) in (c.0, Contains-there v part c.0 c.1, c.2))
          (λ (k : Contains (v ∷ []) u). (v, Contains-here v part, subst (λ z. Dominates v z) (Contains-single v u k) (Dominates-refl v)))
          (Contains-append front (v ∷ []) u h.0)

  -- one more vector, which isn't
  pub part_skip : (front part : List Vector) (v : Vector) → IsPartAbove t front part → (Dominates v t → ⊥) → IsPartAbove t (front ++ v ∷ []) part
  part_skip front part v a not_over = front_same (λ u. Contains front u × Dominates u t) (λ u. Contains (front ++ v ∷ []) u × Dominates u t) part
      (λ u h. (Contains-append_first front (v ∷ []) u h.0, h.1))
      (λ u h. ⊎_elim
      (λ (k : Contains front u). (k, h.1))
      (λ (k : Contains (v ∷ []) u). absurd (not_over (subst (λ z. Dominates z t) (sym (Contains-single v u k)) h.1)))
      (Contains-append front (v ∷ []) u h.0)) a

  -- the part of the first vectors of a list
  pub record TakesAbove (vectors : List Vector) (done layouts : ℕ) (found : FrontValue) : Type 0 where
    pub part : IsPartAbove t (take done vectors) found.vectors
    pub width : found.width ≡ layouts

  -- the union of the parts is the part of the union
  pub part_united : (front other part more union united : List Vector) → IsPartAbove t front part → IsPartAbove t other more → IsReduced (front ++ other) union → IsReduced (part ++ more) united → IsPartAbove t union united
  part_united front other part more union united a b all r = front_level (Contains (part ++ more)) (λ v. Contains union v × Dominates v t) united to back r
    where
      inside : (v : Vector) → Contains (part ++ more) v → Contains (front ++ other) v × Dominates v t
      inside v m = ⊎_elim
          (λ (k : Contains part v). let c = a.reached v k in (Contains-append_first front other v c.0, c.1))
          (λ (k : Contains more v). let c = b.reached v k in (Contains-append_second front other v c.0, c.1))
          (Contains-append part more v m)

      to : (v : Vector) → Contains (part ++ more) v → (u : Vector) × (Contains union u × Dominates u t) × Dominates u v
      to v m = let i = inside v m in let u = all.covered v i.0 in (u.0, (u.1, Dominates-trans u.0 v t u.2 i.1), u.2)

      back : (v : Vector) → Contains union v × Dominates v t → (u : Vector) × Contains (part ++ more) u × Dominates u v
      back v h = ⊎_elim
          (λ (k : Contains front v). let u = a.covered v (k, h.1) in (u.0, Contains-append_first part more u.0 u.1, u.2))
          (λ (k : Contains other v). let u = b.covered v (k, h.1) in (u.0, Contains-append_second part more u.0 u.1, u.2))
          (Contains-append front other v (all.reached v h.0))

  -- the join of the parts, the child's above its part of the target, is the part of the join
  module _ (mask : Vector) (wide : length t ≡ length mask) where
    pub part_joined : (front child part more join joined : List Vector) → ((u : Vector) → Contains front u → length u ≡ length mask) → ((v : Vector) → Contains child v → length v ≡ ones_of mask)
        → IsPartAbove t front part → IsPartAbove (restrict_of t mask) child more → IsReduced (meets front (spreads mask child)) join → IsReduced (meets part (spreads mask more)) joined → IsPartAbove t join joined
    part_joined front child part more join joined wide_front wide_child a b all r = front_level (Contains (meets part (spreads mask more))) (λ v. Contains join v × Dominates v t) joined to back r
      where
        to : (w : Vector) → Contains (meets part (spreads mask more)) w → (u : Vector) × (Contains join u × Dominates u t) × Dominates u w
        to w m =
            let p = Contains-of_meets part (spreads mask more) w m in
            let x = Contains-of_map (λ z. spread_of z mask) more p.1 p.3 in
            let c = a.reached p.0 p.2 in
            let d = b.reached x.0 x.1 in
            let is : meet_of p.0 (spread_of x.0 mask) ≡ w = ap (λ (z : Vector). meet_of p.0 z) x.2 ∙ p.4 in
            let over : Dominates w t = subst (λ (w : Vector). Dominates w t) is (meet_of-greatest p.0 (spread_of x.0 mask) t c.1 ((Dominates-spread_of x.0 t mask (wide_child x.0 d.0) wide).1 d.1)) in
            let inside : Contains (meets front (spreads mask child)) w = subst (λ (w : Vector). Contains (meets front (spreads mask child)) w) is (Contains-meets front (spreads mask child) p.0 (spread_of x.0 mask) c.0 (Contains-map (λ z. spread_of z mask) child x.0 d.0)) in
            let u = all.covered w inside in
            (u.0, (u.1, Dominates-trans u.0 w t u.2 over), u.2)

        back : (w : Vector) → Contains join w × Dominates w t → (u : Vector) × Contains (meets part (spreads mask more)) u × Dominates u w
        back w h =
            let p = Contains-of_meets front (spreads mask child) w (all.reached w h.0) in
            let x = Contains-of_map (λ z. spread_of z mask) child p.1 p.3 in
            let is : meet_of p.0 (spread_of x.0 mask) ≡ w = ap (λ (z : Vector). meet_of p.0 z) x.2 ∙ p.4 in
            let long = wide_child x.0 x.1 in
            let same : length p.0 ≡ length (spread_of x.0 mask) = wide_front p.0 p.2 ∙ sym (length-spread_of x.0 mask long) in
            let over : Dominates (meet_of p.0 (spread_of x.0 mask)) t = subst (λ (w : Vector). Dominates w t) (sym is) h.1 in
            let first : Dominates p.0 t = Dominates-trans p.0 (meet_of p.0 (spread_of x.0 mask)) t (Dominates-meet_left p.0 (spread_of x.0 mask) same) over in
            let second : Dominates (spread_of x.0 mask) t = Dominates-trans (spread_of x.0 mask) (meet_of p.0 (spread_of x.0 mask)) t (Dominates-meet_right p.0 (spread_of x.0 mask) same) over in
            let c = a.covered p.0 (p.2, first) in
            let d = b.covered x.0 (x.1, (Dominates-spread_of x.0 t mask long wide).0 second) in (
              meet_of c.0 (spread_of d.0 mask),
              Contains-meets part (spreads mask more) c.0 (spread_of d.0 mask) c.1 (Contains-map (λ z. spread_of z mask) more d.0 d.1),
              subst (λ (w : Vector). Dominates (meet_of c.0 (spread_of d.0 mask)) w) is (Dominates-meet c.0 p.0 (spread_of d.0 mask) (spread_of x.0 mask) c.2 (Dominates-spread d.0 x.0 mask d.2)),
            )

  -- the first vector above the target is in the part
  first_of_part : (Can : Vector → Type 0) (front part : List Vector) (u : Vector) → IsFrontOf Can front → IsPartAbove t front part → IsFirstAbove part t u → IsFirstAbove front t u
  first_of_part Can front part u f a first = record {
    member = (a.reached u first.member).0;
    above = first.above;
    first = λ w m over.
        let c = a.covered w (m, over) in
        let same : c.0 ≡ w = f.apart c.0 w (a.reached c.0 c.1).0 m c.2 in
        first.first w (subst (λ w. Contains part w) same c.1) over;
  }

  module _ (n : NodeValue) (moves : ℕ) (found : FrontValue) where
    pub nothing_above : IsNode n → KeepsNone n moves t → found.vectors ≡ [] → found.width ≡ length n.lefts → AreAbove n moves t found
    nothing_above sound none empty width =
        let front = one_front.exists n moves sound in record {
          whole = record { width = length n.lefts; vectors = front.0; room = 0 };
          front = record { front = front.1; width = refl };
          part = part_none front.0 found.vectors (λ v m over. none front.0 front.1 (v, m, over)) empty;
          width = width;
        }

    module _ (are : AreAbove n moves t found) where
      pub picked_above : (pick : Option Vector) → IfSome pick (IsFirstAbove found.vectors t) → IfSome pick (IsPick bridge n moves t)
      picked_above None first = tt
      picked_above (Some u) first = (are.whole.vectors, are.front.front, first_of_part (CanWin bridge n moves) are.whole.vectors found.vectors u are.front.front are.part first)

      covered_above : (other : List Vector) → IsFrontOf (CanWin bridge n moves) other → Covers other t → Covers found.vectors t
      covered_above other is above =
          let here : Covers are.whole.vectors t = subst (λ vectors. Covers vectors t) (front_unique (CanWin bridge n moves) other are.whole.vectors is are.front.front) above in
          let c = are.part.covered here.0 (here.1, here.2) in
          (c.0, c.1, Dominates-trans c.0 here.0 t c.2 here.2)

      pub none_above : (pick : Option Vector) → (IsSome pick ↔ Covers found.vectors t) → pick ≡ None → KeepsNone n moves t
      none_above None covers none = λ other is above. let some = covers.1 (covered_above other is above) in cc
      none_above (Some u) covers none = absurd cc
