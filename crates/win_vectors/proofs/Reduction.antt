-- The front of a set of vectors, and the reduced list of a list.
use Rattle.std.proofs.Common.{◌≡◌, ◌↔◌, ◌∙◌, ◌≤◌, length, arith, List, [], ◌∷◌, ◌++◌, refl, ap, subst, inl, inr, Contains, map}
use Rattle.std.proofs.lemmas.List.Elements.{Contains-append_left, Contains-append_right, Contains-append_cases}
use Rattle.win_vectors.specs.Vectors.{meet_of}
use Rattle.win_vectors.specs.Fronts.{Vector, Dominates, Covers, CoversAll, IsFrontOf, IsReduced, meets}
use Rattle.win_vectors.specs.Laws.{IsBest, ListsTheBest, SameMembers, CoverTheSame, IsOrderedCover, ReducedExists, ReducedIsUnique, ReducedListsTheBest, ReducedIsTheCover, ReducedIgnoresOrder, ReducedOfReducedPart, ReducedOfMeets, ReducedIsItsOwn}
use Rattle.win_vectors.proofs.Orders.{Dominates-refl, Dominates-trans, Dominates-antisym, Dominates-by, Dominates-of, meet_of-mono}
use Rattle.win_vectors.proofs.Members.{Contains-none, Contains-first, Contains-rest, Contains-same, Contains-cases, AllPairs-none, SameMembers-push, same_ordered}
use Rattle.win_vectors.proofs.Insertion.{with_vector, with_vector-reduced}

-- ---- the front of a set of vectors

-- only one list is the front of a set
front_member : (Can : Vector → Type 0) (f g : List Vector) → IsFrontOf Can f → IsFrontOf Can g → (v : Vector) → Contains f v → Contains g v
front_member Can f g p q v member =
    let (u, in_g, u_above) = q.covered v (p.reached v member) in
    let (w, in_f, w_above) = p.covered u (q.reached u in_g) in
    let same = p.apart w v in_f member (Dominates-trans w u v w_above u_above) in
    let equal = Dominates-antisym u v u_above (Dominates-by w v u same w_above) in
    Contains-same g u v equal in_g

pub front-unique : (Can : Vector → Type 0) (f g : List Vector) → IsFrontOf Can f → IsFrontOf Can g → f ≡ g
front-unique Can f g p q = same_ordered f g p.ordered q.ordered (λ v. (front_member Can f g p q v, front_member Can g f q p v))

-- the front of a set is that of a set around it whose vectors are all dominated by vectors of the set
pub front-of_larger : (A B : Vector → Type 0) → ((v : Vector) → A v → B v) → ((v : Vector) → B v → (u : Vector) × A u × Dominates u v) → (f : List Vector) → IsFrontOf A f ↔ IsFrontOf B f
front-of_larger A B within dominated f = (larger, smaller) where
  larger : IsFrontOf A f → IsFrontOf B f
  larger h = record {
    reached = λ v member. within v (h.reached v member);
    covered = λ v can.
        let (u, in_a, u_above) = dominated v can in
        let (w, in_f, w_above) = h.covered u in_a in
        (w, in_f, Dominates-trans w u v w_above u_above);
    apart = h.apart;
    ordered = h.ordered;
  }

  smaller : IsFrontOf B f → IsFrontOf A f
  smaller h = record {
    reached = λ v member.
        let (u, in_a, u_above) = dominated v (h.reached v member) in
        let (w, in_f, w_above) = h.covered u (within u in_a) in
        let same = h.apart w v in_f member (Dominates-trans w u v w_above u_above) in
        subst A (Dominates-antisym u v u_above (Dominates-by w v u same w_above)) in_a;
    covered = λ v can. h.covered v (within v can);
    apart = h.apart;
    ordered = h.ordered;
  }

-- the front of a set is the front of each set with the same vectors
pub front-same : (A B : Vector → Type 0) → ((v : Vector) → A v ↔ B v) → (f : List Vector) → IsFrontOf A f → IsFrontOf B f
front-same A B same f h = record {
  reached = λ v member. (same v).0 (h.reached v member);
  covered = λ v can. h.covered v ((same v).1 can);
  apart = h.apart;
  ordered = h.ordered;
}

-- ---- the reduced list

pub reduced-nil : IsReduced [] []
reduced-nil = record {
  reached = λ v member. member;
  covered = λ v member. absurd (Contains-none v member);
  apart = λ u v in_first in_second d. absurd (Contains-none u in_first);
  ordered = AllPairs-none;
}

pub reduced-exists : ReducedExists
reduced-exists [] = ([], reduced-nil)
reduced-exists (v ∷ all) = let (front, h) = reduced-exists all in (with_vector v front, with_vector-reduced v all front h)

pub reduced-unique : ReducedIsUnique
reduced-unique all f g p q = front-unique (Contains all) f g p q

pub reduced-its_own : ReducedIsItsOwn
reduced-its_own all front h = record {
  reached = λ v member. member;
  covered = λ v member. (v, member, Dominates-refl v);
  apart = h.apart;
  ordered = h.ordered;
}

-- ---- the best vectors

best_member : (all front : List Vector) → IsReduced all front → (v : Vector) → Contains front v → IsBest all v
best_member all front h v member = record {
  member = h.reached v member;
  best = λ u in_all above.
      let (w, in_front, w_above) = h.covered u in_all in
      let same = h.apart w v in_front member (Dominates-trans w u v w_above above) in
      Dominates-antisym u v above (Dominates-by w v u same w_above);
}

member_best : (all front : List Vector) → IsReduced all front → (v : Vector) → IsBest all v → Contains front v
member_best all front h v best =
    let (u, in_front, above) = h.covered v best.member in
    Contains-same front u v (best.best u (h.reached u in_front) above) in_front

pub reduced-lists_the_best : ReducedListsTheBest
reduced-lists_the_best all front = (listed, reduced) where
  listed : IsReduced all front → ListsTheBest all front
  listed h = record {
    the_best = λ v. (best_member all front h v, member_best all front h v);
    ordered = h.ordered;
  }

  reduced : ListsTheBest all front → IsReduced all front
  reduced h =
      let (f, exists) = reduced-exists all in
      record {
        reached = λ v member. ((h.the_best v).0 member).member;
        covered = λ v in_all.
            let (u, in_f, above) = exists.covered v in_all in
            (u, (h.the_best u).1 (best_member all f exists u in_f), above);
        apart = λ u v in_first in_second d. ((h.the_best v).0 in_second).best u ((h.the_best u).0 in_first).member d;
        ordered = h.ordered;
      }

-- ---- what it covers

covers-trans : (all front : List Vector) → ((u : Vector) → Contains front u → Covers all u) → (v : Vector) → Covers front v → Covers all v
covers-trans all front within v (u, member, above) =
    let (w, in_all, w_above) = within u member in
    (w, in_all, Dominates-trans w u v w_above above)

pub reduced-is_the_cover : ReducedIsTheCover
reduced-is_the_cover all front = (cover, reduced) where
  cover : IsReduced all front → IsOrderedCover all front
  cover h = record {
    apart = h.apart;
    ordered = h.ordered;
    same = λ v. (covers-trans all front (λ u member. (u, h.reached u member, Dominates-refl u)) v, covers-trans front all h.covered v);
  }

  reduced : IsOrderedCover all front → IsReduced all front
  reduced h = record {
    reached = λ v member.
        let (u, in_all, u_above) = (h.same v).0 (v, member, Dominates-refl v) in
        let (w, in_front, w_above) = (h.same u).1 (u, in_all, Dominates-refl u) in
        let same = h.apart w v in_front member (Dominates-trans w u v w_above u_above) in
        Contains-same all u v (Dominates-antisym u v u_above (Dominates-by w v u same w_above)) in_all;
    covered = λ v in_all. (h.same v).1 (v, in_all, Dominates-refl v);
    apart = h.apart;
    ordered = h.ordered;
  }

-- ---- the order of the list, and its parts

pub reduced-ignores_order : ReducedIgnoresOrder
reduced-ignores_order xs ys front same h = front-same (Contains xs) (Contains ys) same front h

-- more of a list, in which each vector is dominated
pub reduced-of_larger : (xs ys front : List Vector) → ((v : Vector) → Contains xs v → Contains ys v) → CoversAll xs ys → IsReduced xs front ↔ IsReduced ys front
reduced-of_larger xs ys front within covers = front-of_larger (Contains xs) (Contains ys) within covers front

pub reduced-of_part : ReducedOfReducedPart
reduced-of_part xs part ys front h = reduced-of_larger (part ++ ys) (xs ++ ys) front within dominated where
  within : (v : Vector) → Contains (part ++ ys) v → Contains (xs ++ ys) v
  within v member = elim (Contains-append_cases part ys v member) [
    | inl in_part ↦ Contains-append_left xs ys v (h.reached v in_part)
    | inr in_ys ↦ Contains-append_right xs ys v in_ys
  ]

  dominated : CoversAll (part ++ ys) (xs ++ ys)
  dominated v member = elim (Contains-append_cases xs ys v member) [
    | inl in_xs ↦ (let (u, in_part, above) = h.covered v in_xs in (u, Contains-append_left part ys u in_part, above))
    | inr in_ys ↦ (v, Contains-append_right part ys v in_ys, Dominates-refl v)
  ]

-- one vector more at the end
pub reduced-push : (all front next : List Vector) (v : Vector) → IsReduced all front → IsReduced (v ∷ front) next → IsReduced (all ++ v ∷ []) next
reduced-push all front next v h reduced =
    let at_end = reduced-ignores_order (v ∷ front) (front ++ v ∷ []) next (SameMembers-push v front) reduced in
    (reduced-of_part all front (v ∷ []) next h).0 at_end

-- a list with a vector has a reduced list with a vector
pub reduced-not_empty : (all front : List Vector) → IsReduced all front → 1 ≤ length all → 1 ≤ length front
reduced-not_empty [] front h some = absurd (omega arith)
reduced-not_empty (v ∷ all) [] h some = let (u, member, above) = h.covered v (Contains-first v all) in absurd (Contains-none u member)
reduced-not_empty (v ∷ all) (u ∷ front) h some = omega arith

-- ---- meets

-- w is a meet of one vector of each list
pub record IsMeet (f g : List Vector) (w : Vector) : Type 0 where
  pub first : Vector
  pub second : Vector
  pub in_first : Contains f first
  pub in_second : Contains g second
  pub is : meet_of first second ≡ w

pub Contains-map : (h : Vector → Vector) (f : List Vector) (w : Vector) → Contains (map h f) w → (u : Vector) × Contains f u × (h u ≡ w)
Contains-map h [] w member = absurd (Contains-none w member)
Contains-map h (u ∷ f) w member = elim (Contains-cases (h u) (map h f) w member) [
  | inl same ↦ (u, Contains-first u f, same)
  | inr later ↦ (let (v, in_f, same) = Contains-map h f w later in (v, Contains-rest u f v in_f, same))
]

pub Contains-mapped : (h : Vector → Vector) (f : List Vector) (u : Vector) → Contains f u → Contains (map h f) (h u)
Contains-mapped h [] u member = absurd (Contains-none u member)
Contains-mapped h (v ∷ f) u member = elim (Contains-cases v f u member) [
  | inl same ↦ Contains-same (h v ∷ map h f) (h v) (h u) (ap h same) (Contains-first (h v) (map h f))
  | inr later ↦ Contains-rest (h v) (map h f) (h u) (Contains-mapped h f u later)
]

pub meets-member : (f g : List Vector) (w : Vector) → Contains (meets f g) w ↔ IsMeet f g w
meets-member f g w = (from g, λ h. Contains-same (meets f g) (meet_of h.first h.second) w h.is (to g h.first h.second h.in_first h.in_second)) where
  from : (g : List Vector) → Contains (meets f g) w → IsMeet f g w
  from [] member = absurd (Contains-none w member)
  from (v ∷ g) member = elim (Contains-append_cases (map (λ u. meet_of u v) f) (meets f g) w member) [
    | inl now ↦ (let (u, in_f, same) = Contains-map (λ u. meet_of u v) f w now in record { first = u; second = v; in_first = in_f; in_second = Contains-first v g; is = same })
    | inr later ↦ (let h = from g later in record { first = h.first; second = h.second; in_first = h.in_first; in_second = Contains-rest v g h.second h.in_second; is = h.is })
  ]

  to : (g : List Vector) (u v : Vector) → Contains f u → Contains g v → Contains (meets f g) (meet_of u v)
  to [] u v in_f in_g = absurd (Contains-none v in_g)
  to (x ∷ g) u v in_f in_g = elim (Contains-cases x g v in_g) [
    | inl same ↦ Contains-append_left (map (λ u. meet_of u x) f) (meets f g) (meet_of u v)
        (Contains-same (map (λ u. meet_of u x) f) (meet_of u x) (meet_of u v) (ap (meet_of u) same) (Contains-mapped (λ u. meet_of u x) f u in_f))
    | inr later ↦ Contains-append_right (map (λ u. meet_of u x) f) (meets f g) (meet_of u v) (to g u v in_f later)
  ]

-- one list may be reduced before it is met
pub reduced-of_meets_left : (xs f g front : List Vector) → IsReduced xs f → IsReduced (meets f g) front ↔ IsReduced (meets xs g) front
reduced-of_meets_left xs f g front p = reduced-of_larger (meets f g) (meets xs g) front within dominated where
  within : (w : Vector) → Contains (meets f g) w → Contains (meets xs g) w
  within w member = let h = (meets-member f g w).0 member in
      (meets-member xs g w).1 (record { first = h.first; second = h.second; in_first = p.reached h.first h.in_first; in_second = h.in_second; is = h.is })

  dominated : CoversAll (meets f g) (meets xs g)
  dominated w member =
      let h = (meets-member xs g w).0 member in
      let (u, in_f, above) = p.covered h.first h.in_first in
      let meet = meet_of u h.second in (
        meet,
        (meets-member f g meet).1 (record { first = u; second = h.second; in_first = in_f; in_second = h.in_second; is = refl }),
        Dominates-of meet (meet_of h.first h.second) w h.is (meet_of-mono u h.second h.first h.second above (Dominates-refl h.second)),
      )

-- one vector more in the second list
pub meets-push : (f g : List Vector) (v : Vector) → SameMembers (meets f g ++ map (λ u. meet_of u v) f) (meets f (g ++ v ∷ []))
meets-push f g v w = (there, back) where
  there : Contains (meets f g ++ map (λ u. meet_of u v) f) w → Contains (meets f (g ++ v ∷ [])) w
  there m = elim (Contains-append_cases (meets f g) (map (λ u. meet_of u v) f) w m) [
    | inl old ↦ (let h = (meets-member f g w).0 old in
        (meets-member f (g ++ v ∷ []) w).1 (record { first = h.first; second = h.second; in_first = h.in_first; in_second = Contains-append_left g (v ∷ []) h.second h.in_second; is = h.is }))
    | inr now ↦ (let (u, in_f, same) = Contains-map (λ u. meet_of u v) f w now in
        (meets-member f (g ++ v ∷ []) w).1 (record { first = u; second = v; in_first = in_f; in_second = Contains-append_right g (v ∷ []) v (Contains-first v []); is = same }))
  ]

  back : Contains (meets f (g ++ v ∷ [])) w → Contains (meets f g ++ map (λ u. meet_of u v) f) w
  back m =
      let h = (meets-member f (g ++ v ∷ []) w).0 m in
      elim (Contains-append_cases g (v ∷ []) h.second h.in_second) [
        | inl old ↦ Contains-append_left (meets f g) (map (λ u. meet_of u v) f) w
            ((meets-member f g w).1 (record { first = h.first; second = h.second; in_first = h.in_first; in_second = old; is = h.is }))
        | inr last ↦ elim (Contains-cases v [] h.second last) [
          | inl same ↦ Contains-append_right (meets f g) (map (λ u. meet_of u v) f) w
              (Contains-same (map (λ u. meet_of u v) f) (meet_of h.first v) w (ap (meet_of h.first) same ∙ h.is) (Contains-mapped (λ u. meet_of u v) f h.first h.in_first))
          | inr none ↦ absurd (Contains-none h.second none)
        ]
      ]

-- the front of two lists of vectors has a vector where both do
pub meets-not_empty : (f g : List Vector) → 1 ≤ length f → 1 ≤ length g → 1 ≤ length (meets f g)
meets-not_empty [] g some other = absurd (omega arith)
meets-not_empty (u ∷ f) [] some other = absurd (omega arith)
meets-not_empty (u ∷ f) (v ∷ g) some other = omega arith

-- vectors that cover the same have the same reduced list
pub reduced-same_cover : (xs ys front : List Vector) → CoverTheSame xs ys → IsReduced xs front → IsReduced ys front
reduced-same_cover xs ys front same h =
    let cover = (reduced-is_the_cover xs front).0 h in
    (reduced-is_the_cover ys front).1 (record {
      apart = cover.apart;
      ordered = cover.ordered;
      same = λ v. (λ c. (same v).0 ((cover.same v).0 c), λ c. (cover.same v).1 ((same v).1 c));
    })

pub reduced-of_meets : ReducedOfMeets
reduced-of_meets xs f ys g front p q = reduced-of_larger (meets f g) (meets xs ys) front within dominated where
  within : (w : Vector) → Contains (meets f g) w → Contains (meets xs ys) w
  within w member = let h = (meets-member f g w).0 member in
      (meets-member xs ys w).1 (record { first = h.first; second = h.second; in_first = p.reached h.first h.in_first; in_second = q.reached h.second h.in_second; is = h.is })

  dominated : CoversAll (meets f g) (meets xs ys)
  dominated w member =
      let h = (meets-member xs ys w).0 member in
      let (u, in_f, u_above) = p.covered h.first h.in_first in
      let (v, in_g, v_above) = q.covered h.second h.in_second in
      let meet = meet_of u v in (
        meet,
        (meets-member f g meet).1 (record { first = u; second = v; in_first = in_f; in_second = in_g; is = refl }),
        Dominates-of meet (meet_of h.first h.second) w h.is (meet_of-mono u v h.first h.second u_above v_above),
      )
