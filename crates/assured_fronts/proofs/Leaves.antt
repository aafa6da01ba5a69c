-- The front where a line of play ends.
use Rattle.std.proofs.Common.{◌≡◌, ◌⊎◌, ◌∙◌, ℕ, zero, suc, Some, slice_get, ◌+◌, ◌<◌, ◌≤◌, Bool, true, false, ◌&&◌, ◌||◌, is_some, List, [], ◌∷◌, ◌++◌, ◌-◌, map, take, replicate, append-nil, length, get_or, Contains, refl, sym, ap, ap₂, subst, inl, inr, ⊎_elim, true≢false, arith}
use Rattle.std.specs.Prelude.{nat_eq}
use Rattle.std.specs.Cmp.Lexicographic.{pointwise}
use Rattle.std.proofs.lemmas.Bool.{cases_Bool, cases_lt, and_parts, and_from, or_cases}
use Rattle.std.proofs.lemmas.List.{take_all}
use Rattle.win_vectors.specs.Fronts.{Vector, Dominates, IsFrontOf, IsReduced}
use Rattle.trick_rules.specs.Positions.{PositionValue, State}
use Rattle.trick_rules.specs.Play.{decided, makes}
use Rattle.trick_rules.specs.Nodes.{NodeValue, IsNode, states}
use Rattle.strategy_games.proofs.Lists.{Contains-here, Contains-there, Contains-nil, Contains-cons}
use Rattle.strategy_games.proofs.Vectors.{Dominates-refl}
use Rattle.strategy_games.proofs.Masks.{map-map}
use Rattle.double_dummy.proofs.LayoutResults.{results_upto}
use Rattle.strategy_games.proofs.Fronts.{front_grows, front_same, front_level, reduced_nil}
use Rattle.strategy_tree.specs.Bridge.{bridge}
use Rattle.strategy_tree.proofs.Rules.{table_of, lawful, double_dummy}
use Rattle.alphamu_core.proofs.Judging.{length-results}
use Rattle.assured_games.specs.Assured.{IsAssuredFront}
use Rattle.assured_games.specs.Steps.{PlaysFor, HasAssuredSteps}
use Rattle.assured_games.proofs.Steps.{assured_steps}
use Rattle.assured_games.proofs.Zips.{AtOnes}
use Rattle.assured_games.proofs.Lines.{dominated, marked}
use Rattle.sure_nodes.specs.SureNodes.{is_sure_node}
use Rattle.sure_nodes.proofs.SureBridge.{sure_of_all}
use Rattle.assured_fronts.specs.AssuredAt.{claims, won_playing_for}
use Rattle.std.proofs.lemmas.Slice.Eq.{bytes_eq-Decides}

pub steps : HasAssuredSteps bridge is_sure_node IsNode
steps = assured_steps bridge is_sure_node IsNode lawful double_dummy sure_of_all

-- the reduced list of a front
pub same_front : (Can : Vector → Type 0) (f new : List Vector) → IsFrontOf Can f → IsReduced f new → IsFrontOf Can new
same_front Can f new front reduced = front_grows (Contains f) Can new (λ v k. front.reached v k) (λ v can. front.covered v can) reduced

-- ---- where declarer's side claims

pub ends_here : (n : NodeValue) → claims n ≡ true → (is_some (decided n.position) ≡ true) ⊎ (is_sure_node n ≡ true)
ends_here n e = or_cases (is_some (decided n.position)) (is_sure_node n) e

both_off : (a b : Bool) → (a || b) ≡ false → (a ≡ false) × (b ≡ false)
both_off true b e = absurd (true≢false e)
both_off false b e = (refl, e)

pub goes_on : (n : NodeValue) → claims n ≡ false → (is_some (decided n.position) ≡ false) × (is_sure_node n ≡ false)
goes_on n e = both_off (is_some (decided n.position)) (is_sure_node n) e

pub at_claim : (n : NodeValue) (moves : ℕ) (results : Vector) → IsNode n → claims n ≡ true → results ≡ map (λ s. makes s) (states n) → IsAssuredFront bridge is_sure_node n moves (results ∷ [])
at_claim n moves results sound ends are = subst (λ u. IsAssuredFront bridge is_sure_node n moves (u ∷ [])) (sym are) (steps.claimed n moves sound (ends_here n ends))

-- ---- where one layout is played for

-- double dummy's result in a layout
pub made_wide : (n : NodeValue) (made : Vector) → made ≡ map (λ s. makes s) (states n) → length made ≡ length n.lefts
made_wide n made are = ap (λ (v : Vector). length v) are ∙ length-results n

result_at : (p : PositionValue) (lefts : List (List ℕ)) (place : ℕ) (left : List ℕ) (bit : Bool) → slice_get (map (λ s. makes s) (map (λ other. record { position = p; left = other }) lefts)) place ≡ Some bit
    → slice_get lefts place ≡ Some left → bit ≡ makes (record { position = p; left = left })
result_at p [] place left bit at here = absurd cc
result_at p (x ∷ lefts) zero left bit at here =
    let same : x ≡ left = cc in
    let result : makes (record { position = p; left = x }) ≡ bit = cc in
    sym result ∙ ap (λ (l : List ℕ). makes (record { position = p; left = l })) same
result_at p (x ∷ lefts) (suc place) left bit at here = result_at p lefts place left bit at here

pub made_at : (n : NodeValue) (made : Vector) (place : ℕ) (left : List ℕ) (bit : Bool) → made ≡ map (λ s. makes s) (states n) → slice_get made place ≡ Some bit → slice_get n.lefts place ≡ Some left
    → bit ≡ makes (record { position = n.position; left = left })
made_at n made place left bit are at here = result_at n.position n.lefts place left bit (subst (λ v. slice_get v place ≡ Some bit) are at) here

-- all layouts looked at
pub upto_won : (n : NodeValue) (left : List ℕ) (i : ℕ) → length n.lefts ≤ i
    → results_upto (λ other. pointwise nat_eq left other && makes (record { position = n.position; left = other })) n.lefts i ≡ won_playing_for n left
upto_won n left i all =
    let none : length n.lefts - i ≡ 0 = omega arith in
    subst (λ k. map (λ other. pointwise nat_eq left other && makes (record { position = n.position; left = other })) (take i n.lefts) ++ replicate k false ≡ won_playing_for n left) (sym none)
    (append-nil (map (λ other. pointwise nat_eq left other && makes (record { position = n.position; left = other })) (take i n.lefts)) ∙ ap (map (λ other. pointwise nat_eq left other && makes (record { position = n.position; left = other }))) (take_all i n.lefts all) ∙ sym (map-map (λ (s : State). pointwise nat_eq left s.left && makes s) (λ other. record { position = n.position; left = other }) n.lefts))

-- the vectors of the first layouts
abbrev pub PlayedUpto : NodeValue → ℕ → Vector → Type 0
PlayedUpto n i v = (j : ℕ) × (j < i) × (won_playing_for n (get_or n.lefts j []) ≡ v)

pub played_none : (n : NodeValue) (front : List Vector) → front ≡ [] → IsFrontOf (PlayedUpto n 0) front
played_none n front none = subst (IsFrontOf (PlayedUpto n 0)) (sym none)
    (front_same (Contains []) (PlayedUpto n 0) [] (λ v k. absurd (Contains-nil v k)) (λ v w. absurd (let low : w.0 < 0 = w.1 in omega arith)) reduced_nil)

pub played_more : (n : NodeValue) (i : ℕ) (v : Vector) (front new : List Vector) → v ≡ won_playing_for n (get_or n.lefts i []) → IsFrontOf (PlayedUpto n i) front → IsReduced (v ∷ front) new
    → IsFrontOf (PlayedUpto n (i + 1)) new
played_more n i v front new is so_far reduced = front_grows (Contains (v ∷ front)) (PlayedUpto n (i + 1)) new within above reduced
  where
    within : (u : Vector) → Contains (v ∷ front) u → PlayedUpto n (i + 1) u
    within u k = ⊎_elim
        (λ (same : v ≡ u). (i, omega arith, sym is ∙ same))
        (λ (l : Contains front u). let w = so_far.reached u l in (w.0, (let low : w.0 < i = w.1 in omega arith), w.2))
        (Contains-cons v front u k)

    above : (u : Vector) → PlayedUpto n (i + 1) u → (x : Vector) × Contains (v ∷ front) x × Dominates x u
    above u w = ⊎_elim
        (λ (low : w.0 < i). let x = so_far.covered u (w.0, low, w.2) in (x.0, Contains-there v front x.0 x.1, x.2))
        (λ (here : w.0 ≡ i). (v, Contains-here v front, subst (λ z. Dominates v z) (is ∙ ap (λ (j : ℕ). won_playing_for n (get_or n.lefts j [])) (sym here) ∙ w.2) (Dominates-refl v)))
        (split (w.0) w.1)
      where
        split : (j : ℕ) → j < i + 1 → (j < i) ⊎ (j ≡ i)
        split j low = ⊎_elim (λ (a : j < i). inl a) (λ (b : i ≤ j). inr (omega arith)) (cases_lt j i)

-- the place of a layout, if it is one of the node's
place_of : (p : PositionValue) (t : State) (lefts : List (List ℕ)) → 1 ≤ length lefts
    → (j : ℕ) × (j < length lefts) × ((s : State) → Contains (map (λ left. record { position = p; left = left }) lefts) s → t ≡ s → pointwise nat_eq (get_or lefts j []) s.left ≡ true)
place_of p t [] some = absurd (omega arith)
place_of p t (x ∷ lefts) some = ⊎_elim
    (λ (here : pointwise nat_eq x t.left ≡ true). (0, omega arith, λ s k same. subst (λ (z : State). pointwise nat_eq x z.left ≡ true) same here))
    (λ (other : pointwise nat_eq x t.left ≡ false). later other lefts (λ more. place_of p t lefts more))
    (cases_Bool (pointwise nat_eq x t.left))
  where
    not_first : (s : State) → pointwise nat_eq x t.left ≡ false → t ≡ s → record { position = p; left = x } ≡ s → ⊥
    not_first s other same is = true≢false (sym ((bytes_eq-Decides x t.left).1 (ap (λ (z : State). z.left) (is ∙ sym same))) ∙ other)

    later : pointwise nat_eq x t.left ≡ false → (rest : List (List ℕ))
        → (1 ≤ length rest → (j : ℕ) × (j < length rest) × ((s : State) → Contains (map (λ left. record { position = p; left = left }) rest) s → t ≡ s → pointwise nat_eq (get_or rest j []) s.left ≡ true))
        → (j : ℕ) × (j < length (x ∷ rest)) × ((s : State) → Contains (map (λ left. record { position = p; left = left }) (x ∷ rest)) s → t ≡ s → pointwise nat_eq (get_or (x ∷ rest) j []) s.left ≡ true)
    later other [] below = (0, omega arith, λ s k same. ⊎_elim (λ (is : record { position = p; left = x } ≡ s). absurd (not_first s other same is)) (λ (l : Contains [] s). absurd (Contains-nil s l)) (Contains-cons (record { position = p; left = x }) [] s k))
    later other (y ∷ rest) below =
        let r = below (omega arith) in (
          suc r.0,
          (let low : r.0 < length (y ∷ rest) = r.1 in omega arith),
          λ s k same. ⊎_elim
              (λ (is : record { position = p; left = x } ≡ s). absurd (not_first s other same is))
              (λ (l : Contains (map (λ left. record { position = p; left = left }) (y ∷ rest)) s). r.2 s l same)
              (Contains-cons (record { position = p; left = x }) (map (λ left. record { position = p; left = left }) (y ∷ rest)) s k),
        )

pub played_all : (n : NodeValue) (i : ℕ) (front : List Vector) → IsNode n → claims n ≡ false → length n.lefts ≤ i → IsFrontOf (PlayedUpto n i) front → IsAssuredFront bridge is_sure_node n 0 front
played_all n i front sound off all so_far =
    let live = goes_on n off in
    steps.open_stop n front live.0 live.1 (front_level (PlayedUpto n i) (PlaysFor bridge n) front to back so_far)
  where
    -- a state and its position
    at_position : (s : State) → Contains (states n) s → s.position ≡ n.position
    at_position s k = table_of n s k

    to : (v : Vector) → PlayedUpto n i v → (u : Vector) × PlaysFor bridge n u × Dominates u v
    to v w =
        let left = get_or n.lefts w.0 [] in
        let t : State = record { position = n.position; left = left } in (
          v,
          (
            t,
            subst (λ u. AtOnes (λ s. (t ≡ s) × (makes s ≡ true)) u (states n)) w.2
                (marked (λ s. pointwise nat_eq left s.left && makes s) (λ s. (t ≡ s) × (makes s ≡ true)) (states n)
                (λ s k e.
                let both = and_parts (pointwise nat_eq left s.left) (makes s) e in
                (ap₂ (λ (p : PositionValue) (l : List ℕ). record { position = p; left = l }) (sym (at_position s k)) ((bytes_eq-Decides left s.left).0 both.0), both.1))),
          ),
          Dominates-refl v,
        )

    back : (v : Vector) → PlaysFor bridge n v → (u : Vector) × PlayedUpto n i u × Dominates u v
    back v w =
        let j = place_of n.position w.0 n.lefts sound.some in
        let low : j.0 < length n.lefts = j.1 in (
          won_playing_for n (get_or n.lefts j.0 []),
          (j.0, omega arith, refl),
          dominated (λ s. pointwise nat_eq (get_or n.lefts j.0 []) s.left && makes s) (λ s. (w.0 ≡ s) × (makes s ≡ true)) v (states n) w.1
              (λ s k h. and_from (pointwise nat_eq (get_or n.lefts j.0 []) s.left) (makes s) (j.2 s k h.0) h.1),
        )
