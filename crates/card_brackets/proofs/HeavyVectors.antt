-- The heavier vectors of what is assured at a defender's turn, card by card.
use Rattle.std.proofs.Common.{◌≡◌, ◌≢◌, ◌∙◌, ◌+◌, ◌-◌, ◌<◌, ◌≤◌, ℕ, zero, suc, true, Some, None, Option, List, [], ◌∷◌, ◌++◌, Contains, take, length, replicate, get_or, refl, sym, ap, subst, inl, inr, ⊎_elim, arith}
use Rattle.std.specs.List.{AllZip}
use Rattle.std.proofs.lemmas.Bool.{cases_lt}
use Rattle.std.proofs.lemmas.List.{take_more}
use Rattle.std.proofs.lemmas.List.Elements.{Contains-get_or}
use Rattle.win_vectors.specs.Vectors.{ones_of, meet_of, spread_of}
use Rattle.win_vectors.specs.Fronts.{Vector, HaveWidth, Dominates, Covers, CoversAll, IsFrontOf, IsReduced, meets, spreads}
use Rattle.win_vectors.specs.Weights.{weight_of}
use Rattle.win_vectors.proofs.WeightLemmas.{weight_of-monotone}
use Rattle.pareto_fronts.specs.FrontValue.{FrontValue}
use Rattle.trick_rules.specs.Nodes.{NodeValue, IsNode, states, choices, child, child_mask}
use Rattle.trick_rules.proofs.PlayLaws.{a_choice_leads_to_a_node}
use Rattle.strategy_games.specs.Games.{mask}
use Rattle.strategy_games.proofs.Lists.{Contains-here, Contains-there, Contains-nil, Contains-cons, Contains-single, Contains-map, Contains-of_map, Contains-append, Contains-append_first, Contains-append_second, All-at}
use Rattle.strategy_games.proofs.Vectors.{Dominates-refl, Dominates-trans, Dominates-meet}
use Rattle.strategy_games.proofs.Fronts.{reduced_exists, Contains-meets, Contains-of_meets}
use Rattle.strategy_tree.specs.Bridge.{bridge}
use Rattle.strategy_tree.proofs.BridgeNodes.{length-states, length-child_mask, length-child_lefts, mask-bridge}
use Rattle.strategy_tree.proofs.CardLists.{has_card-from_Contains}
use Rattle.cut_rules.specs.Stops.{IsGreatestOf}
use Rattle.assured_games.specs.Assured.{Secures, IsAssured, IsAssuredFront, IsLeastBy}
use Rattle.assured_games.specs.Steps.{AssuredByReply}
use Rattle.assured_games.proofs.Zips.{meet_first, length_spread, length_zip, zip_lower}
use Rattle.sure_nodes.specs.SureNodes.{is_sure_node}
use Rattle.assured_fronts.specs.declared.replies.AfterReply.{AfterReply}
use Rattle.assured_fronts.specs.AfterReplies.{Waits, IsAfterReply}
use Rattle.assured_fronts.proofs.Leaves.{steps, goes_on}
use Rattle.card_brackets.specs.Heaviest.{TakesHeavier, AreHeavyMeets, AreHeavyAssured}
use Rattle.card_brackets.proofs.Leasts.{assured_filled}

-- ---- one vector after another

-- the width of the vector at a place
pub width_at : (width : ℕ) (items : List Vector) (place : ℕ) (item : Vector) → HaveWidth width items → place < length items → item ≡ get_or items place item → length item ≡ width
width_at width items place item all inside is = All-at (λ v. length v ≡ width) items all item (subst (λ (v : Vector). Contains items v) (sym is) (Contains-get_or items place item inside))

-- the vectors up to a place, with the one there
pub taken_more : (items : List Vector) (place : ℕ) (item : Vector) → place < length items → item ≡ get_or items place item → take place items ++ item ∷ [] ≡ take (place + 1) items
taken_more items place item inside is = sym (take_more items place item inside ∙ ap (λ (v : Vector). take place items ++ v ∷ []) (sym is))

covers_more : (f g : List Vector) (v : Vector) → CoversAll g f → Covers f v → Covers g v
covers_more f g v all above = let u = all above.0 above.1 in (u.0, u.1, Dominates-trans u.0 above.0 v u.2 above.2)

module _ (ws : List ℕ) (floor : ℕ) where
  pub takes_none : (v : Vector) (old : List Vector) → TakesHeavier ws floor [] v old old
  takes_none v old = record {
    inside = λ w k. inl k;
    heavy = λ u k more. absurd (Contains-nil u k);
    kept = λ w k. (w, k, Dominates-refl w);
  }

  module _ (xs : List Vector) (x v : Vector) (old mid : List Vector) (so : TakesHeavier ws floor xs v old mid) where
    -- a meet that is heavy enough
    pub takes_more : (new : List Vector) → IsReduced (meet_of x v ∷ mid) new → TakesHeavier ws floor (xs ++ x ∷ []) v old new
    takes_more new reduced =
        let above : CoversAll new mid = λ w k. reduced.covered w (Contains-there (meet_of x v) mid w k) in
        record {
          inside = λ w k. ⊎_elim
              (λ (same : meet_of x v ≡ w). inr (x, Contains-append_second xs (x ∷ []) x (Contains-here x []), same))
              (λ (later : Contains mid w). ⊎_elim
              (λ (first : Contains old w). inl first)
              (λ (met : (u : Vector) × Contains xs u × (meet_of u v ≡ w)). inr (met.0, Contains-append_first xs (x ∷ []) met.0 met.1, met.2))
              (so.inside w later))
              (Contains-cons (meet_of x v) mid w (reduced.reached w k));
          heavy = λ u k more. ⊎_elim
              (λ (earlier : Contains xs u). covers_more mid new (meet_of u v) above (so.heavy u earlier more))
              (λ (last : Contains (x ∷ []) u). subst (λ (z : Vector). Covers new (meet_of z v)) (Contains-single x u last) (reduced.covered (meet_of x v) (Contains-here (meet_of x v) mid)))
              (Contains-append xs (x ∷ []) u k);
          kept = λ w k. covers_more mid new w above (so.kept w k);
        }

    -- one that isn't
    pub takes_less : weight_of ws (meet_of x v) ≤ floor → TakesHeavier ws floor (xs ++ x ∷ []) v old mid
    takes_less light = record {
      inside = λ w k. ⊎_elim
          (λ (first : Contains old w). inl first)
          (λ (met : (u : Vector) × Contains xs u × (meet_of u v ≡ w)). inr (met.0, Contains-append_first xs (x ∷ []) met.0 met.1, met.2))
          (so.inside w k);
      heavy = λ u k more. ⊎_elim
          (λ (earlier : Contains xs u). so.heavy u earlier more)
          (λ (last : Contains (x ∷ []) u).
          let same : weight_of ws (meet_of x v) ≡ weight_of ws (meet_of u v) = ap (λ (z : Vector). weight_of ws (meet_of z v)) (Contains-single x u last) in
          absurd (omega (arith, same, more, light)))
          (Contains-append xs (x ∷ []) u k);
      kept = so.kept;
    }

  pub meets_none : (front : List Vector) (bits : Vector) → AreHeavyMeets ws floor front bits [] []
  meets_none front bits = record {
    inside = λ v k. absurd (Contains-nil v k);
    heavy = λ u w k l more. absurd (Contains-nil w l);
  }

  pub meets_more : (front : List Vector) (bits : Vector) (ws' : List Vector) (w : Vector) (old new : List Vector) → AreHeavyMeets ws floor front bits ws' old
      → TakesHeavier ws floor front (spread_of w bits) old new → AreHeavyMeets ws floor front bits (ws' ++ w ∷ []) new
  meets_more front bits ws' w old new so took = record {
    inside = λ v k. ⊎_elim
        (λ (first : Contains old v). let met = so.inside v first in (met.0, met.1, met.2, Contains-append_first ws' (w ∷ []) met.1 met.3, met.4))
        (λ (met : (u : Vector) × Contains front u × (meet_of u (spread_of w bits) ≡ v)). (met.0, w, met.1, Contains-append_second ws' (w ∷ []) w (Contains-here w []), met.2))
        (took.inside v k);
    heavy = λ u x k l more. ⊎_elim
        (λ (earlier : Contains ws' x). covers_more old new (meet_of u (spread_of x bits)) took.kept (so.heavy u x k earlier more))
        (λ (last : Contains (w ∷ []) x).
        let same : w ≡ x = Contains-single w x last in
        subst (λ (z : Vector). Covers new (meet_of u (spread_of z bits))) same (took.heavy u k (subst (λ (z : Vector). floor < weight_of ws (meet_of u (spread_of z bits))) (sym same) more)))
        (Contains-append ws' (w ∷ []) x l);
  }

-- ---- one card after another

-- the card at a place, with what is found after it
pair_in : {B : Type 0} (R : ℕ → B → Type 0) (cards : List ℕ) (found : List B) (place : ℕ) (one : B) → AllZip R cards found → place < length found → one ≡ get_or found place one
    → (card : ℕ) × (place < length cards) × (card ≡ get_or cards place card) × R card one
pair_in R [] [] place one z inside same = absurd (omega arith)
pair_in R [] (x ∷ found) place one z inside same = absurd z
pair_in R (c ∷ cards) [] place one z inside same = absurd z
pair_in R (c ∷ cards) (x ∷ found) zero one z inside same = (c, omega arith, refl, subst (λ y. R c y) (sym same) z.0)
pair_in R (c ∷ cards) (x ∷ found) (suc place) one z inside same =
    let later = pair_in R cards found place one z.1 (omega (arith, inside)) same in
    (later.0, omega (arith, later.1), later.2, later.3)

pub pair_at : {B : Type 0} (R : ℕ → B → Type 0) (cards : List ℕ) (found : List B) (place : ℕ) (one : B) → AllZip R cards found → place < length found → one ≡ get_or found place one
    → (card : ℕ) × (take (place + 1) cards ≡ take place cards ++ card ∷ []) × Contains cards card × R card one
pair_at R cards found place one z inside same =
    let p = pair_in R cards found place one z inside same in (
      p.0,
      take_more cards place p.0 p.1 ∙ ap (λ (x : ℕ). take place cards ++ x ∷ []) (sym p.2),
      subst (λ (x : ℕ). Contains cards x) (sym p.2) (Contains-get_or cards place p.0 p.1),
      p.3,
    )

pub as_many : {B : Type 0} (R : ℕ → B → Type 0) (cards : List ℕ) (found : List B) → AllZip R cards found → length cards ≡ length found
as_many R [] [] z = refl
as_many R [] (x ∷ found) z = absurd z
as_many R (c ∷ cards) [] z = absurd z
as_many R (c ∷ cards) (x ∷ found) z = ap suc (as_many R cards found z.1)

lower : (n : NodeValue) (m : ℕ) (u v : Vector) → Dominates u v → IsAssured bridge is_sure_node n m u → IsAssured bridge is_sure_node n m v
lower n m u v d a = (a.0, a.1, zip_lower (λ s. Secures bridge a.0 s) u v (states n) d a.2)

-- a vector that is won against each of the first cards
pub record QuickSoFar (n : NodeValue) (m : ℕ) (cards : List ℕ) (quick : Vector) : Type 0 where
  pub front : List Vector
  pub is_front : IsFrontOf (AssuredByReply bridge is_sure_node n m cards) front
  pub covered : Covers front quick
  pub wide : length quick ≡ length n.lefts

-- the heavier ones of all that are
pub record HeavySoFar (n : NodeValue) (m : ℕ) (ws : List ℕ) (floor : ℕ) (cards : List ℕ) (kept : FrontValue) : Type 0 where
  pub front : List Vector
  pub is_front : IsFrontOf (AssuredByReply bridge is_sure_node n m cards) front
  pub assured : CoversAll front kept.vectors
  pub heavy : (v : Vector) → Contains front v → floor < weight_of ws v → Covers kept.vectors v
  pub wide : kept.width ≡ length n.lefts

module _ (n : NodeValue) (m : ℕ) where
  ones_first : IsFrontOf (AssuredByReply bridge is_sure_node n m []) (replicate (length n.lefts) true ∷ [])
  ones_first = subst (λ (w : ℕ). IsFrontOf (AssuredByReply bridge is_sure_node n m []) (replicate w true ∷ [])) (length-states n) (steps.no_reply n m)

  pub quick_none : (quick : Vector) → quick ≡ replicate (length n.lefts) true → length quick ≡ length n.lefts → QuickSoFar n m [] quick
  quick_none quick all wide = record {
    front = replicate (length n.lefts) true ∷ [];
    is_front = ones_first;
    covered = (replicate (length n.lefts) true, Contains-here (replicate (length n.lefts) true) [], subst (λ (v : Vector). Dominates (replicate (length n.lefts) true) v) (sym all) (Dominates-refl (replicate (length n.lefts) true)));
    wide = wide;
  }

  pub heavy_none : (ws : List ℕ) (floor : ℕ) (kept : FrontValue) → IsReduced (replicate (length n.lefts) true ∷ []) kept.vectors → kept.width ≡ length n.lefts → HeavySoFar n m ws floor [] kept
  heavy_none ws floor kept reduced wide = record {
    front = replicate (length n.lefts) true ∷ [];
    is_front = ones_first;
    assured = λ v k. (v, reduced.reached v k, Dominates-refl v);
    heavy = λ v k more. reduced.covered v k;
    wide = wide;
  }

  module _ (sound : IsNode n) (card : ℕ) (choice : Contains (choices n) card) (after : AfterReply) (is : IsAfterReply n m card after) where
    abbrev won : List Vector
    won = after.front.vectors

    pub mask_width : length after.mask ≡ length n.lefts
    mask_width = ap (λ (v : Vector). length v) is.mask ∙ length-child_mask n card

    pub child_width : after.front.width ≡ ones_of after.mask
    child_width = is.front.width ∙ length-child_lefts n card ∙ ap ones_of (sym is.mask)

    pub filled : won ≢ []
    filled none = assured_filled (child n card) m won (a_choice_leads_to_a_node n card sound (has_card-from_Contains (choices n) card choice)) is.front.front none

    spread_wide : (w : Vector) → Contains won w → length (spread_of w after.mask) ≡ length n.lefts
    spread_wide w k =
        let a = is.front.front.reached w k in
        let few : length w ≡ ones_of after.mask = length_zip (λ s. Secures bridge a.0 s) w (states (child n card)) a.2 ∙ length-states (child n card) ∙ length-child_lefts n card ∙ ap ones_of (sym is.mask) in
        length_spread w after.mask few ∙ mask_width

    -- the front against one card more
    next : (cards : List ℕ) (f : List Vector) → IsFrontOf (AssuredByReply bridge is_sure_node n m cards) f
        → (g : List Vector) × IsReduced (meets f (spreads after.mask won)) g × IsFrontOf (AssuredByReply bridge is_sure_node n m (cards ++ card ∷ [])) g
    next cards f so =
        let r = reduced_exists (meets f (spreads after.mask won)) in
        let bits : after.mask ≡ mask bridge n card = is.mask ∙ sym (mask-bridge n card) in
        (r.0, r.1, steps.more_replies n m cards card f won r.0 sound choice so is.front.front (subst (λ (b : Vector). IsReduced (meets f (spreads b won)) r.0) bits r.1))

    covers_meet : (f g : List Vector) (v w : Vector) → IsReduced (meets f (spreads after.mask won)) g → Covers f v → Contains won w → Covers g (meet_of v (spread_of w after.mask))
    covers_meet f g v w reduced above k =
        let x = spread_of w after.mask in
        let u = reduced.covered (meet_of above.0 x) (Contains-meets f (spreads after.mask won) above.0 x above.1 (Contains-map (λ z. spread_of z after.mask) won w k)) in
        (u.0, u.1, Dominates-trans u.0 (meet_of above.0 x) (meet_of v x) u.2 (Dominates-meet above.0 v x x above.2 (Dominates-refl x)))

    pub quick_more : (cards : List ℕ) (quick found : Vector) → QuickSoFar n m cards quick → (w : Vector) × Contains won w × (meet_of quick (spread_of w after.mask) ≡ found) → length found ≡ length n.lefts
        → QuickSoFar n m (cards ++ card ∷ []) found
    quick_more cards quick found so met wide =
        let g = next cards so.front so.is_front in
        record {
          front = g.0;
          is_front = g.2;
          covered = subst (λ (v : Vector). Covers g.0 v) met.2 (covers_meet so.front g.0 quick met.0 g.1 so.covered met.1);
          wide = wide;
        }

    pub heavy_more : (ws : List ℕ) (floor : ℕ) (cards : List ℕ) (kept new : FrontValue) → HeavySoFar n m ws floor cards kept → AreHeavyMeets ws floor kept.vectors after.mask won new.vectors → new.width ≡ kept.width
        → HeavySoFar n m ws floor (cards ++ card ∷ []) new
    heavy_more ws floor cards kept new so met width =
        let g = next cards so.front so.is_front in
        record {
          front = g.0;
          is_front = g.2;
          assured = λ v k. let p = met.inside v k in subst (λ (z : Vector). Covers g.0 z) p.4 (covers_meet so.front g.0 p.0 p.1 g.1 (so.assured p.0 p.2) p.3);
          heavy = λ v k more. still v (g.1.reached v k) more;
          wide = width ∙ so.wide;
        }
      where
        still : (v : Vector) → Contains (meets so.front (spreads after.mask won)) v → floor < weight_of ws v → Covers new.vectors v
        still v k more =
            let p = Contains-of_meets so.front (spreads after.mask won) v k in
            let q = Contains-of_map (λ z. spread_of z after.mask) won p.1 p.3 in
            let x = spread_of q.0 after.mask in
            let is_v : meet_of p.0 x ≡ v = ap (λ (z : Vector). meet_of p.0 z) q.2 ∙ p.4 in
            let same : weight_of ws (meet_of p.0 x) ≡ weight_of ws v = ap (weight_of ws) is_v in
            let wide : length p.0 ≡ length x = (so.is_front.reached p.0 p.2).0 ∙ length-states n ∙ sym (spread_wide q.0 q.1) in
            let above = weight_of-monotone ws p.0 (meet_of p.0 x) (meet_first p.0 x wide) in
            let j = so.heavy p.0 p.2 (omega (arith, more, same, above)) in
            let over : Dominates (meet_of j.0 x) (meet_of p.0 x) = Dominates-meet j.0 p.0 x x j.2 (Dominates-refl x) in
            let heavier = weight_of-monotone ws (meet_of j.0 x) (meet_of p.0 x) over in
            let u = met.heavy j.0 q.0 j.1 q.1 (omega (arith, more, same, heavier)) in
            subst (λ (z : Vector). Covers new.vectors z) is_v (u.0, u.1, Dominates-trans u.0 (meet_of j.0 x) (meet_of p.0 x) u.2 over)

  module _ (sound : IsNode n) (waits : Waits n m) where
    against_all : (f : List Vector) → IsFrontOf (AssuredByReply bridge is_sure_node n m (choices n)) f → IsAssuredFront bridge is_sure_node n m f
    against_all f so =
        let some = waits.some in
        let more : suc (m - 1) ≡ m = omega (arith, some) in
        let going = goes_on n waits.goes_on in
        subst (λ k. IsAssuredFront bridge is_sure_node n k f) more
        (steps.all_replies n (m - 1) f sound going.0 going.1 waits.theirs (subst (λ k. IsFrontOf (AssuredByReply bridge is_sure_node n k (choices n)) f) (sym more) so))

    pub quick_all : (quick : Vector) → QuickSoFar n m (choices n) quick → IsAssured bridge is_sure_node n m quick
    quick_all quick so = lower n m so.covered.0 quick so.covered.2 ((against_all so.front so.is_front).reached so.covered.0 so.covered.1)

    pub heavy_all : (ws : List ℕ) (floor : ℕ) (kept : FrontValue) → HeavySoFar n m ws floor (choices n) kept → AreHeavyAssured n m ws floor kept.vectors
    heavy_all ws floor kept so =
        let whole = against_all so.front so.is_front in
        record {
          assured = λ v k. let u = so.assured v k in lower n m u.0 v u.2 (whole.reached u.0 u.1);
          heavy = λ v a more.
              let u = whole.covered v a in
              let heavier = weight_of-monotone ws u.0 v u.2 in
              let w = so.heavy u.0 u.1 (omega (arith, more, heavier)) in
              (w.0, w.1, Dominates-trans w.0 u.0 v w.2 u.2);
        }

-- the greatest weight is the floor's, or that of the heaviest
pub least_heavy : (n : NodeValue) (m : ℕ) (ws : List ℕ) (quick : Vector) (floor : ℕ) (kept : List Vector) (greatest : Option ℕ) (weight : ℕ) → IsAssured bridge is_sure_node n m quick → floor ≡ weight_of ws quick
    → AreHeavyAssured n m ws floor kept → IsGreatestOf ws kept greatest → ((w : ℕ) → greatest ≡ Some w → floor < w → weight ≡ w) → ((w : ℕ) → greatest ≡ Some w → w ≤ floor → weight ≡ floor)
    → (greatest ≡ None → weight ≡ floor) → IsLeastBy bridge is_sure_node (weight_of ws) n m weight
least_heavy n m ws quick floor kept None weight a is so great more less none =
    let same = none refl in
    record {
      vector = quick;
      assured = a;
      measured = sym (same ∙ is);
      greatest = λ v b. ⊎_elim
          (λ (heavy : floor < weight_of ws v). let u = so.heavy v b heavy in absurd (Contains-nil u.0 (subst (λ (l : List Vector). Contains l u.0) great u.1)))
          (λ (light : weight_of ws v ≤ floor). omega (arith, light, same))
          (cases_lt floor (weight_of ws v));
    }
least_heavy n m ws quick floor kept (Some w) weight a is so great more less none = ⊎_elim
    (λ (above : floor < w).
    let same = more w refl above in
    record {
      vector = great.reached.0;
      assured = so.assured great.reached.0 great.reached.1;
      measured = great.reached.2 ∙ sym same;
      greatest = λ v b. ⊎_elim
          (λ (heavy : floor < weight_of ws v).
          let u = so.heavy v b heavy in
          let heavier = weight_of-monotone ws u.0 v u.2 in
          let most = great.most u.0 u.1 in
          omega (arith, heavier, most, same))
          (λ (light : weight_of ws v ≤ floor). omega (arith, light, same, above))
          (cases_lt floor (weight_of ws v));
    })
    (λ (below : w ≤ floor).
    let same = less w refl below in
    record {
      vector = quick;
      assured = a;
      measured = sym (same ∙ is);
      greatest = λ v b. ⊎_elim
          (λ (heavy : floor < weight_of ws v).
          let u = so.heavy v b heavy in
          let heavier = weight_of-monotone ws u.0 v u.2 in
          let most = great.most u.0 u.1 in
          absurd (omega (arith, heavier, most, below, heavy)))
          (λ (light : weight_of ws v ≤ floor). omega (arith, light, same))
          (cases_lt floor (weight_of ws v));
    })
    (cases_lt floor w)

-- ---- a vector and a child's front

module _ (v : Vector) (single won joined : List Vector) (bits : Vector) (one : IsReduced (v ∷ []) single) (join : IsReduced (meets single (spreads bits won)) joined) where
  -- a vector of their join
  pub met_of : (u : Vector) → Contains joined u → (w : Vector) × Contains won w × (meet_of v (spread_of w bits) ≡ u)
  met_of u k =
      let p = Contains-of_meets single (spreads bits won) u (join.reached u k) in
      let q = Contains-of_map (λ z. spread_of z bits) won p.1 p.3 in
      let same : v ≡ p.0 = Contains-single v p.0 (one.reached p.0 p.2) in
      (q.0, q.1, ap (λ (z : Vector). meet_of z (spread_of q.0 bits)) same ∙ ap (λ (z : Vector). meet_of p.0 z) q.2 ∙ p.4)

  -- there is one
  pub met_filled : won ≢ [] → joined ≢ []
  met_filled some none = go won some (λ w k. k)
    where
      go : (ws : List Vector) → ws ≢ [] → ((w : Vector) → Contains ws w → Contains won w) → ⊥
      go [] is_filled inside = is_filled refl
      go (w ∷ ws) is_filled inside =
          let u = one.covered v (Contains-here v []) in
          let x = spread_of w bits in
          let a = join.covered (meet_of u.0 x) (Contains-meets single (spreads bits won) u.0 x u.1 (Contains-map (λ z. spread_of z bits) won w (inside w (Contains-here w ws)))) in
          Contains-nil a.0 (subst (λ (l : List Vector). Contains l a.0) none a.1)
