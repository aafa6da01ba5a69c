-- The assured front of a node, card by card.
use Rattle.std.proofs.Common.{◌≡◌, ◌⊎◌, ℕ, zero, suc, sum_by, ◌+◌, ◌-◌, ◌<◌, ◌↔◌, true, false, List, [], ◌∷◌, ◌++◌, replicate, length, Contains, All, refl, sym, ap, subst, ◌∙◌, arith, inl, inr, ⊎_elim, Result, IsErrAnd}
use Rattle.std.proofs.lemmas.Bool.{cases_Bool}
use Rattle.card_sets.specs.SetWords.{has_card}
use Rattle.win_vectors.specs.Vectors.{ones_of, restrict_of}
use Rattle.win_vectors.specs.Fronts.{Vector, Dominates, Covers, IsFrontOf, IsReduced, meets, spreads}
use Rattle.pareto_fronts.specs.FrontValue.{FrontValue}
use Rattle.trick_rules.specs.Positions.{to_play}
use Rattle.trick_rules.specs.Play.{is_declarers}
use Rattle.trick_rules.specs.Nodes.{NodeValue, IsNode, states, choices, child, child_mask}
use Rattle.trick_rules.specs.Nodes as nodes
use Rattle.trick_rules.proofs.PlayLaws.{a_choice_leads_to_a_node}
use Rattle.strategy_games.specs.Games.{mask}
use Rattle.strategy_games.specs.Plans.{stops, tree_size}
use Rattle.strategy_tree.specs.Bridge.{bridge}
use Rattle.strategy_tree.proofs.BridgeNodes.{length-states, length-child_mask, length-child_lefts, mask-bridge, stops-bridge, tree_size-positive}
use Rattle.strategy_tree.proofs.CardLists.{has_card-from_Contains, Contains-from_has_card}
use Rattle.strategy_games.proofs.Lists.{Contains-here, Contains-nil, Contains-cons, Contains-single, Contains-append, Contains-append_first, Contains-append_second, All-at}
use Rattle.strategy_games.proofs.Vectors.{Dominates-refl, Dominates-trans}
use Rattle.strategy_games.proofs.Fronts.{front_level, front_same, cases_Covers}
use Rattle.alphamu_core.proofs.Judging.{ones_above}
use Rattle.alphamu_core.proofs.OpenNodes.{size_ours, size_theirs, length-our_child}
use Rattle.alphamu_core.specs.declared.answers.SearchFault.{SearchFault}
use Rattle.alphamu_core.specs.declared.answers.SearchFault.TheVariants.{Memory}
use Rattle.alphamu_core.specs.Costs.{Costs}
use Rattle.equal_cards.specs.Equals.{IsLowest}
use Rattle.alphamu_core.specs.Kept.{AreEnough, IsTaken}
use Rattle.alphamu_core.proofs.Paid.{HasPaid, size_after, costs_memory}
use Rattle.alphamu_core.proofs.Parts.{length-restrict}
use Rattle.assured_games.specs.Assured.{Secures, IsAssured, IsAssuredFront}
use Rattle.assured_games.proofs.Zips.{length_zip}
use Rattle.assured_games.specs.Steps.{AssuredByCard, AssuredByReply}
use Rattle.sure_nodes.specs.SureNodes.{is_sure_node}
use Rattle.assured_fronts.specs.AssuredAt.{IsAssuredAt, AllMade, claims}
use Rattle.assured_fronts.proofs.EqualFronts.{equal_fronts}
use Rattle.assured_fronts.proofs.Leaves.{steps, same_front, goes_on}
use Rattle.assured_fronts.proofs.MadeLayouts.{made_after}
use Rattle.assured_fronts.proofs.OneAtATime.{one_assured}

-- play goes on
pub live : (n : NodeValue) (moves : ℕ) → claims n ≡ false → 0 < moves → stops bridge n moves ≡ false
live n zero off some = absurd (omega arith)
live n (suc m) off some = (goes_on n off).0

pub stops_off : (n : NodeValue) (moves : ℕ) → claims n ≡ false → 0 < moves → nodes.stops n moves ≡ false
stops_off n moves off some = sym (stops-bridge n moves) ∙ live n moves off some

more_moves : (moves : ℕ) → 0 < moves → suc (moves - 1) ≡ moves
more_moves moves some = omega arith

-- ---- the cards one after another

-- the front over some cards, with the moves that are left after each
pub record IsFrontOver (n : NodeValue) (m : ℕ) (cards : List ℕ) (front : List Vector) : Type 0 where
  pub ours : is_declarers (to_play n.position) ≡ true → IsFrontOf (AssuredByCard bridge is_sure_node n m cards) front
  pub theirs : is_declarers (to_play n.position) ≡ false → IsFrontOf (AssuredByReply bridge is_sure_node n m cards) front

-- the choices that are tried: of equal cards of declarer's side the lowest
pub record AreTried (n : NodeValue) (tried : List ℕ) : Type 0 where
  pub enough : AreEnough n tried
  pub ours : is_declarers (to_play n.position) ≡ true → (card : ℕ) → (has_card tried card ≡ true) ↔ IsLowest n card
  pub theirs : is_declarers (to_play n.position) ≡ false → tried ≡ choices n

-- of the cards that are tried these are left, and the front is over the others
pub record CardsLeft (n : NodeValue) (m : ℕ) (cards : List ℕ) (front : FrontValue) : Type 0 where
  pub tried : List ℕ
  pub are_tried : AreTried n tried
  pub earlier : List ℕ
  pub each : (c : ℕ) → Contains tried c → Contains earlier c ⊎ Contains cards c
  pub were : (c : ℕ) → Contains earlier c → Contains tried c
  pub among : (c : ℕ) → Contains cards c → Contains tried c
  pub width : front.width ≡ length n.lefts
  pub so_far : IsFrontOver n m earlier front.vectors

pub next_choice : {n : NodeValue} {m card : ℕ} {cards rest : List ℕ} {front : FrontValue} (left : CardsLeft n m cards front) → IsTaken cards card rest → Contains (choices n) card
next_choice {n} {m} {card} left next = left.are_tried.enough.within card (left.among card next.among)

-- a card more is tried
module _ {n : NodeValue} {m card : ℕ} {cards rest : List ℕ} {front : FrontValue} (left : CardsLeft n m cards front) (next : IsTaken cards card rest) where
  each_now : (c : ℕ) → Contains left.tried c → Contains (left.earlier ++ card ∷ []) c ⊎ Contains rest c
  each_now c k = ⊎_elim
      (λ (was : Contains left.earlier c). inl (Contains-append_first left.earlier (card ∷ []) c was))
      (λ (open_card : Contains cards c). ⊎_elim
      (λ (same : c ≡ card). inl (Contains-append_second left.earlier (card ∷ []) c (subst (λ (x : ℕ). Contains (x ∷ []) c) same (Contains-here c []))))
      (λ (later : Contains rest c). inr later)
      (next.others c open_card))
      (left.each c k)

  were_now : (c : ℕ) → Contains (left.earlier ++ card ∷ []) c → Contains left.tried c
  were_now c k = ⊎_elim
      (λ (was : Contains left.earlier c). left.were c was)
      (λ (last : Contains (card ∷ []) c). subst (λ (x : ℕ). Contains left.tried x) (Contains-single card c last) (left.among card next.among))
      (Contains-append left.earlier (card ∷ []) c k)

-- the cards before a member of a list, and those after it
pub parted : (xs : List ℕ) (x : ℕ) → Contains xs x → (ys : List ℕ) × (zs : List ℕ) × (xs ≡ ys ++ x ∷ zs)
parted [] x k = absurd (Contains-nil x k)
parted (y ∷ xs) x k = ⊎_elim
    (λ (same : y ≡ x). ([], xs, ap (λ (z : ℕ). z ∷ xs) same))
    (λ (later : Contains xs x). let r = parted xs x later in (y ∷ r.0, r.1, ap (λ (l : List ℕ). y ∷ l) r.2))
    (Contains-cons y xs x k)

pub over_no_card : (n : NodeValue) (m : ℕ) (front : List Vector) → (is_declarers (to_play n.position) ≡ true → front ≡ [])
    → (is_declarers (to_play n.position) ≡ false → IsReduced (replicate (length n.lefts) true ∷ []) front) → IsFrontOver n m [] front
over_no_card n m front none all = record {
  ours = λ o. subst (IsFrontOf (AssuredByCard bridge is_sure_node n m [])) (sym (none o)) (steps.no_card n m);
  theirs = λ t. same_front (AssuredByReply bridge is_sure_node n m []) (replicate (length n.lefts) true ∷ []) front
      (subst (λ w. IsFrontOf (AssuredByReply bridge is_sure_node n m []) (replicate w true ∷ [])) (length-states n) (steps.no_reply n m)) (all t);
}

pub over_one_more : (n kept : NodeValue) (m : ℕ) (earlier : List ℕ) (card : ℕ) (mask : Vector) (front won next : List Vector) → IsNode n → Contains (choices n) card
    → IsFrontOver n m earlier front → kept ≡ child n card → mask ≡ child_mask n card → IsAssuredFront bridge is_sure_node kept m won
    → (is_declarers (to_play n.position) ≡ true → IsReduced (front ++ won) next) → (is_declarers (to_play n.position) ≡ false → IsReduced (meets front (spreads mask won)) next)
    → IsFrontOver n m (earlier ++ card ∷ []) next
over_one_more n kept m earlier card mask front won next sound choice so_far is mask_is kept_front union join =
    let child_front = subst (λ k. IsAssuredFront bridge is_sure_node k m won) is kept_front in
    record {
      ours = λ o. steps.more_cards n m earlier card front won next (so_far.ours o) child_front (union o);
      theirs = λ t. steps.more_replies n m earlier card front won next sound choice (so_far.theirs t) child_front
          (subst (λ bits. IsReduced (meets front (spreads bits won)) next) (mask_is ∙ sym (mask-bridge n card)) (join t));
    }

-- of equal cards of declarer's side the lowest are enough
module _ (n : NodeValue) (m : ℕ) (tried : List ℕ) (front : List Vector) (sound : IsNode n) (is : AreTried n tried) (o : is_declarers (to_play n.position) ≡ true)
    (so : IsFrontOf (AssuredByCard bridge is_sure_node n m tried) front) where
  -- no vector by a card is left uncovered
  uncovered : (k card : ℕ) → card < k → Contains (choices n) card → (v : Vector) → IsAssured bridge is_sure_node (child n card) m v → (Covers front v → ⊥) → ⊥
  uncovered zero card few choice v a off = absurd (omega arith)
  uncovered (suc k) card few choice v a off =
      let lowest : IsLowest n card = record {
        choice = has_card-from_Contains (choices n) card choice;
        no_lower = λ low eq.
            let same = equal_fronts n low card sound o eq m in
            let u = same.2.covered v a in
            uncovered k low (omega (arith, eq.order)) (Contains-from_has_card (choices n) low eq.low_choice) u.0 (same.1.reached u.0 u.1)
            (λ above. off (above.0, above.1, Dominates-trans above.0 u.0 v above.2 u.2));
      } in
      off (so.covered v (card, Contains-from_has_card tried card ((is.ours o card).1 lowest), a))

  over_lowest : IsFrontOf (AssuredByCard bridge is_sure_node n m (choices n)) front
  over_lowest = record {
    reached = λ v k. let a = so.reached v k in (a.0, is.enough.within a.0 a.1, a.2);
    covered = λ v a. ⊎_elim (λ (above : Covers front v). above) (λ (off : Covers front v → ⊥). absurd (uncovered (suc a.0) a.0 (omega arith) a.1 v a.2 off)) (cases_Covers front v);
    apart = so.apart;
    ordered = so.ordered;
  }

pub over_all : (n : NodeValue) (moves m : ℕ) (tried earlier : List ℕ) (front : List Vector) → AreTried n tried → IsNode n → claims n ≡ false → 0 < moves
    → (is_declarers (to_play n.position) ≡ true → m ≡ moves - 1) → (is_declarers (to_play n.position) ≡ false → m ≡ moves)
    → ((c : ℕ) → Contains tried c → Contains earlier c) → ((c : ℕ) → Contains earlier c → Contains tried c) → IsFrontOver n m earlier front → IsAssuredFront bridge is_sure_node n moves front
over_all n moves m tried earlier front is sound off some less same all were so_far =
    let going = goes_on n off in
    let more = more_moves moves some in
    elim (cases_Bool (is_declarers (to_play n.position))) as (λ _. IsAssuredFront bridge is_sure_node n moves front) [
      | inl o ↦
          let so = front_same (AssuredByCard bridge is_sure_node n m earlier) (AssuredByCard bridge is_sure_node n m tried) front
          (λ v a. (a.0, were a.0 a.1, a.2)) (λ v a. (a.0, all a.0 a.1, a.2)) (so_far.ours o) in
          subst (λ k. IsAssuredFront bridge is_sure_node n k front) more
          (steps.all_cards n (moves - 1) front sound going.0 going.1 o
          (subst (λ k. IsFrontOf (AssuredByCard bridge is_sure_node n k (choices n)) front) (less o) (over_lowest n m tried front sound is o so)))
      | inr t ↦
          let so = front_same (AssuredByReply bridge is_sure_node n m earlier) (AssuredByReply bridge is_sure_node n m tried) front
          (λ v a. (a.0, λ c k. a.1 c (all c k))) (λ v a. (a.0, λ c k. a.1 c (were c k))) (so_far.theirs t) in
          subst (λ k. IsAssuredFront bridge is_sure_node n k front) more
          (steps.all_replies n (moves - 1) front sound going.0 going.1 t
          (subst (λ k. IsFrontOf (AssuredByReply bridge is_sure_node n k (choices n)) front) (same t ∙ sym more)
          (subst (λ cards. IsFrontOf (AssuredByReply bridge is_sure_node n m cards) front) (is.theirs t) so)))
    ]

-- a card more, with the front after it
pub left_one_more : {n : NodeValue} {m card : ℕ} {cards rest : List ℕ} {front : FrontValue} (left : CardsLeft n m cards front) → IsTaken cards card rest → (kept : NodeValue) (mask : Vector) (won next : FrontValue)
    → IsNode n → kept ≡ child n card → mask ≡ child_mask n card → IsAssuredFront bridge is_sure_node kept m won.vectors → next.width ≡ front.width
    → (is_declarers (to_play n.position) ≡ true → IsReduced (front.vectors ++ won.vectors) next.vectors) → (is_declarers (to_play n.position) ≡ false → IsReduced (meets front.vectors (spreads mask won.vectors)) next.vectors)
    → CardsLeft n m rest next
left_one_more {n} {m} {card} {cards} {rest} {front} left first kept mask won next sound is mask_is kept_front width union join =
    record {
      tried = left.tried;
      are_tried = left.are_tried;
      earlier = left.earlier ++ card ∷ [];
      each = each_now left first;
      were = were_now left first;
      among = λ c k. left.among c (first.part c k);
      width = width ∙ left.width;
      so_far = over_one_more n kept m left.earlier card mask front.vectors won.vectors next.vectors sound (next_choice left first) left.so_far is mask_is kept_front union join;
    }

-- the front after all cards
pub left_all : {n : NodeValue} {m : ℕ} {cards : List ℕ} {front : FrontValue} (left : CardsLeft n m cards front) → (moves : ℕ) → IsNode n → claims n ≡ false → 0 < moves
    → (is_declarers (to_play n.position) ≡ true → m ≡ moves - 1) → (is_declarers (to_play n.position) ≡ false → m ≡ moves) → cards ≡ [] → IsAssuredAt n moves front
left_all {n} {m} {cards} {front} left moves sound off some less same none = record {
  front = over_all n moves m left.tried left.earlier front.vectors left.are_tried sound off some less same
      (λ c k. ⊎_elim (λ (was : Contains left.earlier c). was) (λ (open_card : Contains cards c). absurd (Contains-nil c (subst (λ (l : List ℕ). Contains l c) none open_card))) (left.each c k))
      left.were left.so_far;
  width = left.width;
}

-- a card that changes nothing
module _ {n : NodeValue} {m card : ℕ} {cards rest : List ℕ} {front : FrontValue} (left : CardsLeft n m cards front) (first : IsTaken cards card rest) (sound : IsNode n) (off : claims n ≡ false) (made : AllMade n) where
  abbrev with_card : List ℕ
  with_card = left.earlier ++ card ∷ []

  among : (c : ℕ) → Contains with_card c → Contains (choices n) c
  among c k = left.are_tried.enough.within c (were_now left first c k)

  -- where declarer's side wins every layout already,
  same_ours : is_declarers (to_play n.position) ≡ true → Covers front.vectors (replicate (length n.lefts) true) → IsFrontOf (AssuredByCard bridge is_sure_node n m with_card) front.vectors
  same_ours o all = front_level (AssuredByCard bridge is_sure_node n m left.earlier) (AssuredByCard bridge is_sure_node n m with_card) front.vectors to back (left.so_far.ours o)
    where
      to : (v : Vector) → AssuredByCard bridge is_sure_node n m left.earlier v → (u : Vector) × AssuredByCard bridge is_sure_node n m with_card u × Dominates u v
      to v a = (v, (a.0, Contains-append_first left.earlier (card ∷ []) a.0 a.1, a.2), Dominates-refl v)

      back : (v : Vector) → AssuredByCard bridge is_sure_node n m with_card v → (u : Vector) × AssuredByCard bridge is_sure_node n m left.earlier u × Dominates u v
      back v a =
          let wide : length v ≡ length n.lefts = length_zip (λ s. Secures bridge a.2.0 s) v (states (child n a.0)) a.2.2 ∙ length-states (child n a.0) ∙ length-our_child n a.0 o (has_card-from_Contains (choices n) a.0 (among a.0 a.1)) in
          (all.0, (left.so_far.ours o).reached all.0 all.1, Dominates-trans all.0 (replicate (length n.lefts) true) v all.2 (ones_above (length n.lefts) v wide))

  -- or against a defender's card one layout at a time
  same_theirs : is_declarers (to_play n.position) ≡ false → All (λ v. ones_of (restrict_of v (child_mask n card)) < 2) front.vectors → IsFrontOf (AssuredByReply bridge is_sure_node n m with_card) front.vectors
  same_theirs t few =
      let so = left.so_far.theirs t in
      front_level (Contains front.vectors) (AssuredByReply bridge is_sure_node n m with_card) front.vectors
      (λ v k. (v, with_reply v (so.reached v k) (All-at (λ v. ones_of (restrict_of v (child_mask n card)) < 2) front.vectors few v k), Dominates-refl v))
      (λ v a. so.covered v (a.0, λ c k. a.1 c (Contains-append_first left.earlier (card ∷ []) c k)))
      (record { reached = λ v k. k; covered = λ v k. (v, k, Dominates-refl v); apart = so.apart; ordered = so.ordered })
    where
      one_each : (v : Vector) → length v ≡ length (states n) → ones_of (restrict_of v (child_mask n card)) < 2 → IsAssured bridge is_sure_node (child n card) m (restrict_of v (mask bridge n card))
      one_each v wide one =
          let choice = has_card-from_Contains (choices n) card (among card (Contains-append_second left.earlier (card ∷ []) card (Contains-here card []))) in
          let bits : mask bridge n card ≡ child_mask n card = mask-bridge n card in
          let long : length v ≡ length (mask bridge n card) = wide ∙ length-states n ∙ sym (ap (λ (b : Vector). length b) bits ∙ length-child_mask n card) in
          let kept : length (restrict_of v (mask bridge n card)) ≡ length (child n card).lefts = length-restrict v (mask bridge n card) long ∙ ap ones_of bits ∙ sym (length-child_lefts n card) in
          one_assured (child n card) m (restrict_of v (mask bridge n card)) (a_choice_leads_to_a_node n card sound choice) (made_after n card sound (goes_on n off).0 t (child n card) refl made) kept
          (subst (λ (b : Vector). ones_of (restrict_of v b) < 2) (sym bits) one)

      with_reply : (v : Vector) → AssuredByReply bridge is_sure_node n m left.earlier v → ones_of (restrict_of v (child_mask n card)) < 2 → AssuredByReply bridge is_sure_node n m with_card v
      with_reply v a one = (
        a.0,
        λ c k. ⊎_elim
            (λ (l : Contains left.earlier c). a.1 c l)
            (λ (l : Contains (card ∷ []) c). subst (λ x. IsAssured bridge is_sure_node (child n x) m (restrict_of v (mask bridge n x))) (Contains-single card c l) (one_each v a.0 one))
            (Contains-append left.earlier (card ∷ []) c k),
      )

  pub left_same : (bits : Vector) → bits ≡ child_mask n card → (is_declarers (to_play n.position) ≡ true → Covers front.vectors (replicate (length n.lefts) true))
      → (is_declarers (to_play n.position) ≡ false → All (λ v. ones_of (restrict_of v bits) < 2) front.vectors) → CardsLeft n m rest front
  left_same bits are ours theirs = record {
    tried = left.tried;
    are_tried = left.are_tried;
    earlier = with_card;
    each = each_now left first;
    were = were_now left first;
    among = λ c k. left.among c (first.part c k);
    width = left.width;
    so_far = record {
      ours = λ o. same_ours o (ours o);
      theirs = λ t. same_theirs t (subst (λ (b : Vector). All (λ v. ones_of (restrict_of v b) < 2) front.vectors) are (theirs t));
    };
  }

-- ---- what is paid

-- the tree of a node is it and the trees after its cards
pub size_below : (n : NodeValue) (moves m : ℕ) → IsNode n → claims n ≡ false → 0 < moves
    → (is_declarers (to_play n.position) ≡ true → m ≡ moves - 1) → (is_declarers (to_play n.position) ≡ false → m ≡ moves)
    → tree_size bridge n moves ≡ 1 + sum_by (size_after n m) (choices n)
size_below n moves m sound off some less same =
    elim (cases_Bool (is_declarers (to_play n.position))) as (λ _. tree_size bridge n moves ≡ 1 + sum_by (size_after n m) (choices n)) [
      | inl o ↦ subst (λ k. tree_size bridge n moves ≡ 1 + sum_by (size_after n k) (choices n)) (sym (less o)) (size_ours n moves sound (live n moves off some) o)
      | inr t ↦ subst (λ k. tree_size bridge n moves ≡ 1 + sum_by (size_after n k) (choices n)) (sym (same t)) (size_theirs n moves sound (live n moves off some) t)
    ]

-- a card that isn't searched
pub paid_less : {n : NodeValue} {below card before after : ℕ} {cards rest : List ℕ} → HasPaid ⊥ n below cards before after → IsTaken cards card rest → HasPaid ⊥ n below rest before after
paid_less {n} {below} so taken = record {
  counts = λ each. absurd each;
  within = omega (arith, so.within, taken.sums (size_after n below));
  never_rises = so.never_rises;
}

-- an allocation fails once the node is paid for
pub memory_once : {T : Type 0} (n : NodeValue) (moves before after : ℕ) (result : Result T SearchFault) → IsErrAnd result (λ e. e ≡ Memory) → after + 1 ≡ before → Costs ⊥ (tree_size bridge n moves) before after result
memory_once n moves before after result is paid = let some = tree_size-positive n moves in costs_memory ⊥ (tree_size bridge n moves) before after result is (omega arith) (omega arith)
