-- A node with one layout: nothing is hidden, so some strategy wins what double dummy makes.
use Rattle.std.proofs.Common.{◌≡◌, ◌∙◌, ◌≤◌, ℕ, zero, suc, Bool, true, false, List, [], ◌∷◌, ◌++◌, Contains, length, map, refl, sym, ap, subst, arith, filter, true≢false}
use Rattle.std.specs.List.{list_all}
use Rattle.std.proofs.lemmas.List.Folds.{list_all-append}
use Rattle.std.proofs.lemmas.List.Elements.{All-contains}
use Rattle.card_sets.specs.SetWords.{has_card}
use Rattle.win_vectors.specs.Vectors.{ones_of}
use Rattle.win_vectors.specs.Fronts.{Vector, Dominates}
use Rattle.pareto_fronts.specs.FrontValue.{FrontValue}
use Rattle.trick_rules.specs.Positions.{State, IsState, to_play}
use Rattle.trick_rules.specs.Play.{after, is_declarers, is_over, legal_in, makes, Makes}
use Rattle.trick_rules.specs.Play.Makes.{ended, some_card, each_card}
use Rattle.trick_rules.specs.Nodes.{NodeValue, IsNode, states, choices, child, child_mask}
use Rattle.trick_rules.proofs.PlayLaws as play
use Rattle.strategy_games.specs.Plans.{Plan, Replies, Stop, Play, Hear, NoReply, Reply, cards_of, stops, FitEach, ends, ends_each, wins, wins_vector, CanWin, IsFront}
use Rattle.strategy_games.proofs.Lists.{Contains-here, Contains-there}
use Rattle.strategy_games.proofs.Fronts.{front_single}
use Rattle.strategy_tree.specs.Bridge.{bridge}
use Rattle.strategy_tree.proofs.CardLists.{has_card-from_Contains, Contains-from_has_card}
use Rattle.strategy_tree.proofs.Rules.{table_of, going_on}
use Rattle.strategy_tree.proofs.BridgeNodes.{length-states, mask-bridge, some_layout}
use Rattle.front_table.specs.Proven.{IsFrontAt}
use Rattle.alphamu_core.proofs.Bounds.{front_lost}
use Rattle.alphamu_core.proofs.Judging.{length-results}

-- what holds where plans stop and where they go on
by_cases : {A : Type 0} (n : NodeValue) (moves : ℕ) → (stops bridge n moves ≡ true → A) → ((less : ℕ) → moves ≡ suc less → bridge.is_decided n ≡ false → A) → A
by_cases n zero stop go = stop refl
by_cases {A} n (suc less) stop go = at (bridge.is_decided n) refl
  where
    at : (b : Bool) → bridge.is_decided n ≡ b → A
    at true is = stop is
    at false is = go less refl is

-- ---- a node with one layout

module _ (n : NodeValue) (s : State) (sound : IsNode n) (one : states n ≡ s ∷ []) where
  among : Contains (states n) s
  among = subst (λ ss. Contains ss s) (sym one) (Contains-here s [])

  -- a choice is legal in it
  only_legal : (card : ℕ) → has_card (choices n) card ≡ true → has_card (legal_in s) card ≡ true
  only_legal card choice = go (has_card (legal_in s) card) refl
    where
      bits : child_mask n card ≡ has_card (legal_in s) card ∷ []
      bits = sym (mask-bridge n card) ∙ ap (λ ss. map (λ s. has_card (legal_in s) card) ss) one

      go : (b : Bool) → has_card (legal_in s) card ≡ b → b ≡ true
      go true is = refl
      go false is =
          let none : child_mask n card ≡ false ∷ [] = bits ∙ ap (λ (b : Bool). b ∷ []) is in
          let some : 1 ≤ ones_of (false ∷ []) = subst (λ (v : Vector). 1 ≤ ones_of v) none (some_layout n card sound choice) in
          absurd (omega (arith, some))

  -- the child has one layout too
  child_one : (card : ℕ) → has_card (legal_in s) card ≡ true → states (child n card) ≡ after s card ∷ []
  child_one card legal =
      play.a_child_keeps_the_states n card ∙ ap (λ ss. map (λ s. after s card) (filter (λ s. has_card (legal_in s) card) ss)) one ∙ kept
    where
      kept : map (λ s. after s card) (filter (λ s. has_card (legal_in s) card) (s ∷ [])) ≡ after s card ∷ []
      kept = rw legal refl

  -- what a plan wins
  wins_one : (p : Plan ℕ) → wins_vector bridge p n ≡ wins bridge p s ∷ []
  wins_one p = ap (λ ss. map (λ s. wins bridge p s) ss) one

  state_here : IsState s
  state_here = All-contains (λ s. IsState s) (states n) s (play.a_layout_gives_a_state n sound) among

  made : Makes s → makes s ≡ true
  made d = (play.makes_by_the_rules s state_here).1 d

  stopped_here : (moves : ℕ) → makes s ≡ true → stops bridge n moves ≡ true → CanWin bridge n moves (true ∷ [])
  stopped_here moves made stop = (Stop, stop, wins_one Stop ∙ ap (λ (b : Bool). b ∷ []) here)
    where
      here : list_all (λ e. makes e) (s ∷ []) ≡ true
      here = rw made refl

-- what a plan that wins the one layout wins in it
pub won_one : (n : NodeValue) (s : State) (one : states n ≡ s ∷ []) (p : Plan ℕ) → wins_vector bridge p n ≡ true ∷ [] → wins bridge p s ≡ true
won_one n s one p all = first (sym (ap (λ ss. map (λ s. wins bridge p s) ss) one) ∙ all)
  where
    first : {b : Bool} → b ∷ [] ≡ true ∷ [] → b ≡ true
    first {b} e = cc

-- what can be won after each legal card
abbrev IsWonAfter : State → Type 0
IsWonAfter s = (card : ℕ) → has_card (legal_in s) card ≡ true → (m : NodeValue) (moves : ℕ) → IsNode m → states m ≡ after s card ∷ [] → CanWin bridge m moves (true ∷ [])

-- a plan for each of some cards of a defender
replies_to : (n : NodeValue) (s : State) → IsNode n → states n ≡ s ∷ [] → (moves : ℕ) → IsWonAfter s → (cards : List ℕ) → ((card : ℕ) → Contains cards card → Contains (choices n) card)
    → (rs : Replies ℕ) × (cards_of rs ≡ cards) × FitEach bridge rs n moves × (list_all (λ e. makes e) (ends_each bridge rs s) ≡ true)
replies_to n s sound one moves each [] within = (NoReply, refl, tt, refl)
replies_to n s sound one moves each (card ∷ cards) within =
    let choice = has_card-from_Contains (choices n) card (within card (Contains-here card cards)) in
    let legal = only_legal n s sound one card choice in
    let below = child_one n s sound one card legal in
    let q = each card legal (child n card) moves (play.a_choice_leads_to_a_node n card sound choice) below in
    let rest = replies_to n s sound one moves each cards (λ other h. within other (Contains-there card cards other h)) in
    let here : list_all (λ e. makes e) (ends bridge q.0 (after s card)) ≡ true = won_one (child n card) (after s card) below q.0 q.2 in
    let all : list_all (λ e. makes e) (ends bridge q.0 (after s card) ++ ends_each bridge rest.0 s) ≡ true =
    list_all-append (λ e. makes e) (ends bridge q.0 (after s card)) (ends_each bridge rest.0 s) ∙ rw (here, rest.3) refl in
    (Reply card q.0 rest.0, ap (λ cs. card ∷ cs) rest.1, (q.1, rest.2), rw legal all)

by_card : (n : NodeValue) (s : State) (less card : ℕ) → IsNode n → states n ≡ s ∷ [] → bridge.is_decided n ≡ false → bridge.is_ours n ≡ true → has_card (legal_in s) card ≡ true
    → ((m : NodeValue) (moves : ℕ) → IsNode m → states m ≡ after s card ∷ [] → CanWin bridge m moves (true ∷ [])) → CanWin bridge n (suc less) (true ∷ [])
by_card n s less card sound one live ours legal won =
    let choice = play.what_is_legal_is_a_choice n card s sound (among n s sound one) legal in
    let below = child_one n s sound one card legal in
    let q = won (child n card) less (play.a_choice_leads_to_a_node n card sound choice) below in (
      Play card q.0,
      (live, ours, Contains-from_has_card (choices n) card choice, q.1),
      wins_one n s sound one (Play card q.0) ∙ ap (λ (b : Bool). b ∷ []) (won_one (child n card) (after s card) below q.0 q.2),
    )

by_replies : (n : NodeValue) (s : State) (less : ℕ) → IsNode n → states n ≡ s ∷ [] → bridge.is_decided n ≡ false → bridge.is_ours n ≡ false → IsWonAfter s → CanWin bridge n (suc less) (true ∷ [])
by_replies n s less sound one live theirs each =
    let rs = replies_to n s sound one (suc less) each (choices n) (λ card h. h) in
    (Hear rs.0, (live, theirs, rs.1, rs.2), wins_one n s sound one (Hear rs.0) ∙ ap (λ (b : Bool). b ∷ []) rs.3)

-- what double dummy makes is won with any number of moves
pub won_in_one : {s : State} → Makes s → (n : NodeValue) (moves : ℕ) → IsNode n → states n ≡ s ∷ [] → CanWin bridge n moves (true ∷ [])
won_in_one {s} (ended over none) n moves sound one =
    let over_here : is_over n.position ≡ true = subst (λ t. is_over t ≡ true) (table_of n s (among n s sound one)) over in
    by_cases n moves (stopped_here n s sound one moves (made n s sound one (ended over none)))
    (λ less e live. absurd (true≢false (sym over_here ∙ going_on n.position live)))
won_in_one {s} (some_card going ours card legal more) n moves sound one =
    let ours_here : bridge.is_ours n ≡ true = subst (λ t. is_declarers (to_play t) ≡ true) (table_of n s (among n s sound one)) ours in
    by_cases n moves (stopped_here n s sound one moves (made n s sound one (some_card going ours card legal more)))
    (λ less e live. subst (λ k. CanWin bridge n k (true ∷ [])) (sym e) (by_card n s less card sound one live ours_here legal (λ m k. won_in_one more m k)))
won_in_one {s} (each_card going theirs each) n moves sound one =
    let theirs_here : bridge.is_ours n ≡ false = subst (λ t. is_declarers (to_play t) ≡ false) (table_of n s (among n s sound one)) theirs in
    by_cases n moves (stopped_here n s sound one moves (made n s sound one (each_card going theirs each)))
    (λ less e live. subst (λ k. CanWin bridge n k (true ∷ [])) (sym e) (by_replies n s less sound one live theirs_here (λ card legal m k. won_in_one (each card legal) m k)))

-- ---- the front

the_state : (ss : List State) → length ss ≡ 1 → (s : State) × (ss ≡ s ∷ [])
the_state [] e = absurd cc
the_state (s ∷ []) e = (s, refl)
the_state (s ∷ t ∷ ss) e = absurd (omega arith)

-- double dummy's result is the front with any number of moves
pub front_one : (n : NodeValue) → IsNode n → (front : FrontValue) (moves : ℕ) (results : Vector) → results ≡ map (λ s. makes s) (states n) → front.vectors ≡ results ∷ [] → front.width ≡ length results
    → length n.lefts ≡ 1 → IsFrontAt n moves front
front_one n sound front moves results are only width few = go (makes s) refl
  where
    state : (s : State) × (states n ≡ s ∷ [])
    state = the_state (states n) (length-states n ∙ few)

    s : State
    s = state.0

    one : states n ≡ s ∷ []
    one = state.1

    bit : results ≡ makes s ∷ []
    bit = are ∙ ap (λ ss. map (λ s. makes s) ss) one

    above : (v : Vector) → CanWin bridge n moves v → Dominates (true ∷ []) v
    above v can = subst (λ v. Dominates (true ∷ []) v) (sym (wins_one n s sound one can.0) ∙ can.2) (tt, tt)

    go : (b : Bool) → makes s ≡ b → IsFrontAt n moves front
    go true is = record {
      front = subst (λ vs. IsFront bridge n moves vs) (sym (only ∙ ap (λ (v : Vector). v ∷ []) (bit ∙ ap (λ (b : Bool). b ∷ []) is)))
          (front_single (CanWin bridge n moves) (true ∷ []) (won_in_one ((play.makes_by_the_rules s (state_here n s sound one)).0 is) n moves sound one) above);
      width = width ∙ ap (λ (v : Vector). length v) are ∙ length-results n;
    }
    go false is = front_lost n sound front moves results are only width (ap ones_of (bit ∙ ap (λ (b : Bool). b ∷ []) is))
