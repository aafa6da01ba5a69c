-- The vector that a plan goes on with.
use Rattle.std.proofs.Common.{◌≡◌, ◌∙◌, ◌-◌, ◌+◌, ◌*◌, ◌<◌, ℕ, zero, suc, Bool, true, false, Option, None, Some, IsSome, Result, Ok, Err, IsErrAnd, IsErrOf, Contains, length, refl, sym, subst, inl, true≢false, arith}
use Rattle.win_vectors.specs.Fronts.{Vector, IsFirstAbove}
use Rattle.win_vectors.proofs.Orders.{Dominates-refl}
use Rattle.trick_rules.specs.Play.{cards_left}
use Rattle.trick_rules.specs.Nodes as nodes
use Rattle.trick_rules.specs.Nodes.{NodeValue, IsNode, choices, child}
use Rattle.trick_rules.proofs.PlayLaws as play
use Rattle.strategy_games.specs.Plans.{Plan, Stop, Play, Hear, stops, tree_size, CanWin}
use Rattle.strategy_games.specs.Choosing.{Keeps, IsFirstOf, IsPick, IsChosenPlan}
use Rattle.strategy_games.proofs.Fronts.{front_unique, first_above_unique}
use Rattle.strategy_games.proofs.Lists.{All-at, first_unique, first_is_member}
use Rattle.strategy_tree.specs.Bridge.{bridge}
use Rattle.strategy_tree.proofs.CardLists.{has_card-from_Contains}
use Rattle.strategy_tree.proofs.BridgeLaws.{one_front, sizes}
use Rattle.strategy_tree.proofs.BridgeNodes.{length-states, stops-bridge}
use Rattle.alphamu_core.proofs.OpenNodes.{fewer_cards}
use Rattle.plan_finder.specs.Targets.{IsOfFront}
use Rattle.plan_finder.specs.SpentPlans.{IsPlanSpentAt}
use Rattle.plan_finder.specs.Choices.{IsFirstChoice, IsChoiceSpentAt}
use Rattle.plan_finder.specs.declared.choice.Choice.{Choice}

-- a vector of the front has a bit for each layout
pub length-of_front : (n : NodeValue) (moves : ℕ) (vector : Vector) → IsOfFront n moves vector → length vector ≡ length n.lefts
length-of_front n moves vector of = All-at (λ v. length v ≡ length (bridge.states n)) of.0 (one_front.wide n moves of.0 of.1) vector of.2 ∙ length-states n

-- it is the first above itself
pub own_pick : (n : NodeValue) (moves : ℕ) (vector : Vector) → IsOfFront n moves vector → IsPick bridge n moves vector vector
own_pick n moves vector of = (
  of.0,
  of.1,
  record {
    member = of.2;
    above = Dominates-refl vector;
    first = λ w among over. inl (sym (of.1.apart w vector among of.2 over));
  },
)

pick_unique : (n : NodeValue) (moves : ℕ) (t u w : Vector) → IsPick bridge n moves t u → IsPick bridge n moves t w → u ≡ w
pick_unique n moves t u w a b = first_above_unique a.0 t u w a.2 (subst (λ f. IsFirstAbove f t w) (front_unique (CanWin bridge n moves) b.0 a.0 b.1 a.1) b.2)

-- what isn't none is something
pub some_picked : (pick : Option Vector) → (pick ≡ None → ⊥) → IsSome pick
some_picked None h = absurd (h refl)
some_picked (Some u) h = refl

-- what is picked is of the front
pub picked_of : (n : NodeValue) (moves : ℕ) (t u : Vector) → IsPick bridge n moves t u → IsOfFront n moves u
picked_of n moves t u pick = (pick.0, pick.1, pick.2.member)

-- the plan for what is picked is the plan for the target
pub chosen_for : (p : Plan ℕ) (n : NodeValue) (moves : ℕ) (t u : Vector) → IsPick bridge n moves t u → IsChosenPlan bridge p n moves u → IsChosenPlan bridge p n moves t
chosen_for Stop n moves t u pick h = h
chosen_for (Play c q) n zero t u pick h = h
chosen_for (Play c q) n (suc m) t u pick h =
    let same : u ≡ h.2 = pick_unique n (suc m) u u h.2 (own_pick n (suc m) u (picked_of n (suc m) t u pick)) h.3 in
    (h.0, h.1, h.2, subst (λ w. IsPick bridge n (suc m) t w) same pick, h.4, h.5)
chosen_for (Hear rs) n moves t u pick h =
    let same : u ≡ h.2 = pick_unique n moves u u h.2 (own_pick n moves u (picked_of n moves t u pick)) h.3 in
    (h.0, h.1, h.2, subst (λ w. IsPick bridge n moves t w) same pick, h.4, h.5)

-- ---- a card of declarer's side

-- the card and the plan after it
pub play_chosen : (n : NodeValue) (moves : ℕ) (t : Vector) (choice : Choice) (q : Plan ℕ) → stops bridge n moves ≡ false → bridge.is_ours n ≡ true → IsOfFront n moves t → IsFirstChoice n moves t choice
    → IsChosenPlan bridge q choice.child (moves - 1) choice.vector → IsChosenPlan bridge (Play choice.card q) n moves t
play_chosen n zero t choice q goes_on ours of first h = absurd (true≢false goes_on)
play_chosen n (suc m) t choice q goes_on ours of first h =
    let less : suc m - 1 ≡ m = omega arith in
    let here : IsChosenPlan bridge q (child n choice.card) (suc m - 1) choice.vector = subst (λ (x : NodeValue). IsChosenPlan bridge q x (suc m - 1) choice.vector) first.after h in
    let rest : IsChosenPlan bridge q (child n choice.card) m t = subst (λ k. IsChosenPlan bridge q (child n choice.card) k t) less (chosen_for q (child n choice.card) (suc m - 1) t choice.vector first.goes_on_with here) in
    (goes_on, ours, t, own_pick n (suc m) t of, subst (λ k. IsFirstOf (Keeps bridge n k t) (choices n) choice.card) less first.first, rest)

-- the card that a chosen plan begins with
pub first_of_plan : (n : NodeValue) (moves : ℕ) (t : Vector) (first : ℕ) (rest : Plan ℕ) → IsOfFront n moves t → IsChosenPlan bridge (Play first rest) n moves t → IsFirstOf (Keeps bridge n (moves - 1) t) (choices n) first
first_of_plan n zero t first rest of h = absurd h
first_of_plan n (suc m) t first rest of h =
    let less : m ≡ suc m - 1 = omega arith in
    let same : h.2 ≡ t = pick_unique n (suc m) t h.2 t h.3 (own_pick n (suc m) t of) in
    subst (λ k. IsFirstOf (Keeps bridge n k t) (choices n) first) less (subst (λ u. IsFirstOf (Keeps bridge n m u) (choices n) first) same h.4)

-- ---- trees that are too large

pub too_large_first : (n : NodeValue) (moves : ℕ) (t : Vector) (nodes card : ℕ) → stops bridge n moves ≡ false → IsOfFront n moves t → IsChoiceSpentAt n moves t nodes card → IsPlanSpentAt n moves t nodes card
too_large_first n moves t nodes card goes_on of spent = record {
  goes_on = goes_on;
  choice = spent.choice;
  larger = spent.larger;
  not_after = λ first rest h. spent.not_after first (first_of_plan n moves t first rest of h);
}

pub too_large_below : (n : NodeValue) (moves : ℕ) (t : Vector) (nodes : ℕ) (choice : Choice) → stops bridge n moves ≡ false → IsOfFront n moves t → IsFirstChoice n moves t choice
    → nodes < tree_size bridge choice.child (moves - 1) → IsPlanSpentAt n moves t nodes choice.card
too_large_below n moves t nodes choice goes_on of chosen larger = record {
  goes_on = goes_on;
  choice = first_is_member (Keeps bridge n (moves - 1) t) (choices n) choice.card chosen.first;
  larger = subst (λ (m : NodeValue). nodes < tree_size bridge m (moves - 1)) chosen.after larger;
  not_after = λ first rest h.
      let same = first_unique (Keeps bridge n (moves - 1) t) (choices n) choice.card first chosen.first (first_of_plan n moves t first rest of h) in
      omega arith;
}

-- the node's own tree is larger still
pub larger_than : (n : NodeValue) (moves : ℕ) (t : Vector) (nodes card : ℕ) → IsNode n → bridge.is_ours n ≡ true → IsPlanSpentAt n moves t nodes card → nodes < tree_size bridge n moves
larger_than n zero t nodes card sound ours large = absurd (true≢false large.goes_on)
larger_than n (suc m) t nodes card sound ours large =
    let less : suc m - 1 ≡ m = omega arith in
    let below = subst (λ k. nodes < tree_size bridge (child n card) k) less large.larger in
    let part = sizes.declarers_child n m card sound large.goes_on ours large.choice in
    omega arith

-- ---- a node where play goes on

pub open_at : (n : NodeValue) (moves : ℕ) (stop : Bool) → stop ≡ nodes.stops n moves → stop ≡ false → stops bridge n moves ≡ false
open_at n moves stop e off = stops-bridge n moves ∙ sym e ∙ off

-- the node after the first choice, and what the plan goes on with there
module _ (n : NodeValue) (moves : ℕ) (t : Vector) (choice : Choice) (first : IsFirstChoice n moves t choice) where
  chosen_card : Contains (choices n) choice.card
  chosen_card = first_is_member (Keeps bridge n (moves - 1) t) (choices n) choice.card first.first

  pub node_after : IsNode n → IsNode choice.child
  node_after sound = subst (λ (m : NodeValue). IsNode m) (sym first.after) (play.a_choice_leads_to_a_node n choice.card sound (has_card-from_Contains (choices n) choice.card chosen_card))

  pub fewer_after : IsNode n → 2 * cards_left choice.child.position + 1 < 2 * cards_left n.position
  fewer_after sound = fewer_cards n choice.child choice.card sound chosen_card first.after

  pub vector_after : IsOfFront choice.child (moves - 1) choice.vector
  vector_after = subst (λ (m : NodeValue). IsOfFront m (moves - 1) choice.vector) (sym first.after) (picked_of (child n choice.card) (moves - 1) t choice.vector first.goes_on_with)

-- the error that `?` passes on
pub passed_on : {T E : Type 0} (result : Result T E) (fault named : E) → IsErrAnd result (λ e. e ≡ fault) → IsErrOf result named → fault ≡ named
passed_on (Ok x) fault named is e = absurd is
passed_on (Err e) fault named is same = sym is ∙ (let inner : e ≡ named = cc in inner)
