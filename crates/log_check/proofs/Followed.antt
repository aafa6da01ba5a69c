-- A path that is followed card by card.
use Rattle.std.proofs.Common.{◌≡◌, ◌+◌, ◌<◌, ◌∙◌, ℕ, suc, true, false, Some, List, [], ◌∷◌, length, drop, get_or, refl, sym, ap, subst, arith}
use Rattle.std.specs.Prelude.{slice_get}
use Rattle.std.proofs.lemmas.Bool.{false≢true}
use Rattle.std.proofs.lemmas.Option.{get_or_from_slice_get}
use Rattle.std.proofs.Math.Seq.{drop-cons}
use Rattle.card_sets.specs.SetWords.{has_card}
use Rattle.trick_rules.specs.Nodes.{NodeValue, choices, child}
use Rattle.strategy_tree.proofs.CardLists.{has_card-from_Contains, Contains-from_has_card}
use Rattle.log_check.specs.Logs.{IsPath, node_after, our_cards}
use Rattle.log_check.specs.Steps.{CanFollow, IsFollowed}
use Rattle.log_check.proofs.PathNodes.{our_turn}

-- ---- one card

pub step : (n kept : NodeValue) (moves left card cost : ℕ) → cost ≡ our_turn n → has_card (choices n) card ≡ true → kept ≡ child n card
    → left + cost ≡ moves → IsFollowed n moves (card ∷ []) kept left
step n kept moves left card cost is has kept_is total = record {
  path_is = (Contains-from_has_card (choices n) card has, tt);
  node_is = kept_is;
  left_is = omega arith;
}

pub no_choice : (n : NodeValue) (moves card : ℕ) → has_card (choices n) card ≡ false → CanFollow n moves (card ∷ []) → ⊥
no_choice n moves card not can = false≢true (sym not ∙ has_card-from_Contains (choices n) card can.0.0)

pub no_move : (n : NodeValue) (moves card cost : ℕ) → cost ≡ our_turn n → moves < cost → CanFollow n moves (card ∷ []) → ⊥
no_move n moves card cost is few can = let enough = can.1 in omega arith

-- ---- the cards so far

-- what is left to be followed, from a node with this many moves left
pub record IsUnderWay (n : NodeValue) (moves : ℕ) (path : List ℕ) (node : NodeValue) (left : ℕ) (rest : List ℕ) : Type 0 where
  pub path_from : IsPath node rest → IsPath n path
  pub path_to : IsPath n path → IsPath node rest
  pub leads : node_after n path ≡ node_after node rest
  pub count : left + our_cards n path ≡ moves + our_cards node rest

pub start : (n node : NodeValue) (moves : ℕ) (path : List ℕ) → node ≡ n → IsUnderWay n moves path node moves path
start n node moves path is = subst (λ (k : NodeValue). IsUnderWay n moves path k moves path) (sym is)
    (record { path_from = λ h. h; path_to = λ h. h; leads = refl; count = refl })

pub goes_on : (n : NodeValue) (moves : ℕ) (path : List ℕ) (node kept : NodeValue) (left less card : ℕ) (rest next : List ℕ)
    → IsUnderWay n moves path node left rest → rest ≡ card ∷ next → IsFollowed node left (card ∷ []) kept less
    → IsUnderWay n moves path kept less next
goes_on n moves path node kept left less card rest next way is step =
    let w = subst (λ (r : List ℕ). IsUnderWay n moves path node left r) is way in
    let total = w.count in
    let turn = step.left_is in
    subst (λ (k : NodeValue). IsUnderWay n moves path k less next) (sym step.node_is)
    (record {
      path_from = λ h. w.path_from (step.path_is.0, h);
      path_to = λ h. (w.path_to h).1;
      leads = w.leads;
      count = omega arith;
    })

pub stuck : (n : NodeValue) (moves : ℕ) (path : List ℕ) (node : NodeValue) (left card : ℕ) (rest next : List ℕ)
    → IsUnderWay n moves path node left rest → rest ≡ card ∷ next → (CanFollow node left (card ∷ []) → ⊥) → CanFollow n moves path → ⊥
stuck n moves path node left card rest next way is never can =
    let w = subst (λ (r : List ℕ). IsUnderWay n moves path node left r) is way in
    let total = w.count in
    let enough = can.1 in
    never (((w.path_to can.0).0, tt), omega arith)

pub arrived : (n : NodeValue) (moves : ℕ) (path : List ℕ) (node : NodeValue) (left : ℕ) (rest : List ℕ)
    → IsUnderWay n moves path node left rest → rest ≡ [] → IsFollowed n moves path node left
arrived n moves path node left rest way is =
    let w = subst (λ (r : List ℕ). IsUnderWay n moves path node left r) is way in
    let total = w.count in
    record { path_is = w.path_from tt; node_is = sym w.leads; left_is = omega arith }

-- the card at a place, and those after it
pub card_at : (path : List ℕ) (place card : ℕ) → place < length path → slice_get path place ≡ Some card → drop place path ≡ card ∷ drop (place + 1) path
card_at path place card low at =
    let next : suc place ≡ place + 1 = omega arith in
    drop-cons path place 0 low ∙ ap (λ k. get_or path place 0 ∷ drop k path) next
    ∙ ap (λ x. x ∷ drop (place + 1) path) (get_or_from_slice_get path place card 0 at)
