-- A node of bridge cut down to the layouts that double dummy makes.
use Rattle.std.proofs.Common.{◌≡◌, ◌∙◌, ◌<◌, ◌≤◌, ℕ, Bool, true, false, List, [], ◌∷◌, Contains, length, map, refl, sym, ap, subst, true≢false, ⊎_elim, arith}
use Rattle.std.proofs.lemmas.Bool.{cases_lt}
use Rattle.win_vectors.specs.Vectors.{ones_of}
use Rattle.win_vectors.specs.Fronts.{Vector, IsReduced, Dominates}
use Rattle.trick_rules.specs.Positions.{PositionValue}
use Rattle.trick_rules.specs.Play.{makes}
use Rattle.trick_rules.specs.Nodes.{NodeValue, IsNode, states, child}
use Rattle.strategy_games.specs.Plans.{tree_size}
use Rattle.strategy_games.proofs.Lists.{Contains-here, Contains-there, Contains-nil, Contains-cons}
use Rattle.strategy_games.proofs.Vectors.{Dominates-refl}
use Rattle.strategy_tree.specs.Bridge.{bridge}
use Rattle.strategy_tree.proofs.BridgeNodes.{length-states}
use Rattle.strategy_tree.proofs.Rules.{lawful, double_dummy}
use Rattle.alphamu_core.specs.Kept.{AreEnough}
use Rattle.alphamu_core.specs.Parts.{part_of, filled_of, AreSomeLayouts}
use Rattle.alphamu_core.specs.declared.known.Known.TheVariants as Known
use Rattle.alphamu_core.proofs.Inherited.{only_one, known_part, known_theirs, known_ours}
use Rattle.alphamu_core.proofs.Parts.{IsPart, left_out, is_part, part_sound, states-part, smaller, length-picked}
use Rattle.pareto_fronts.specs.FrontValue.{FrontValue}
use Rattle.assured_games.specs.Assured.{IsAssured, IsAssuredFront}
use Rattle.assured_games.specs.Made.{LeavesOut}
use Rattle.assured_games.proofs.Made.{within_made, lost_out}
use Rattle.sure_nodes.specs.SureNodes.{is_sure, is_sure_node}
use Rattle.sure_nodes.proofs.PlayedOut.{played_out}
use Rattle.sure_nodes.proofs.SureBridge.{sure_of_all}
use Rattle.assured_fronts.specs.AssuredAt.{IsAssuredAt, AllMade, Settles, claims}
use Rattle.assured_fronts.proofs.Leaves.{made_wide, same_front, at_claim}

-- ---- where one layout at most is made

some_one : {S : Type 0} (F : S → Bool) (ss : List S) (s : S) → Contains ss s → F s ≡ true → 1 ≤ ones_of (map F ss)
some_one F [] s k e = absurd (Contains-nil s k)
some_one {S} F (x ∷ ss) s k e = go (F x) refl (λ later. some_one F ss s later e)
  where
    go : (b : Bool) → F x ≡ b → (Contains ss s → 1 ≤ ones_of (map F ss)) → 1 ≤ ones_of (b ∷ map F ss)
    go true is below = omega arith
    go false is below = ⊎_elim
        (λ (same : x ≡ s). absurd (true≢false (sym e ∙ ap F (sym same) ∙ is)))
        (λ (later : Contains ss s). let some = below later in omega arith)
        (Contains-cons x ss s k)

-- a member of the list, and the test holds of no other
abbrev IsOnly : {S : Type 0} → (S → Bool) → List S → Type 0
IsOnly {S} F ss = (t : S) × Contains ss t × ((s : S) → Contains ss s → F s ≡ true → t ≡ s)

-- if it holds of one member at most, there is such a member
the_one : {S : Type 0} (F : S → Bool) (ss : List S) → 1 ≤ length ss → ones_of (map F ss) < 2 → IsOnly F ss
the_one F [] some few = absurd (omega arith)
the_one {S} F (x ∷ ss) some few = go (F x) refl few (λ more low. the_one F ss more low)
  where
    -- the first one, if it holds of no later one
    first : ((s : S) → Contains ss s → F s ≡ true → ⊥) → IsOnly F (x ∷ ss)
    first none = (x, Contains-here x ss, λ s k e. ⊎_elim (λ (same : x ≡ s). same) (λ (later : Contains ss s). absurd (none s later e)) (Contains-cons x ss s k))

    go : (b : Bool) → F x ≡ b → ones_of (b ∷ map F ss) < 2 → (1 ≤ length ss → ones_of (map F ss) < 2 → IsOnly F ss) → IsOnly F (x ∷ ss)
    go true is low below = first (λ s later e. let one = some_one F ss s later e in omega arith)
    go false is low below = ⊎_elim
        (λ (none : length ss < 1). first (λ s later e. (let place : later.0 < length ss = later.1 in omega arith)))
        (λ (more : 1 ≤ length ss).
        let r = below more (omega (arith, low)) in (
          r.0,
          Contains-there x ss r.0 r.1,
          λ s k e. ⊎_elim
              (λ (same : x ≡ s). absurd (true≢false (sym e ∙ ap F (sym same) ∙ is)))
              (λ (later : Contains ss s). r.2 s later e)
              (Contains-cons x ss s k),
        ))
        (cases_lt (length ss) 1)

at_few : (n : NodeValue) (moves : ℕ) (made : Vector) → IsNode n → made ≡ map (λ s. makes s) (states n) → ones_of made < 2 → IsAssuredFront bridge is_sure_node n moves (made ∷ [])
at_few n moves made sound are few =
    let some : 1 ≤ length (states n) = subst (λ (k : ℕ). 1 ≤ k) (sym (length-states n)) sound.some in
    let t = the_one (λ s. makes s) (states n) some (subst (λ (v : Vector). ones_of v < 2) are few) in
    subst (λ v. IsAssuredFront bridge is_sure_node n moves (v ∷ [])) (sym are)
    ((within_made bridge is_sure_node IsNode lawful double_dummy played_out sure_of_all).one_made n moves t.0 sound (t.1, t.2))

pub at_settled : (n : NodeValue) (moves : ℕ) (made : Vector) (front : List Vector) → IsNode n → made ≡ map (λ s. makes s) (states n) → Settles n made → IsReduced (made ∷ []) front → IsAssuredFront bridge is_sure_node n moves front
at_settled n moves made front sound are settled reduced = same_front (IsAssured bridge is_sure_node n moves) (made ∷ []) front
    (⊎_elim (λ (ends : claims n ≡ true). at_claim n moves made sound ends are) (λ (few : ones_of made < 2). at_few n moves made sound are few) settled) reduced

-- ---- without the layouts that are lost

leaves_out : LeavesOut bridge IsNode is_sure_node IsPart
leaves_out = record {
  layouts = left_out.layouts;
  some_layout = left_out.some_layout;
  choice = left_out.choice;
  turn = left_out.turn;
  decided = left_out.decided;
  is_sure = λ k n part. ap (λ (t : PositionValue). is_sure t) part.position;
  child = left_out.child;
}

-- its layouts are made, and made still after a defender's card
pub part_made : (n : NodeValue) (made : Vector) (part : NodeValue) → part ≡ part_of n made → made ≡ map (λ s. makes s) (states n) → AllMade part
part_made n made part is are = subst (λ (k : NodeValue). AllMade k) (sym is) (known_part n made are)

pub made_after : (n : NodeValue) (card : ℕ) → IsNode n → bridge.is_decided n ≡ false → bridge.is_ours n ≡ false → (m : NodeValue) → m ≡ child n card → AllMade n → AllMade m
made_after n card sound live theirs m is each = known_theirs n card sound live theirs m Known.AllMade is each

-- declarer's side claims there as it does with all layouts
pub part_goes_on : (n : NodeValue) (made : Vector) (part : NodeValue) → part ≡ part_of n made → claims n ≡ false → claims part ≡ false
part_goes_on n made part is off = ap (λ (k : NodeValue). claims k) is ∙ off

module _ (n : NodeValue) (sound : IsNode n) (made : Vector) (are : made ≡ map (λ s. makes s) (states n)) (some : 1 ≤ ones_of made) {part : NodeValue} (is_part_of : part ≡ part_of n made) where
  layouts : AreSomeLayouts n made
  layouts = record { a_node = sound; width = made_wide n made are; some = some }

  pub part_width : length part.lefts ≡ ones_of made
  part_width = ap (λ (k : NodeValue). length k.lefts) is_part_of ∙ length-picked made n.lefts (made_wide n made are)

  -- the rest of the node has no larger a tree,
  pub part_size : (moves : ℕ) → tree_size bridge part moves ≤ tree_size bridge n moves
  part_size moves = subst (λ k. tree_size bridge k moves ≤ tree_size bridge n moves) (sym is_part_of) (smaller (part_of n made) n (part_sound n made layouts) sound (is_part n made) moves)

  -- and its front, filled, is the node's
  pub filled_front : (moves : ℕ) (front whole : FrontValue) → IsAssuredAt part moves front → whole.width ≡ length made → IsReduced (map (λ v. filled_of v made) front.vectors) whole.vectors → IsAssuredAt n moves whole
  filled_front moves front whole found width reduced = record {
    front = lost_out bridge is_sure_node IsNode lawful double_dummy played_out sure_of_all IsPart leaves_out (part_of n made) n moves made front.vectors whole.vectors
        (part_sound n made layouts) sound (is_part n made) (made_wide n made are ∙ sym (length-states n)) (states-part n made)
        (subst (λ (v : Vector). Dominates made v) are (Dominates-refl made))
        (subst (λ k. IsAssuredFront bridge is_sure_node k moves front.vectors) is_part_of found.front) reduced;
    width = width ∙ made_wide n made are;
  }

-- declarer's side has one card to try
pub made_after_one : (n : NodeValue) (cards : List ℕ) (card : ℕ) → IsNode n → bridge.is_decided n ≡ false → bridge.is_ours n ≡ true → AreEnough n cards → length cards ≡ 1 → Contains cards card
    → AllMade n → AllMade (child n card)
made_after_one n cards card sound live ours enough one tried each =
    known_ours n sound live ours cards card enough tried (λ other among. only_one cards one card other tried among) Known.AllMade each
