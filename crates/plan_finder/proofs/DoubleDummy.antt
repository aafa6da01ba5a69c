-- What double dummy makes, beside a target and beside a vector.
use Rattle.std.proofs.Common.{◌≡◌, ◌∙◌, ◌+◌, ◌<◌, ◌≤◌, ℕ, zero, suc, true, false, Some, List, [], ◌∷◌, Contains, get_or, length, map, slice_get, refl, sym, subst, ⊎_elim, zero-add, arith}
use Rattle.win_vectors.specs.Fronts.{Vector, Covers, Dominates}
use Rattle.win_vectors.proofs.Orders.{Dominates-antisym}
use Rattle.trick_rules.specs.Play.{makes}
use Rattle.trick_rules.specs.Nodes.{NodeValue, IsNode, states}
use Rattle.strategy_games.specs.Plans.{IsFront}
use Rattle.strategy_games.proofs.Lists.{Contains-single}
use Rattle.strategy_games.specs.Choosing.{IsPick}
use Rattle.strategy_games.proofs.Fronts.{cases_Covers}
use Rattle.strategy_games.proofs.Vectors.{Dominates-trans}
use Rattle.strategy_tree.specs.Bridge.{bridge}
use Rattle.strategy_tree.proofs.BridgeLaws.{one_front, recursion, more_moves}
use Rattle.alphamu_core.specs.Judging.{makes_at}
use Rattle.alphamu_core.proofs.Judging.{at_least, length-results}
use Rattle.plan_finder.specs.Choices.{KeepsNone}
use Rattle.plan_finder.proofs.Picks.{own_pick}

-- results without a layout of the target don't dominate it
pub lost_not_above : (results target : Vector) (place : ℕ) → slice_get target place ≡ Some true → get_or results place false ≡ false → Dominates results target → ⊥
lost_not_above results [] place is lost above = absurd cc
lost_not_above [] (bit ∷ bits) place is lost above = elim above [ ]
lost_not_above (true ∷ results) (true ∷ bits) zero is lost above = absurd cc
lost_not_above (false ∷ results) (true ∷ bits) zero is lost above = absurd above.0
lost_not_above (made ∷ results) (false ∷ bits) zero is lost above = absurd cc
lost_not_above (made ∷ results) (bit ∷ bits) (suc place) is lost above = lost_not_above results bits place is lost above.1

-- no strategy wins more than double dummy makes
made_above : (n : NodeValue) (moves : ℕ) (front : List Vector) (u : Vector) → IsNode n → IsFront bridge n moves front → Contains front u → Dominates (map (λ s. makes s) (states n)) u
made_above n moves front u sound is among =
    let made : IsFront bridge n 0 (map (λ s. makes s) (states n) ∷ []) = recursion.at_stop n 0 refl in
    let at : IsFront bridge n (0 + moves) front = subst (λ m. IsFront bridge n m front) (sym (zero-add moves)) is in
    let w = more_moves.fewer n 0 moves front (map (λ s. makes s) (states n) ∷ []) sound at made u among in
    let same : map (λ s. makes s) (states n) ≡ w.0 = Contains-single (map (λ s. makes s) (states n)) w.0 w.1 in
    subst (λ v. Dominates v u) (sym same) w.2

pub lost_keeps_none : (n : NodeValue) (moves : ℕ) (target : Vector) → IsNode n → (Dominates (map (λ s. makes s) (states n)) target → ⊥) → KeepsNone n moves target
lost_keeps_none n moves target sound lost = λ front is above.
    lost (Dominates-trans (map (λ s. makes s) (states n)) above.0 target (made_above n moves front above.0 sound is above.1) above.2)

-- a vector that wins all that double dummy makes is the first above itself, if some vector of the front dominates it
pub made_pick : (n : NodeValue) (moves : ℕ) (target : Vector) → IsNode n → (KeepsNone n moves target → ⊥) → Dominates target (map (λ s. makes s) (states n)) → IsPick bridge n moves target target
made_pick n moves target sound kept wins =
    let f = one_front.exists n moves sound in
    ⊎_elim
    (λ (above : Covers f.0 target).
    let same : above.0 ≡ target = Dominates-antisym above.0 target above.2 (Dominates-trans target (map (λ s. makes s) (states n)) above.0 wins (made_above n moves f.0 above.0 sound f.1 above.1)) in
    own_pick n moves target (f.0, f.1, subst (λ u. Contains f.0 u) same above.1))
    (λ (none : Covers f.0 target → ⊥). absurd (kept (λ front is above. none (subst (λ (h : List Vector). Covers h target) (one_front.unique n moves front f.0 is f.1) above))))
    (cases_Covers f.0 target)

-- a vector with each of another's ones
dominates_by : (u v : Vector) → length u ≡ length v → ((i : ℕ) → i < length v → get_or v i false ≡ true → get_or u i false ≡ true) → Dominates u v
dominates_by [] [] e h = tt
dominates_by [] (b ∷ v) e h = absurd cc
dominates_by (a ∷ u) [] e h = absurd cc
dominates_by (a ∷ u) (b ∷ v) e h = (at_least a b (h 0 (omega arith)), dominates_by u v (omega arith) (λ i low there. h (suc i) (omega arith) there))

-- of the layouts at the places below a number, the vector wins each that double dummy makes
abbrev pub WinsMadeBelow : NodeValue → Vector → ℕ → Type 0
WinsMadeBelow n vector places = (i : ℕ) → i < places → makes_at n i ≡ true → get_or vector i false ≡ true

pub wins_made : (n : NodeValue) (vector : Vector) (places : ℕ) → length vector ≡ length n.lefts → length n.lefts ≤ places → WinsMadeBelow n vector places → Dominates vector (map (λ s. makes s) (states n))
wins_made n vector places wide all below =
    dominates_by vector (map (λ s. makes s) (states n)) (wide ∙ sym (length-results n)) (λ i low there. below i (omega (arith, length-results n, all)) there)
