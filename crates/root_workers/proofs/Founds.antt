-- What a round found so far of the root cards.
use Rattle.std.proofs.Common.{◌≡◌, ◌∙◌, ◌-◌, ◌⊎◌, ℕ, zero, suc, Some, Result, Ok, Err, List, [], ◌∷◌, ◌++◌, length, take, slice_get, inl, inr, refl, sym, ap, subst, arith}
use Rattle.std.specs.Prelude.{IfOk}
use Rattle.std.proofs.lemmas.Option.{slice_get_within}
use Rattle.win_vectors.specs.Fronts.{Vector, IsFrontOf}
use Rattle.trick_rules.specs.Nodes.{NodeValue, choices, child}
use Rattle.strategy_games.specs.Joins.{WinsByCard}
use Rattle.strategy_tree.specs.Bridge.{bridge}
use Rattle.alphamu_core.specs.declared.answers.Found.{Found}
use Rattle.alphamu_core.specs.declared.answers.Found.TheVariants.{Exact, Below}
use Rattle.alphamu_core.specs.Findings.{IsFound}
use Rattle.root_workers.specs.Roots.{AreEnough}
use Rattle.root_workers.specs.declared.rounds.RoundFront.{RoundFront}
use Rattle.root_workers.specs.Founds.{IsFoundAfter, IsFoundAt, AreFound}
use Rattle.root_workers.proofs.Covered.{covered_before}

-- an element of a list with one more at its end
pub get_push : {X : Type 0} (xs : List X) (y : X) (i : ℕ) (x : X) → slice_get (xs ++ y ∷ []) i ≡ Some x → (slice_get xs i ≡ Some x) ⊎ ((i ≡ length xs) × (y ≡ x))
get_push [] y zero x e = inr (refl, let same : Some y ≡ Some x = e in cc)
get_push [] y (suc i) x e = absurd (let within = slice_get_within (y ∷ []) (suc i) x e in omega arith)
get_push (z ∷ xs) y zero x e = inl e
get_push (z ∷ xs) y (suc i) x e = elim (get_push xs y i x e) [
  | inl old ↦ inl old
  | inr (at, is) ↦ inr (ap suc at, is)
]

module _ (n : NodeValue) (moves : ℕ) (cuts : Type 0) where
  -- each card so far
  abbrev pub AreFoundSoFar : List Found → Type 0
  AreFoundSoFar founds = (place : ℕ) (found : Found) → slice_get founds place ≡ Some found → IsFoundAt n moves cuts place found

  pub none_found : AreFoundSoFar []
  none_found place found e = absurd (let within = slice_get_within [] place found e in omega arith)

  pub found_more : (founds now : List Found) (found : Found) → now ≡ founds ++ found ∷ [] → AreFoundSoFar founds → IsFoundAt n moves cuts (length founds) found → AreFoundSoFar now
  found_more founds now found pushed so_far here place other e =
      elim (get_push founds found place other (subst (λ (fs : List Found). slice_get fs place ≡ Some other) pushed e)) [
        | inl old ↦ so_far place other old
        | inr (at, is) ↦ subst (λ k. IsFoundAt n moves cuts k other) (sym at) (subst (λ f. IsFoundAt n moves cuts (length founds) f) is here)
      ]

  -- what was found of a card by the front of the cards before it
  pub found_after : (place card : ℕ) (front : List Vector) (found : Found) → slice_get (choices n) place ≡ Some card
      → IsFrontOf (WinsByCard bridge n (moves - 1) (take place (choices n))) front → IsFound (child n card) (moves - 1) front found
      → (found ≡ Below → cuts) → IsFoundAt n moves cuts place found
  found_after place card front (Exact won) here is found cut = record { card = card; here = here; found_is = found }
  found_after place card front Below here is found cut =
      record { card = card; here = here; found_is = (covered_before n moves (take place (choices n)) card front is.reached found, cut refl) }

  -- each card was found
  pub all_found : (founds : List Found) → AreFoundSoFar founds → length founds ≡ length (choices n) → AreFound n moves cuts founds
  all_found founds each all = record { each = each; enough = λ few. absurd (omega (arith, few, all)) }

  -- the cards so far are enough
  pub some_found : (founds : List Found) → AreFoundSoFar founds → AreEnough n moves (take (length founds) (choices n)) → cuts → AreFound n moves cuts founds
  some_found founds each enough cut = record { each = each; enough = λ _. (enough, cut) }

-- the same by another reason for cuts
after_by : (n : NodeValue) (moves : ℕ) (cuts other : Type 0) (earlier : List ℕ) (card : ℕ) (found : Found) → (cuts → other) → IsFoundAfter n moves cuts earlier card found → IsFoundAfter n moves other earlier card found
after_by n moves cuts other earlier card (Exact front) why is = is
after_by n moves cuts other earlier card Below why is = (is.0, why is.1)

pub found_by : (n : NodeValue) (moves : ℕ) (cuts other : Type 0) (founds : List Found) → (cuts → other) → AreFound n moves cuts founds → AreFound n moves other founds
found_by n moves cuts other founds why are = record {
  each = λ place found e.
      let at = are.each place found e in
      record { card = at.card; here = at.here; found_is = after_by n moves cuts other (take place (choices n)) at.card found why at.found_is };
  enough = λ few. let enough = are.enough few in (enough.0, why enough.1);
}

pub found_by_ok : {E : Type 0} (n : NodeValue) (moves : ℕ) (cuts other : Type 0) (result : Result RoundFront E) → (cuts → other) → IfOk result (λ (root : RoundFront). AreFound n moves cuts root.founds.items)
    → IfOk result (λ (root : RoundFront). AreFound n moves other root.founds.items)
found_by_ok n moves cuts other (Ok root) why are = found_by n moves cuts other root.founds.items why are
found_by_ok n moves cuts other (Err e) why are = tt

-- what was found of the root card at a place
pub found_here : (n : NodeValue) (moves : ℕ) (cuts : Type 0) (founds : List Found) (place card : ℕ) (found : Found) → AreFound n moves cuts founds → slice_get founds place ≡ Some found → slice_get (choices n) place ≡ Some card
    → IsFoundAfter n moves cuts (take place (choices n)) card found
found_here n moves cuts founds place card found are here is =
    let at = are.each place found here in
    let some : Some at.card ≡ Some card = sym at.here ∙ is in
    let same : at.card ≡ card = cc in
    subst (λ k. IsFoundAfter n moves cuts (take place (choices n)) k found) same at.found_is
