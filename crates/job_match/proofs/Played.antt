-- The first strategy that is printed, played out in a layout.
use Rattle.std.proofs.Common.{◌≡◌, ◌∙◌, ℕ, zero, suc, ◌+◌, ◌-◌, ◌<◌, ◌==◌, Bool, Option, Some, List, [], ◌∷◌, Result, Ok, Err, length, All, refl, ap, ap₂, sym, subst, arith, slice_get}
use Rattle.std.specs.Prelude.{IfOk, Contains}
use Rattle.std.proofs.lemmas.List.{length-map}
use Rattle.std.proofs.lemmas.List.Elements.{All-contains}
use Rattle.std.proofs.lemmas.List.Sorted.{Contains-permutation, IsPermutation-sym}
use Rattle.win_vectors.specs.Fronts.{Vector}
use Rattle.win_vectors.proofs.Orders.{Dominates-refl}
use Rattle.trick_rules.specs.Positions.{State}
use Rattle.trick_rules.specs.Nodes.{NodeValue, IsNode, states}
use Rattle.strategy_games.specs.Plans.{Plan, Fits}
use Rattle.strategy_games.proofs.Lists.{Contains-here}
use Rattle.strategy_tree.specs.Bridge.{bridge}
use Rattle.strategy_tree.proofs.BridgeLaws as laws
use Rattle.am_match.specs.Defences.{Sitter, Change, table_at, tell_table}
use Rattle.am_match.specs.PlayOuts.{Follows, state_after}
use Rattle.am_report.specs.Answers.{EntryValue}
use Rattle.am_report.specs.Match.{match_text}
use Rattle.am_answer.specs.declared.root.Root.{Root}
use Rattle.am_answer.specs.Tasks.{Playing}
use Rattle.am_answer.specs.Matches.{IsFirstStrategy, IsMatchText, seated, third_at, seated_at}

module _ (n : NodeValue) (weights : List ℕ) (moves : ℕ) (vector : Vector) (plan : Plan ℕ) (node : IsNode n) (is : IsFirstStrategy n weights moves vector plan) where
  -- it is of the front
  of_front : Contains is.reported.front vector
  of_front =
      Contains-permutation (vector ∷ is.others) is.reported.front vector (IsPermutation-sym is.reported.front (vector ∷ is.others) is.reported.same)
      (Contains-here vector is.others)

  -- it is a strategy
  pub first_fits : Fits bridge plan n moves
  first_fits =
      (laws.chosen_plan.wins plan n moves vector is.reported.front node is.reported.is_front (vector, of_front, Dominates-refl vector) is.chosen).0

  -- its vector has a bit for each layout
  pub first_wide : length vector ≡ length n.lefts
  first_wide =
      All-contains (λ v. length v ≡ length (states n)) is.reported.front vector (laws.one_front.wide n moves is.reported.front is.reported.is_front) of_front
      ∙ length-map n.lefts (λ left. record { position = n.position; left = left })

some-at : {X : Type 0} (xs : List X) (k : ℕ) → k < length xs → (x : X) × (slice_get xs k ≡ Some x)
some-at [] k inside = absurd (omega (arith, inside))
some-at (x ∷ xs) zero inside = (x, refl)
some-at (x ∷ xs) (suc k) inside = some-at xs k (omega (arith, inside))

-- what is written of it
pub match-text : {E : Type 0} (result : Result (List ℕ) E) (root : Root) (moves : ℕ) (playing : Playing) (table later : List Sitter) (vector : Vector) (plan : Plan ℕ) (bit made : Bool) (cards : List ℕ)
    → IsFirstStrategy root.kept.node root.kept.weights moves vector plan → playing.place < length root.kept.node.lefts → slice_get vector playing.place ≡ Some bit
    → ((s : State) → slice_get (states root.kept.node) playing.place ≡ Some s → Follows plan s (seated_at playing.switch table) cards)
    → ((s : State) → slice_get (states root.kept.node) playing.place ≡ Some s → made ≡ ((state_after s cards).position.need == 0))
    → later ≡ tell_table cards (seated_at playing.switch table (length cards))
    → IfOk result (λ text. text ≡ match_text playing.layout bit cards made) → IfOk result (IsMatchText root moves playing table later)
match-text (Ok text) root moves playing table later vector plan bit made cards first inside bit_there follows won told written =
    let n = root.kept.node in
    let wide : length (states n) ≡ length n.lefts = length-map n.lefts (λ left. record { position = n.position; left = left }) in
    let here = some-at (states n) playing.place (omega (arith, inside, wide)) in (
      bit,
      made,
      cards,
      record {
        vector = vector;
        plan = plan;
        state = here.0;
        first = first;
        at_layout = here.1;
        bit_there = bit_there;
        follows = follows here.0 here.1;
        outcome = won here.0 here.1;
        told = told;
      },
      written,
    )
match-text (Err e) root moves playing table later vector plan bit made cards first inside bit_there follows won told written = tt

-- the same of a root and an entry as they are opened, with the table and the change that were made ready
module _ (opened root : Root) (root_is : opened ≡ root) (found first : EntryValue) (first_is : found ≡ first) (moves : ℕ) (playing : Playing) (table ready : List Sitter) (change : Option Change)
    (ready_is : ready ≡ seated playing.switch table) (change_is : change ≡ third_at playing.switch table) where
  tables_are : table_at ready change ≡ seated_at playing.switch table
  tables_are = ap₂ table_at ready_is change_is

  place_is : (playing.place + 1) - 1 ≡ playing.place
  place_is = omega arith

  there : (s : State) → slice_get (states root.kept.node) playing.place ≡ Some s → slice_get (states opened.kept.node) ((playing.place + 1) - 1) ≡ Some s
  there s here = ap (λ (k : ℕ). slice_get (states opened.kept.node) k) place_is ∙ ap (λ (r : Root). slice_get (states r.kept.node) playing.place) root_is ∙ here

  pub text-opened : {E : Type 0} (result : Result (List ℕ) E) (later : List Sitter) (bit made : Bool) (cards : List ℕ)
      → IsFirstStrategy root.kept.node root.kept.weights moves first.vector first.plan → playing.place < length root.kept.node.lefts → slice_get found.vector playing.place ≡ Some bit
      → ((s : State) → slice_get (states opened.kept.node) ((playing.place + 1) - 1) ≡ Some s → Follows found.plan s (table_at ready change) cards)
      → ((s : State) → slice_get (states opened.kept.node) ((playing.place + 1) - 1) ≡ Some s → made ≡ ((state_after s cards).position.need == 0))
      → later ≡ tell_table cards (table_at ready change (length cards))
      → IfOk result (λ text. text ≡ match_text playing.layout bit cards made) → IfOk result (IsMatchText root moves playing table later)
  text-opened result later bit made cards is inside bit_there follows won told written =
      match-text result root moves playing table later first.vector first.plan bit made cards is inside
      (subst (λ (e : EntryValue). slice_get e.vector playing.place ≡ Some bit) first_is bit_there)
      (λ s here.
      subst (λ (e : EntryValue). Follows e.plan s (seated_at playing.switch table) cards) first_is
      (subst (λ (t : ℕ → List Sitter). Follows found.plan s t cards) tables_are (follows s (there s here))))
      (λ s here. won s (there s here))
      (told ∙ ap (λ (t : ℕ → List Sitter). tell_table cards (t (length cards))) tables_are)
      written
