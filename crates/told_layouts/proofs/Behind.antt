-- The layouts behind a step, by the tests of its places.
use Rattle.std.proofs.Common.{◌≡◌, ◌∙◌, ◌++◌, ◌-◌, ◌≤◌, ℕ, Bool, true, false, not, List, [], ◌∷◌, map, take, length, replicate, Contains, refl, sym, ap, subst, true≢false, append-nil, arith}
use Rattle.std.specs.Prelude.{◌↔◌}
use Rattle.std.proofs.lemmas.Bool.{and_parts, and_from, false_from_ne_true, true_from_ne_false, not_from_false}
use Rattle.std.proofs.lemmas.List.{take_all}
use Rattle.trick_rules.specs.Positions.{PositionValue, State}
use Rattle.trick_rules.specs.Play.{after, makes}
use Rattle.trick_rules.specs.Nodes.{states}
use Rattle.double_dummy.proofs.LayoutResults.{results_upto}
use Rattle.strategy_games.specs.Plans.{Plan, Stop, Play, Hear, wins}
use Rattle.strategy_games.proofs.Lists.{Contains-here, Contains-there}
use Rattle.strategy_tree.specs.Bridge.{bridge}
use Rattle.strategy_check.specs.Following.{CanFollow}
use Rattle.told_layouts.specs.Places.{CanReach, IsWonFrom, IsLostFrom, GivesUp, IsGivenUpAt}
use Rattle.told_layouts.specs.Looking.{somewhere, loses, gives_up, is_won, step_layouts, reached}
use Rattle.told_layouts.specs.Behind.{AreThose}
use Rattle.told_layouts.specs.Losing.{StepLayoutsAreBehind, ReachedCanReach}
use Rattle.told_layouts.proofs.Placed.{found_place, passes_somewhere}

pub those : (f : State → Bool) (IsSo : State → Type 0) (layouts : List State) → ((s : State) → Contains layouts s → (f s ≡ true) ↔ IsSo s) → AreThose IsSo layouts (map f layouts)
those f IsSo [] each = tt
those f IsSo (s ∷ layouts) each = (each s (Contains-here s layouts), those f IsSo layouts (λ t among. each t (Contains-there s layouts t among)))

-- the results of all layouts
pub upto_all : (f : State → Bool) (t : PositionValue) (lefts : List (List ℕ)) (i : ℕ) → length lefts ≤ i
    → results_upto (λ left. f (record { position = t; left = left })) lefts i ≡ map f (map (λ left. record { position = t; left = left }) lefts)
upto_all f t lefts i all =
    let none : length lefts - i ≡ 0 = omega arith in
    subst (λ n. map (λ left. f (record { position = t; left = left })) (take i lefts) ++ replicate n false ≡ map f (map (λ left. record { position = t; left = left }) lefts)) (sym none)
    (append-nil (map (λ left. f (record { position = t; left = left })) (take i lefts)) ∙ ap (map (λ left. f (record { position = t; left = left }))) (take_all i lefts all) ∙ go lefts)
  where
    go : (xs : List (List ℕ)) → map (λ left. f (record { position = t; left = left })) xs ≡ map f (map (λ left. record { position = t; left = left }) xs)
    go [] = refl
    go (x ∷ xs) = ap (λ bits. f (record { position = t; left = x }) ∷ bits) (go xs)

not_true : (b : Bool) → not b ≡ true → b ≡ false
not_true true h = absurd (true≢false (sym h))
not_true false h = refl

-- a card gives a layout up exactly if the test says so
gives_up-true : (rest : Plan ℕ) (place : State) → (gives_up rest place ≡ true) ↔ GivesUp rest place
gives_up-true Stop place = (λ h. true≢false (sym h), λ h. absurd h)
gives_up-true (Play card rest) place = (
  λ h. let parts = and_parts (makes place) (not (makes (after place card))) h in (parts.0, not_true (makes (after place card)) parts.1),
  λ h. and_from (makes place) (not (makes (after place card))) h.0 (not_from_false (makes (after place card)) h.1),
)
gives_up-true (Hear rs) place = (λ h. true≢false (sym h), λ h. absurd h)

module _ (sets : List (List ℕ)) (plan : Plan ℕ) (s : State) (follow : CanFollow plan s) where
  reaches : (somewhere (λ rest place. true) sets plan s ≡ true) ↔ CanReach sets plan s
  reaches = (
    λ h. let f = found_place (λ rest place. true) sets plan s follow h in (f.0, f.1, f.2),
    λ r. passes_somewhere (λ rest place. true) sets plan r.0 s r.1 r.2 refl,
  )

  won_everywhere : somewhere loses sets plan s ≡ false → IsWonFrom sets plan s
  won_everywhere none rest place p =
      true_from_ne_false (wins bridge rest place) (λ lost.
      true≢false (sym (passes_somewhere loses sets plan rest s place p (not_from_false (wins bridge rest place) lost)) ∙ none))

  lost_nowhere : IsWonFrom sets plan s → somewhere loses sets plan s ≡ false
  lost_nowhere won =
      false_from_ne_true (somewhere loses sets plan s) (λ h.
      let f = found_place loses sets plan s follow h in
      true≢false (sym (won f.0 f.1 f.2) ∙ not_true (wins bridge f.0 f.1) f.3))

  wins_from : (is_won sets plan s ≡ true) ↔ (CanReach sets plan s × IsWonFrom sets plan s)
  wins_from = (
    λ h.
        let parts = and_parts (somewhere (λ rest place. true) sets plan s) (not (somewhere loses sets plan s)) h in
        (reaches.0 parts.0, won_everywhere (not_true (somewhere loses sets plan s) parts.1)),
    λ h. and_from (somewhere (λ rest place. true) sets plan s) (not (somewhere loses sets plan s)) (reaches.1 h.0) (not_from_false (somewhere loses sets plan s) (lost_nowhere h.1)),
  )

  lost_from : (somewhere loses sets plan s ≡ true) ↔ IsLostFrom sets plan s
  lost_from = (
    λ h. let f = found_place loses sets plan s follow h in (f.0, f.1, f.2, not_true (wins bridge f.0 f.1) f.3),
    λ l. passes_somewhere loses sets plan l.0 s l.1 l.2 (not_from_false (wins bridge l.0 l.1) l.3),
  )

  given_up_at : (somewhere gives_up sets plan s ≡ true) ↔ IsGivenUpAt sets plan s
  given_up_at = (
    λ h. let f = found_place gives_up sets plan s follow h in (f.0, f.1, f.2, (gives_up-true f.0 f.1).0 f.3),
    λ g. passes_somewhere gives_up sets plan g.0 s g.1 g.2 ((gives_up-true g.0 g.1).1 g.3),
  )

pub step_layouts_are_behind : StepLayoutsAreBehind
unfolding step_layouts
step_layouts_are_behind plan n moves sets sound fits =
    let follow : (s : State) → Contains (states n) s → CanFollow plan s = λ s among. record { node = n; moves = moves; sound = sound; among = among; fits = fits } in
    record {
      won = those (λ s. is_won sets plan s) (λ s. CanReach sets plan s × IsWonFrom sets plan s) (states n) (λ s among. wins_from sets plan s (follow s among));
      lost = those (λ s. somewhere loses sets plan s) (λ s. IsLostFrom sets plan s) (states n) (λ s among. lost_from sets plan s (follow s among));
      given_up = those (λ s. somewhere gives_up sets plan s) (λ s. IsGivenUpAt sets plan s) (states n) (λ s among. given_up_at sets plan s (follow s among));
    }

pub reached_are_behind : ReachedCanReach
unfolding reached
reached_are_behind plan n moves sets sound fits =
    let follow : (s : State) → Contains (states n) s → CanFollow plan s = λ s among. record { node = n; moves = moves; sound = sound; among = among; fits = fits } in
    those (λ s. somewhere (λ rest place. true) sets plan s) (λ s. CanReach sets plan s) (states n) (λ s among. reaches sets plan s (follow s among))
