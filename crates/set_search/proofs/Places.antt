-- Layouts of a set, judged by double dummy.
use Rattle.std.proofs.Common.{rules, ◌≡◌, ◌∙◌, ◌<◌, ◌||◌, ◌==◌, ℕ, zero, suc, Bool, true, false, is_some, Option, None, Some, IfSome, IsNone, List, [], length, replicate, get_or, set, Contains, refl, sym, ap, subst, true≢false, ⊎_elim, arith}
use Rattle.std.proofs.lemmas.Bool.{false≢true}
use Rattle.std.proofs.lemmas.List.{length-replicate, length-set}
use Rattle.std.proofs.lemmas.List.Elements.{All-contains}
use Rattle.std.specs.List.{items_where_true}
use Rattle.win_vectors.specs.Vectors.{ones_of}
use Rattle.win_vectors.specs.Fronts.{Vector, Dominates}
use Rattle.trick_rules.specs.Positions.{PositionValue, State, FitsLeft}
use Rattle.trick_rules.specs.Play.{makes, decided}
use Rattle.trick_rules.specs.Nodes.{states}
use Rattle.strategy_games.proofs.Lists.{Contains-map, Contains-of_map}
use Rattle.strategy_tree.proofs.BridgeNodes.{stops-bridge}
use Rattle.set_nodes.specs.SetNodes.{still_held, node_at, AreLayoutsAt}
use Rattle.set_nodes.proofs.Parts.{layout_of, state_among}
use Rattle.set_nodes.proofs.Numbers.{is_part, layouts_in_part, length-node_at}
use Rattle.set_nodes.proofs.Won.{IsWon, won_makes, won_stop, won_one}
use Rattle.set_nodes.proofs.Places.{HasOne, dominates_ones, one_at, one_within, some_ones, no_one, set_there, set_from, picked_at, picked_from}
use Rattle.set_memo.specs.Known.{IsLostAt}
use Rattle.set_search.specs.Judged.{stops_here, makes_there, AreAllMade, IsLostPlace}

-- ---- what goes on

or_parts : (a b : Bool) → (a || b) ≡ false → (a ≡ false) × (b ≡ false)
or_parts true b h = absurd (true≢false h)
or_parts false b h = (refl, h)

pub live_here : (t : PositionValue) (m : ℕ) → stops_here t m ≡ false → is_some (decided t) ≡ false
live_here t m h = (or_parts (m == 0) (is_some (decided t)) h).1

pub some_moves : (t : PositionValue) (m : ℕ) → stops_here t m ≡ false → (less : ℕ) × (suc less ≡ m)
some_moves t zero h = absurd (true≢false h)
some_moves t (suc m) h = (m, refl)

-- ---- layouts

module _ (layouts : List (List ℕ)) (t : PositionValue) (chosen : Vector) (are : AreLayoutsAt layouts t chosen) where
  left_there : (k : ℕ) → HasOne chosen k → Contains (node_at layouts t chosen).lefts (still_held t (get_or layouts k []))
  left_there k h = Contains-map (still_held t) (items_where_true chosen layouts) (get_or layouts k []) (picked_at chosen layouts k [] are.width h)

  pub fits_there : (k : ℕ) → HasOne chosen k → FitsLeft t (still_held t (get_or layouts k []))
  fits_there k h = All-contains (FitsLeft t) (node_at layouts t chosen).lefts (still_held t (get_or layouts k [])) are.node.fits (left_there k h)

  pub state_there : (k : ℕ) → HasOne chosen k → Contains (states (node_at layouts t chosen)) (record { position = t; left = still_held t (get_or layouts k []) })
  state_there k h = state_among (node_at layouts t chosen) (still_held t (get_or layouts k [])) (left_there k h)

  pub place_within : (k : ℕ) → HasOne chosen k → k < length layouts
  place_within k h = let low = one_within chosen k h in omega (arith, low, are.width)

  -- each layout was judged
  pub all_made : ((k : ℕ) → HasOne chosen k → makes_there layouts t k ≡ true) → AreAllMade (node_at layouts t chosen)
  all_made each s among =
      let layout = layout_of (node_at layouts t chosen) s among in
      let from = Contains-of_map (still_held t) (items_where_true chosen layouts) layout.0 layout.1 in
      let place = picked_from chosen layouts from.0 from.1 in
      let same : still_held t (get_or layouts place.0 []) ≡ layout.0 = ap (still_held t) (place.2 []) ∙ from.2 in
      subst (λ (x : State). makes x ≡ true) layout.2
      (subst (λ (left : List ℕ). makes (record { position = t; left = left }) ≡ true) same (each place.0 place.1))

  -- and each that is chosen is made
  pub made_there : AreAllMade (node_at layouts t chosen) → (k : ℕ) → HasOne chosen k → makes_there layouts t k ≡ true
  made_there each k h = each (record { position = t; left = still_held t (get_or layouts k []) }) (state_there k h)

  -- what is made is made in part
  pub made_in_part : (part : Vector) → Dominates chosen part → AreAllMade (node_at layouts t chosen) → AreAllMade (node_at layouts t part)
  made_in_part part d each s among =
      let layout = layout_of (node_at layouts t part) s among in
      subst (λ (x : State). makes x ≡ true) layout.2
      (each (record { position = t; left = layout.0 }) (state_among (node_at layouts t chosen) layout.0 ((is_part layouts t chosen part d).layouts layout.0 layout.1)))

  -- ---- verdicts

  pub won_where_stopped : (m : ℕ) → stops_here t m ≡ true → AreAllMade (node_at layouts t chosen) → IsWon (node_at layouts t chosen) m
  won_where_stopped m stop each = won_stop (node_at layouts t chosen) m (stops-bridge (node_at layouts t chosen) m ∙ stop) each

  pub won_alone : (m : ℕ) → ones_of chosen ≡ 1 → AreAllMade (node_at layouts t chosen) → IsWon (node_at layouts t chosen) m
  won_alone m alone each = won_one (node_at layouts t chosen) m are.node (length-node_at layouts t chosen are.width ∙ alone) each

  module _ (place : ℕ) (lost : IsLostPlace layouts t chosen place) (only : Vector) (is : only ≡ set (replicate (length chosen) false) place true) where
    only_width : length only ≡ length chosen
    only_width = ap (λ (v : Vector). length v) is ∙ length-set (replicate (length chosen) false) place true ∙ length-replicate (length chosen) false

    only_here : HasOne only place
    only_here =
        let low = one_within chosen place lost.chosen in
        subst (λ (v : Vector). HasOne v place) (sym is) (set_there (replicate (length chosen) false) place (omega (arith, low, length-replicate (length chosen) false)))

    pub only_within : Dominates chosen only
    only_within = dominates_ones chosen only (sym only_width)
        (λ k h. ⊎_elim (λ (e : k ≡ place). subst (HasOne chosen) (sym e) lost.chosen) (λ (no_place : HasOne (replicate (length chosen) false) k). absurd (no_one (length chosen) k no_place))
        (set_from (replicate (length chosen) false) place k (subst (λ (v : Vector). HasOne v k) is h)))

    only_layout : AreLayoutsAt layouts t only
    only_layout = layouts_in_part layouts t chosen only are only_within (some_ones only place only_here)

-- a layout that double dummy loses is a core by itself
pub core_alone : (layouts : List (List ℕ)) (t : PositionValue) (chosen : Vector) (are : AreLayoutsAt layouts t chosen) (place : ℕ) (lost : IsLostPlace layouts t chosen place)
    (only : Vector) (is : only ≡ set (replicate (length chosen) false) place true) (m : ℕ) → IsLostAt layouts t m only
core_alone layouts t chosen are place lost only is m =
    let there = only_layout layouts t chosen are place lost only is in record {
      some = there;
      lost = λ w. false≢true (sym lost.lost ∙ won_makes (node_at layouts t only) m there.node w (record { position = t; left = still_held t (get_or layouts place []) })
          (state_there layouts t only there place (only_here layouts t chosen are place lost only is)));
    }

-- a layout that is lost in part is lost in the whole
pub lost_in_part : (layouts : List (List ℕ)) (t : PositionValue) (chosen part : Vector) (place : ℕ) → Dominates chosen part → IsLostPlace layouts t part place → IsLostPlace layouts t chosen place
lost_in_part layouts t chosen part place d lost = record { chosen = one_at chosen part place d lost.chosen; lost = lost.lost }

pub if_some : {X : Type 0} (P Q : X → Type 0) → ((x : X) → P x → Q x) → (o : Option X) → IfSome o P → IfSome o Q
if_some P Q f None h = tt
if_some P Q f (Some x) h = f x h

pub none_of : {X : Type 0} (o : Option X) → is_some o ≡ false → IsNone o
none_of None h = search rules
none_of (Some x) h = absurd (true≢false h)
