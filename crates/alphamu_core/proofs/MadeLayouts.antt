-- A node cut down to the layouts that double dummy makes.
use Rattle.std.proofs.Common.{◌≡◌, ◌∙◌, ◌≤◌, ◌<◌, ℕ, zero, suc, Bool, false, List, [], ◌∷◌, Contains, length, map, refl, sym, ap, subst, ⊎_elim, arith}
use Rattle.std.proofs.lemmas.Bool.{cases_lt}
use Rattle.win_vectors.specs.Vectors.{ones_of, restrict_of}
use Rattle.win_vectors.specs.Fronts.{Vector, HaveWidth, Dominates, IsReduced}
use Rattle.pareto_fronts.specs.FrontValue.{FrontValue}
use Rattle.trick_rules.specs.Play.{makes}
use Rattle.trick_rules.specs.Nodes.{NodeValue, IsNode, states}
use Rattle.strategy_games.specs.Plans.{stops, tree_size, IsFront, IsBelow}
use Rattle.strategy_games.proofs.Lists.{Contains-here, Contains-single, All-at}
use Rattle.strategy_games.proofs.Vectors.{Dominates-refl}
use Rattle.strategy_games.proofs.Fronts.{front_single}
use Rattle.strategy_tree.specs.Bridge.{bridge}
use Rattle.front_table.specs.Proven.{IsFrontAt}
use Rattle.alphamu_core.specs.Limits.{IsUpperBound}
use Rattle.alphamu_core.specs.Parts.{part_of, filled_of, AreSomeLayouts}
use Rattle.alphamu_core.proofs.Judging.{length-results}
use Rattle.alphamu_core.proofs.Bounds.{front_lost}
use Rattle.alphamu_core.proofs.OneLayout.{front_one}
use Rattle.alphamu_core.proofs.Parts.{length-picked, restrict-part, part_sound, part_front, whole_front, below_part, filled_same, is_part, smaller}

pub results_width : (n : NodeValue) (made : Vector) → made ≡ map (λ s. makes s) (states n) → length made ≡ length n.lefts
results_width n made results = ap (λ (v : Vector). length v) results ∙ length-results n

module _ (n : NodeValue) (sound : IsNode n) (made : Vector) (results : made ≡ map (λ s. makes s) (states n)) where
  made_width : length made ≡ length n.lefts
  made_width = results_width n made results

  only_lost : Dominates made (map (λ s. makes s) (states n))
  only_lost = subst (λ v. Dominates made v) results (Dominates-refl made)

  layouts : 1 ≤ ones_of made → AreSomeLayouts n made
  layouts some = record { a_node = sound; width = made_width; some = some }

  -- if one layout can be made, double dummy's results are the front
  front_alone : (front : FrontValue) (moves : ℕ) → front.vectors ≡ made ∷ [] → front.width ≡ length made → ones_of made ≡ 1 → IsFrontAt n moves front
  front_alone front moves only width one = record {
    front = subst (λ (vs : List Vector). IsFront bridge n moves vs) (sym only) (whole_front n made ok moves only_lost (alone ∷ []) (made ∷ []) found reduced);
    width = width ∙ made_width;
  }
    where
      ok : AreSomeLayouts n made
      ok = layouts (omega (arith, one))

      alone : Vector
      alone = map (λ s. makes s) (states (part_of n made))

      few : length (part_of n made).lefts ≡ 1
      few = length-picked made n.lefts made_width ∙ one

      found : IsFront bridge (part_of n made) moves (alone ∷ [])
      found = (front_one (part_of n made) (part_sound n made ok) (record { width = length alone; vectors = alone ∷ []; room = 0 }) moves alone refl refl refl few).front

      same : made ≡ filled_of alone made
      same = sym (ap (λ (v : Vector). filled_of v made) (sym (ap (λ (v : Vector). restrict_of v made) results ∙ restrict-part n made (λ s. makes s))) ∙ filled_same made made (Dominates-refl made))

      reduced : IsReduced (filled_of alone made ∷ []) (made ∷ [])
      reduced = front_single (Contains (filled_of alone made ∷ [])) made
          (subst (λ v. Contains (filled_of alone made ∷ []) v) (sym same) (Contains-here (filled_of alone made) []))
          (λ w among. subst (λ w. Dominates made w) (same ∙ Contains-single (filled_of alone made) w among) (Dominates-refl made))

  -- and so they are if none can
  pub front_few : (front : FrontValue) (moves : ℕ) → front.vectors ≡ made ∷ [] → front.width ≡ length made → ones_of made < 2 → IsFrontAt n moves front
  front_few front moves only width low = ⊎_elim
      (λ (none : ones_of made < 1). front_lost n sound front moves made results only width (omega arith))
      (λ (some : 1 ≤ ones_of made). front_alone front moves only width (omega arith))
      (cases_lt (ones_of made) 1)

  module _ (some : 1 ≤ ones_of made) (moves : ℕ) {part : NodeValue} (is_cut : part ≡ part_of n made) where
    pub part_width : length part.lefts ≡ ones_of made
    part_width = ap (λ (k : NodeValue). length k.lefts) is_cut ∙ length-picked made n.lefts made_width

    pub part_goes_on : stops bridge n moves ≡ false → stops bridge part moves ≡ false
    part_goes_on goes_on = subst (λ (k : NodeValue). stops bridge k moves ≡ false) (sym is_cut) (still moves goes_on)
      where
        still : (moves : ℕ) → stops bridge n moves ≡ false → stops bridge (part_of n made) moves ≡ false
        still moves h = subst (λ (b : Bool). b ≡ false) (same_stops moves) h
          where
            same_stops : (moves : ℕ) → stops bridge n moves ≡ stops bridge (part_of n made) moves
            same_stops zero = refl
            same_stops (suc m) = refl

    -- it has no larger a tree
    pub part_size : tree_size bridge part moves ≤ tree_size bridge n moves
    part_size = subst (λ k. tree_size bridge k moves ≤ tree_size bridge n moves) (sym is_cut) (smaller (part_of n made) n (part_sound n made (layouts some)) sound (is_part n made) moves)

    -- an upper bound, cut down
    pub part_upper : (upper less : FrontValue) → IsUpperBound n moves upper → less.width ≡ ones_of made → IsReduced (map (λ v. restrict_of v made) upper.vectors) less.vectors → IsUpperBound part moves less
    part_upper upper less bound width reduced = record {
      fewer = bound.fewer;
      below = bound.below;
      front = record {
        front = subst (λ k. IsFront bridge k bound.fewer less.vectors) (sym is_cut) (part_front n made (layouts some) bound.fewer upper.vectors less.vectors bound.front.front reduced);
        width = width ∙ sym part_width;
      };
    }

    -- the part's front, filled
    pub filled_front : (front whole : FrontValue) → IsFrontAt part moves front → whole.width ≡ length made → IsReduced (map (λ v. filled_of v made) front.vectors) whole.vectors → IsFrontAt n moves whole
    filled_front front whole found width reduced = record {
      front = whole_front n made (layouts some) moves only_lost front.vectors whole.vectors (subst (λ k. IsFront bridge k moves front.vectors) is_cut found.front) reduced;
      width = width ∙ made_width;
    }

    -- alpha, cut down, covers what is won in the part
    pub below_whole : (alpha less : FrontValue) → HaveWidth alpha.width alpha.vectors → alpha.width ≡ length made → IsReduced (map (λ v. restrict_of v made) alpha.vectors) less.vectors
        → IsBelow bridge part moves less.vectors → IsBelow bridge n moves alpha.vectors
    below_whole alpha less wide width reduced below = below_part n made (layouts some) moves only_lost alpha.vectors less.vectors
        (λ v among. All-at (λ v. length v ≡ alpha.width) alpha.vectors wide v among ∙ width)
        reduced.reached
        (subst (λ k. IsBelow bridge k moves less.vectors) is_cut below)
