-- Layouts that are judged one after the other.
use Rattle.std.proofs.Common.{◌≡◌, ◌∙◌, ◌<◌, ◌+◌, ℕ, zero, suc, Bool, true, false, Some, slice_get, List, [], ◌∷◌, length, get_or, set, map, replicate, refl, sym, ap, subst, arith, below_more, if◌then◌else◌}
use Rattle.std.proofs.lemmas.Bool.{false≢true, false_from_ne_true}
use Rattle.std.proofs.lemmas.Option.{slice_get-get_or}
use Rattle.std.proofs.Math.Bool.{beq}
use Rattle.std.proofs.lemmas.List.{length-map}
use Rattle.win_vectors.specs.Fronts.{Vector, IsAtLeast, Dominates, Covers}
use Rattle.trick_rules.specs.Positions.{PositionValue}
use Rattle.trick_rules.specs.Play.{makes}
use Rattle.trick_rules.specs.Nodes.{NodeValue, states}
use Rattle.strategy_games.proofs.Vectors.{Dominates-antisym, Dominates-trans}
use Rattle.strategy_tree.proofs.BridgeNodes.{length-states}
use Rattle.alphamu_core.specs.Judging.{IsJudged}

-- ---- bits

pub dominates-length : (u v : Vector) → Dominates u v → length u ≡ length v
dominates-length [] [] h = refl
dominates-length [] (b ∷ v) h = elim h [ ]
dominates-length (a ∷ u) [] h = elim h [ ]
dominates-length (a ∷ u) (b ∷ v) h = ap (λ k. suc k) (dominates-length u v h.1)

pub ones_above : (n : ℕ) (v : Vector) → length v ≡ n → Dominates (replicate n true) v
ones_above zero [] e = tt
ones_above zero (b ∷ v) e = absurd cc
ones_above (suc n) [] e = absurd cc
ones_above (suc n) (b ∷ v) e = (tt, ones_above n v (omega arith))

pub at_least : (a b : Bool) → (b ≡ true → a ≡ true) → IsAtLeast a b
at_least true b h = tt
at_least false false h = tt
at_least false true h = let wrong : false ≡ true = h refl in absurd cc

pub at_least_bit : (a b : Bool) → IsAtLeast a b → b ≡ true → a ≡ true
at_least_bit true b h e = refl
at_least_bit false true h e = absurd h
at_least_bit false false h e = e

at_least_none : (a : Bool) → IsAtLeast a false
at_least_none true = tt
at_least_none false = tt

pub none_above : (n : ℕ) (v : Vector) → length v ≡ n → Dominates v (replicate n false)
none_above zero [] e = tt
none_above zero (b ∷ v) e = absurd cc
none_above (suc n) [] e = absurd cc
none_above (suc n) (b ∷ v) e = (at_least_none b, none_above n v (omega arith))

dominates_clear : (u v : Vector) (i : ℕ) → Dominates u v → get_or v i false ≡ false → Dominates (set u i false) v
dominates_clear [] [] i h e = tt
dominates_clear [] (b ∷ v) i h e = elim h [ ]
dominates_clear (a ∷ u) [] i h e = elim h [ ]
dominates_clear (a ∷ u) (b ∷ v) zero h e = (subst (λ c. IsAtLeast false c) (sym e) tt, h.1)
dominates_clear (a ∷ u) (b ∷ v) (suc i) h e = (h.0, dominates_clear u v i h.1 e)

pub dominates_bits : (u v : Vector) → length u ≡ length v → ((i : ℕ) → get_or v i false ≡ true → get_or u i false ≡ true) → Dominates u v
dominates_bits [] [] e h = tt
dominates_bits [] (b ∷ v) e h = absurd cc
dominates_bits (a ∷ u) [] e h = absurd cc
dominates_bits (a ∷ u) (b ∷ v) e h = (at_least a b (h 0), dominates_bits u v (omega arith) (λ i there. h (suc i) there))

-- a one of what is dominated
pub dominates_at : (u v : Vector) (i : ℕ) → Dominates u v → get_or v i false ≡ true → get_or u i false ≡ true
dominates_at [] [] i h e = e
dominates_at [] (b ∷ v) i h e = elim h [ ]
dominates_at (a ∷ u) [] i h e = elim h [ ]
dominates_at (a ∷ u) (b ∷ v) zero h e = at_least_bit a b h.0 e
dominates_at (a ∷ u) (b ∷ v) (suc i) h e = dominates_at u v i h.1 e

pub dominates_none : (u v : Vector) (i : ℕ) → Dominates u v → get_or u i false ≡ false → get_or v i false ≡ false
dominates_none u v i h none = false_from_ne_true (get_or v i false) (λ there. false≢true (sym none ∙ dominates_at u v i h there))

-- a bit that was cleared is no one, and each one was there before
cleared : (u : Vector) (place i : ℕ) → get_or (set u place false) i false ≡ true → get_or u i false ≡ true
cleared [] place i e = e
cleared (a ∷ u) zero zero e = absurd cc
cleared (a ∷ u) zero (suc i) e = e
cleared (a ∷ u) (suc place) zero e = e
cleared (a ∷ u) (suc place) (suc i) e = cleared u place i e

not_there : (u : Vector) (place : ℕ) → get_or (set u place false) place false ≡ true → ⊥
not_there [] place e = absurd cc
not_there (a ∷ u) zero e = absurd cc
not_there (a ∷ u) (suc place) e = not_there u place e

inside : (u : Vector) (i : ℕ) → get_or u i false ≡ true → i < length u
inside [] i e = absurd cc
inside (a ∷ u) zero e = omega arith
inside (a ∷ u) (suc i) e = let low = inside u i e in omega arith

-- ---- one layout

makes_there : (t : PositionValue) (lefts : List (List ℕ)) (i : ℕ) (left : List ℕ) → i < length lefts → left ≡ get_or lefts i left
    → get_or (map (λ s. makes s) (map (λ left. record { position = t; left = left }) lefts)) i false ≡ makes (record { position = t; left = left })
makes_there t [] i left low e = absurd (omega arith)
makes_there t (l ∷ lefts) zero left low e = ap (λ (left : List ℕ). makes (record { position = t; left = left })) (sym e)
makes_there t (l ∷ lefts) (suc i) left low e = makes_there t lefts i left (omega arith) e

pub made_there : (t : PositionValue) (lefts : List (List ℕ)) (i : ℕ) (left : List ℕ) → i < length lefts → slice_get lefts i ≡ Some left
    → get_or (map (λ s. makes s) (map (λ left. record { position = t; left = left }) lefts)) i false ≡ makes (record { position = t; left = left })
made_there t lefts i left low e = makes_there t lefts i left low (let at = slice_get-get_or lefts i left low in cc)

pub chosen_first : (b : Bool) (u v : Vector) → b ≡ true → u ≡ (if b then u else v)
chosen_first true u v e = refl
chosen_first false u v e = absurd cc

pub chosen_second : (b : Bool) (u v : Vector) → b ≡ false → v ≡ (if b then u else v)
chosen_second true u v e = absurd cc
chosen_second false u v e = refl

-- a bit that was read
pub bit_at : (v : Vector) (i : ℕ) (bit : Bool) → i < length v → slice_get v i ≡ Some bit → get_or v i false ≡ bit
bit_at v i bit low is = let at = slice_get-get_or v i false low in cc

-- ---- place by place

module _ (results mask : Vector) (bit : Bool) (start : Vector) where
  pub judged_none : Dominates start results → IsJudged results mask bit start 0 start
  judged_none above = record { above = above; fewer = λ i e. e; right = λ i low. absurd (omega arith) }

  module _ (place : ℕ) (made : Vector) (so : IsJudged results mask bit start place made) where
    pub judged_skip : (get_or mask place false ≡ bit → ⊥) → IsJudged results mask bit start (place + 1) made
    judged_skip other = record {
      above = so.above;
      fewer = so.fewer;
      right = below_more (λ i. get_or mask i false ≡ bit → get_or made i false ≡ true → get_or results i false ≡ true) place so.right (λ here. absurd (other here));
    }

    judged_by : (b : Bool) → get_or results place false ≡ b → IsJudged results mask bit start (place + 1) (if b then made else set made place false)
    judged_by true e = record {
      above = so.above;
      fewer = so.fewer;
      right = below_more (λ i. get_or mask i false ≡ bit → get_or made i false ≡ true → get_or results i false ≡ true) place so.right (λ here there. e);
    }
    judged_by false e = record {
      above = dominates_clear made results place so.above e;
      fewer = λ i there. so.fewer i (cleared made place i there);
      right = below_more (λ i. get_or mask i false ≡ bit → get_or (set made place false) i false ≡ true → get_or results i false ≡ true) place
          (λ i low here there. so.right i low here (cleared made place i there))
          (λ here there. absurd (not_there made place there));
    }

    pub judged_more : (more : Vector) → more ≡ (if get_or results place false then made else set made place false) → IsJudged results mask bit start (place + 1) more
    judged_more more e = subst (λ v. IsJudged results mask bit start (place + 1) v) (sym e) (judged_by (get_or results place false) refl)

-- once both kinds of places were judged, the results are left
pub judged_all : (results mask start some made : Vector) (width : ℕ) → length results ≡ width → IsJudged results mask false start width some → IsJudged results mask true some width made → made ≡ results
judged_all results mask start some made width wide first second =
    Dominates-antisym made results second.above (dominates_bits results made (sym same) (λ i there. by_mask i there (get_or mask i false) refl))
  where
    same : length made ≡ length results
    same = dominates-length made results second.above

    by_mask : (i : ℕ) → get_or made i false ≡ true → (b : Bool) → get_or mask i false ≡ b → get_or results i false ≡ true
    by_mask i there true e = let low = inside made i there in second.right i (omega (arith, same, wide)) e there
    by_mask i there false e = let low = inside made i there in first.right i (omega (arith, same, wide)) e (second.fewer i there)

-- there are as many results as layouts
pub length-results : (n : NodeValue) → length (map (λ s. makes s) (states n)) ≡ length n.lefts
length-results n = length-map (states n) (λ s. makes s) ∙ length-states n

-- what covers a vector covers those that it dominates
pub covers_below : (alpha : List Vector) (u v : Vector) → Covers alpha u → Dominates u v → Covers alpha v
covers_below alpha u v covers above = (covers.0, covers.1, Dominates-trans covers.0 u v covers.2 above)

-- two bits that are found to differ
pub differ : (a b : Bool) → beq a b ≡ false → a ≡ b → ⊥
differ true true e same = absurd cc
differ true false e same = absurd cc
differ false true e same = absurd cc
differ false false e same = absurd cc
