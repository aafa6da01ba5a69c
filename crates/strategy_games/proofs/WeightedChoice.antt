-- The best and the named card by weights.
use Rattle.std.proofs.Common.{◌≡◌, ◌⊎◌, ◌∙◌, ℕ, zero, suc, true, false, List, ◌∷◌, filter, length, replicate, sum, Contains, sym, ap, subst, inl, inr, ⊎_elim}
use Rattle.std.proofs.lemmas.List.{length-map}
use Rattle.win_vectors.specs.Vectors.{ones_of}
use Rattle.win_vectors.specs.Fronts.{Vector}
use Rattle.win_vectors.specs.Weights.{weight_of}
use Rattle.win_vectors.proofs.WeightLemmas.{weight_of-monotone, weight_of-none, weight_of-each, weight_of-equal}
use Rattle.strategy_games.specs.Games.{Game, IsLawful, IsSettled}
use Rattle.strategy_games.specs.Choosing.{IsFirstOf, HasMeasure, IsBestBy, IsNamedBy, IsBestWeight}
use Rattle.strategy_games.specs.Laws.{HasBestWeight}
use Rattle.strategy_games.proofs.Lists.{Contains-append_first, first_is_member}
use Rattle.strategy_games.proofs.Masks.{filter_all}
use Rattle.strategy_games.proofs.Moves.{our_card_legal}
use Rattle.strategy_games.proofs.Measures.{best_by, named_by}

-- the first of which P holds, where P and Q hold of the same members
first_same : {X : Type 0} (P Q : X → Type 0) (xs : List X) (x : X) → ((y : X) → Contains xs y → P y → Q y) → ((y : X) → Contains xs y → Q y → P y) → IsFirstOf P xs x → IsFirstOf Q xs x
first_same {X} P Q xs x to back f = (
  f.0,
  f.1,
  f.2,
  λ y mem q. f.3 y mem (back y (subst (λ (l : List X). Contains l y) (sym f.2) (Contains-append_first f.0 (x ∷ f.1) y mem)) q),
  to x (first_is_member P xs x f) f.4,
)

-- weight 1 at each layout counts the ones
equal_weight : (width : ℕ) (v : Vector) → length v ≡ width → weight_of (replicate width 1) v ≡ ones_of v
equal_weight width v e = subst (λ k. weight_of (replicate k 1) v ≡ ones_of v) e (weight_of-equal v)

module _ {N S C : Type 0} (g : Game N S C) where
  -- the two measures agree on vectors of this width
  abbrev AgreeAt : ℕ → (Vector → ℕ) → (Vector → ℕ) → Type 0
  AgreeAt width one other = (v : Vector) → length v ≡ width → one v ≡ other v

  turned : (width : ℕ) (one other : Vector → ℕ) → AgreeAt width one other → AgreeAt width other one
  turned width one other agree v e = sym (agree v e)

  measure_same : (one other : Vector → ℕ) (n : N) (m b : ℕ) → AgreeAt (length (g.states n)) one other → HasMeasure g one n m b → HasMeasure g other n m b
  measure_same one other n m b agree h =
      let won = h.1.reached h.2 h.3 in
      let width : length h.2 ≡ length (g.states n) = ap (λ (v : Vector). length v) (sym won.2) ∙ length-map (g.states n) _ in
      (h.0, h.1, h.2, h.3, sym (agree h.2 width) ∙ h.4)

  best_same : (one other : Vector → ℕ) (n : N) (m b : ℕ) → AgreeAt (length (g.states n)) one other → IsBestBy g one n m b → IsBestBy g other n m b
  best_same one other n m b agree h = (measure_same one other n m b agree h.0, λ c k. h.1 c (measure_same other one n m c (turned (length (g.states n)) one other agree) k))

  named_same : (one other : Vector → ℕ) (n : N) (m : ℕ) (c : C) → AgreeAt (length (g.states n)) one other → ((d : C) → Contains (g.choices n) d → length (g.states (g.child n d)) ≡ length (g.states n)) → IsNamedBy g one n m c → IsNamedBy g other n m c
  named_same one other n zero c agree width h = absurd h
  named_same one other n (suc m) c agree width h = (
    h.0,
    best_same one other n (suc m) h.0 agree h.1,
    first_same (λ d. HasMeasure g one (g.child n d) m h.0) (λ d. HasMeasure g other (g.child n d) m h.0) (g.choices n) c
        (λ d mem k. measure_same one other (g.child n d) m h.0 (λ v e. agree v (e ∙ width d mem)) k)
        (λ d mem k. measure_same other one (g.child n d) m h.0 (λ v e. sym (agree v (e ∙ width d mem))) k)
        h.2,
  )

  module _ (Sound : N → Type 0) (law : IsLawful g Sound) where
    -- a card of declarer's side keeps each layout
    our_width : (n : N) (c : C) → Sound n → g.is_ours n ≡ true → Contains (g.choices n) c → length (g.states (g.child n c)) ≡ length (g.states n)
    our_width n c sound ours mem =
        ap (λ (l : List S). length l) (law.keeps n c sound mem)
        ∙ length-map (filter (λ s. g.is_legal c s) (g.states n)) (λ s. g.after c s)
        ∙ ap (λ (l : List S). length l) (filter_all (λ s. g.is_legal c s) (g.states n) (λ s k. our_card_legal g Sound law n c s sound ours mem k))

    module _ (settled : IsSettled g Sound) where
      weight_decided : (ws : List ℕ) (n : N) (m b : ℕ) → Sound n → g.is_decided n ≡ true → length ws ≡ length (g.states n) → IsBestWeight g ws n m b → (b ≡ 0) ⊎ (b ≡ sum ws)
      weight_decided ws n m b sound e width h = ⊎_elim
          (λ (none : b ≡ weight_of ws (replicate (length (g.states n)) false)). inl (none ∙ weight_of-none ws (length (g.states n))))
          (λ (each : b ≡ weight_of ws (replicate (length (g.states n)) true)). inr (each ∙ ap (λ k. weight_of ws (replicate k true)) (sym width) ∙ weight_of-each ws))
          ((best_by g (weight_of ws) Sound law settled (weight_of-monotone ws)).decided n m b sound e h)

      pub best_weight : HasBestWeight g Sound
      best_weight = record {
        best = λ ws. best_by g (weight_of ws) Sound law settled (weight_of-monotone ws);
        named = λ ws. named_by g (weight_of ws) Sound law settled (weight_of-monotone ws);
        decided = weight_decided;
        equal = λ n m b.
            let agree = equal_weight (length (g.states n)) in
            let ws = weight_of (replicate (length (g.states n)) 1) in
            (best_same ws ones_of n m b agree, best_same ones_of ws n m b (turned (length (g.states n)) ws ones_of agree));
        equal_card = λ n m c sound ours.
            let agree = equal_weight (length (g.states n)) in
            let ws = weight_of (replicate (length (g.states n)) 1) in
            let width = λ (d : C) (mem : Contains (g.choices n) d). our_width n d sound ours mem in
            (named_same ws ones_of n m c agree width, named_same ones_of ws n m c (turned (length (g.states n)) ws ones_of agree) width);
      }
