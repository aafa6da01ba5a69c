-- The greatest weight of a front, and what it says of the front with a move more.
use Rattle.std.proofs.Common.{◌≡◌, ◌∙◌, ◌≤◌, ◌+◌, ℕ, suc, Option, Some, None, List, [], ◌∷◌, ◌++◌, ◌⊎◌, inl, inr, Contains, take, slice_get, refl, sym, ap, subst, arith, ⊎_elim}
use Rattle.std.proofs.lemmas.List.{take_more}
use Rattle.std.proofs.lemmas.Option.{slice_get_within, get_or_from_slice_get}
use Rattle.win_vectors.specs.Fronts.{Vector}
use Rattle.win_vectors.specs.Weights.{weight_of}
use Rattle.win_vectors.proofs.WeightLemmas.{weight_of-monotone}
use Rattle.trick_rules.specs.Nodes.{NodeValue}
use Rattle.strategy_games.specs.Plans.{IsFront}
use Rattle.strategy_games.specs.Joins.{WinsByCard}
use Rattle.strategy_games.specs.Choosing.{IsBestWeight}
use Rattle.strategy_games.proofs.Lists.{Contains-here, Contains-nil, Contains-single, Contains-append, Contains-append_first, Contains-append_second}
use Rattle.strategy_games.proofs.Measures.{best_of}
use Rattle.strategy_tree.specs.Bridge.{bridge}
use Rattle.strategy_tree.proofs.BridgeLaws.{cuts}
use Rattle.cut_rules.specs.Stops.{AreOurCards, IsGreatestWeight, IsGreatestOf}

module _ (ws : List ℕ) where
  -- a vector more
  greatest_with : (vectors : List Vector) (v : Vector) (old : Option ℕ) (weight new : ℕ) → weight ≡ weight_of ws v → IsGreatestOf ws vectors old
      → (old ≡ None → new ≡ weight)
      → ((most : ℕ) → old ≡ Some most → (new ≡ most) ⊎ (new ≡ weight))
      → ((most : ℕ) → old ≡ Some most → most ≤ new) → weight ≤ new
      → IsGreatestWeight ws (vectors ++ v ∷ []) new
  greatest_with vectors v None weight new same_weight none is some most least = record {
    reached = (v, Contains-append_second vectors (v ∷ []) v (Contains-here v []), let first = is refl in omega (arith, same_weight));
    most = λ u among. ⊎_elim
        (λ (old : Contains vectors u). absurd (Contains-nil u (subst (λ (vs : List Vector). Contains vs u) none old)))
        (λ (here : Contains (v ∷ []) u). let same = ap (weight_of ws) (Contains-single v u here) in omega (arith, same_weight, least))
        (Contains-append vectors (v ∷ []) u among);
  }
  greatest_with vectors v (Some before) weight new same_weight so_far is some most least = record {
    reached = ⊎_elim
        (λ (old : new ≡ before). (so_far.reached.0, Contains-append_first vectors (v ∷ []) so_far.reached.0 so_far.reached.1, let at = so_far.reached.2 in omega arith))
        (λ (here : new ≡ weight). (v, Contains-append_second vectors (v ∷ []) v (Contains-here v []), sym (here ∙ same_weight)))
        (some before refl);
    most = λ u among. ⊎_elim
        (λ (old : Contains vectors u). let low = so_far.most u old in let high = most before refl in omega arith)
        (λ (here : Contains (v ∷ []) u). let same = ap (weight_of ws) (Contains-single v u here) in omega (arith, same_weight, least))
        (Contains-append vectors (v ∷ []) u among);
  }

  pub greatest_more : (vectors : List Vector) (place : ℕ) (v : Vector) (old : Option ℕ) (weight new : ℕ) → slice_get vectors place ≡ Some v → weight ≡ weight_of ws v → IsGreatestOf ws (take place vectors) old
      → (old ≡ None → new ≡ weight)
      → ((most : ℕ) → old ≡ Some most → (new ≡ most) ⊎ (new ≡ weight))
      → ((most : ℕ) → old ≡ Some most → most ≤ new) → weight ≤ new
      → IsGreatestWeight ws (take (place + 1) vectors) new
  greatest_more vectors place v old weight new here same_weight so_far is some most least =
      let last : take (place + 1) vectors ≡ take place vectors ++ v ∷ [] =
      subst (λ u. take (place + 1) vectors ≡ take place vectors ++ u ∷ []) (get_or_from_slice_get vectors place v v here) (take_more vectors place v (slice_get_within vectors place v here)) in
      subst (λ (vs : List Vector). IsGreatestWeight ws vs new) (sym last) (greatest_with (take place vectors) v old weight new same_weight so_far is some most least)

  pub greatest_same : (vectors : List Vector) (a b : ℕ) → IsGreatestWeight ws vectors a → IsGreatestWeight ws vectors b → a ≡ b
  greatest_same vectors a b one two =
      let low = two.most one.reached.0 one.reached.1 in
      let high = one.most two.reached.0 two.reached.1 in
      omega (arith, one.reached.2, two.reached.2)

  pub greatest_none : (vectors : List Vector) (weight : ℕ) → vectors ≡ [] → IsGreatestWeight ws vectors weight → ⊥
  greatest_none vectors weight none g = Contains-nil g.reached.0 (subst (λ (vs : List Vector). Contains vs g.reached.0) none g.reached.1)

  -- a card's vector with the greatest weight of the front with a move less has the best weight
  pub greatest_enough : (n : NodeValue) (moves : ℕ) (cards : List ℕ) (less : List Vector) (best : ℕ) (vector : Vector) → AreOurCards n cards → IsFront bridge n moves less → IsGreatestWeight ws less best
      → WinsByCard bridge n moves cards vector → weight_of ws vector ≡ best → IsBestWeight bridge ws n (suc moves) best
  greatest_enough n moves cards less best vector our front greatest wins e =
      let top : Vector = greatest.reached.0 in
      let most : (w : Vector) → Contains less w → weight_of ws w ≤ weight_of ws top = λ w among. (let at = greatest.most w among in omega (arith, greatest.reached.2)) in
      let best_less : IsBestWeight bridge ws n moves best = subst (λ b. IsBestWeight bridge ws n moves b) greatest.reached.2 (best_of bridge (weight_of ws) n moves less top front greatest.reached.1 most) in
      cuts.same_best (weight_of ws) (weight_of-monotone ws) n moves best cards vector our.a_node our.goes_on our.ours our.choices wins e best_less
