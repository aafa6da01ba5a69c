-- The two vectors that a guess wins are the best of themselves.
use Rattle.std.proofs.Common.{◌≡◌, ◌⊎◌, inl, inr, true, false, [], ◌∷◌, Contains, refl, ⊎_elim, subst, sym, ◌∙◌}
use Rattle.win_vectors.specs.Fronts.{Vector, Dominates, Precedes, IsReduced}
use Rattle.strategy_games.proofs.Lists.{Contains-cons, Contains-single}
use Rattle.strategy_games.proofs.Vectors.{Dominates-refl}
use Rattle.strategy_games.proofs.Fronts.{AllPairs-cons, AllPairs-single}

-- the guess that the left hand has the queen, and the other
abbrev pub for_left : Vector
for_left = true ∷ false ∷ []

abbrev pub for_right : Vector
for_right = false ∷ true ∷ []

apart : (u v : Vector) → (for_left ≡ u) ⊎ (for_right ≡ u) → (for_left ≡ v) ⊎ (for_right ≡ v) → Dominates u v → u ≡ v
apart u v (inl e) (inl f) d = sym e ∙ f
apart u v (inl e) (inr f) d = absurd (subst (λ z. Dominates for_left z) (sym f) (subst (λ z. Dominates z v) (sym e) d)).1.0
apart u v (inr e) (inl f) d = absurd (subst (λ z. Dominates for_right z) (sym f) (subst (λ z. Dominates z v) (sym e) d)).0
apart u v (inr e) (inr f) d = sym e ∙ f

pub guesses_reduced : IsReduced (for_left ∷ for_right ∷ []) (for_left ∷ for_right ∷ [])
guesses_reduced = record {
  reached = λ v m. m;
  covered = λ v m. (v, m, Dominates-refl v);
  apart = λ u v m k d. apart u v (either u m) (either v k) d;
  ordered = AllPairs-cons Precedes for_left (for_right ∷ []) (λ v m. subst (Precedes for_left) (Contains-single for_right v m) refl) (AllPairs-single Precedes for_right);
}
  where
    either : (v : Vector) → Contains (for_left ∷ for_right ∷ []) v → (for_left ≡ v) ⊎ (for_right ≡ v)
    either v m = ⊎_elim (λ (e : for_left ≡ v). inl e) (λ (k : Contains (for_right ∷ []) v). inr (Contains-single for_right v k)) (Contains-cons for_left (for_right ∷ []) v m)
