-- The vectors that miss a 1 tell whether a vector is kept.
use Rattle.std.proofs.Common.{◌≡◌, ◌⊎◌, ◌∙◌, Bool, true, false, List, [], ◌∷◌, length, map, replicate, Contains, refl, sym, subst, inl, inr, ⊎_elim}
use Rattle.std.proofs.lemmas.List.{length-map}
use Rattle.win_vectors.specs.Fronts.{Vector, IsAtLeast, Dominates, Covers}
use Rattle.strategy_games.specs.Games.{Game, IsLawful}
use Rattle.strategy_games.specs.Plans.{wins, wins_vector, IsBelow}
use Rattle.strategy_games.specs.Choosing.{Keeps, misses}
use Rattle.strategy_games.specs.SearchLaws.{HasMisses}
use Rattle.strategy_games.proofs.Lists.{Contains-here, Contains-there, Contains-cons, Contains-nil, Contains-map, Contains-of_map}
use Rattle.strategy_games.proofs.Vectors.{Dominates-trans}
use Rattle.strategy_games.proofs.Nodes.{front_exists}

-- all ones dominate each vector of their length
all_ones : (v u : Vector) → length v ≡ length u → Dominates (replicate (length u) true) v
all_ones [] [] e = tt
all_ones [] (b ∷ u) e = absurd cc
all_ones (a ∷ v) [] e = absurd cc
all_ones (a ∷ v) (b ∷ u) e = (tt, all_ones v u cc)

-- some vector after a 1 covers what the vectors cover
after_one : (f : List Vector) (b : Bool) (v : Vector) → Covers f v → Covers (map (λ w. true ∷ w) f) (b ∷ v)
after_one f b v c = (true ∷ c.0, Contains-map (λ (w : Vector). true ∷ w) f c.0 c.1, (tt, c.2))

-- and only it
from_after_one : (f : List Vector) (b : Bool) (v : Vector) → Covers (map (λ w. true ∷ w) f) (b ∷ v) → Covers f v
from_after_one f b v c =
    let w = Contains-of_map (λ (w : Vector). true ∷ w) f c.0 c.1 in
    let d : Dominates (true ∷ w.0) (b ∷ v) = subst (λ z. Dominates z (b ∷ v)) (sym w.2) c.2 in
    (w.0, w.1, d.1)

-- a vector dominates u, or one that misses a 1 of u dominates it,
either : (u v : Vector) → length v ≡ length u → Dominates v u ⊎ Covers (misses u) v
either [] [] e = inl tt
either [] (b ∷ v) e = absurd cc
either (a ∷ u) [] e = absurd cc
either (true ∷ u) (true ∷ v) e = ⊎_elim (λ (d : Dominates v u). inl (tt, d))
    (λ (c : Covers (misses u) v).
    let w = after_one (misses u) true v c in
    inr (w.0, Contains-there (false ∷ replicate (length u) true) (map (λ w. true ∷ w) (misses u)) w.0 w.1, w.2))
    (either u v cc)
either (true ∷ u) (false ∷ v) e = inr (
  false ∷ replicate (length u) true,
  Contains-here (false ∷ replicate (length u) true) (map (λ w. true ∷ w) (misses u)),
  (tt, all_ones v u cc),
)
either (false ∷ u) (b ∷ v) e = ⊎_elim (λ (d : Dominates v u). inl (any b, d))
    (λ (c : Covers (misses u) v). inr (after_one (misses u) b v c)) (either u v cc)
  where
    any : (b : Bool) → IsAtLeast b false
    any true = tt
    any false = tt

-- and not both.
not_both : (u v : Vector) → Dominates v u → Covers (misses u) v → ⊥
not_both [] v d c = Contains-nil c.0 c.1
not_both (a ∷ u) [] d c = elim d [ ]
not_both (true ∷ u) (false ∷ v) d c = absurd d.0
not_both (true ∷ u) (true ∷ v) d c = ⊎_elim
    (λ (e : (false ∷ replicate (length u) true) ≡ c.0).
    let bad : Dominates (false ∷ replicate (length u) true) (true ∷ v) = subst (λ z. Dominates z (true ∷ v)) (sym e) c.2 in bad.0)
    (λ (k : Contains (map (λ w. true ∷ w) (misses u)) c.0). not_both u v d.1 (from_after_one (misses u) true v (c.0, k, c.2)))
    (Contains-cons (false ∷ replicate (length u) true) (map (λ w. true ∷ w) (misses u)) c.0 c.1)
not_both (false ∷ u) (b ∷ v) d c = not_both u v d.1 (from_after_one (misses u) b v c)

module _ {N S C : Type 0} (g : Game N S C) (Sound : N → Type 0) (law : IsLawful g Sound) where
  pub misses_tell : HasMisses g Sound
  misses_tell = record {
    tell = λ u v e. (
      λ (d : Dominates v u) (c : Covers (misses u) v). not_both u v d c,
      λ (none : Covers (misses u) v → ⊥). ⊎_elim (λ (d : Dominates v u). d) (λ (c : Covers (misses u) v). absurd (none c)) (either u v e),
    );
    below = λ n m c u sound wide. (
      λ (below : IsBelow g (g.child n c) m (misses u)) (k : Keeps g n m u c).
          let p = k.1.reached k.2.0 k.2.1 in
          not_both u k.2.0 k.2.2 (subst (Covers (misses u)) p.2 (below p.0 p.1)),
      λ (lost : Keeps g n m u c → ⊥) p fit. ⊎_elim
          (λ (d : Dominates (wins_vector g p (g.child n c)) u).
          let f = front_exists g Sound law (g.child n c) m sound in
          let w = f.1.covered (wins_vector g p (g.child n c)) (p, fit, refl) in
          absurd (lost (f.0, f.1, (w.0, w.1, Dominates-trans w.0 (wins_vector g p (g.child n c)) u w.2 d))))
          (λ (k : Covers (misses u) (wins_vector g p (g.child n c))). k)
          (either u (wins_vector g p (g.child n c)) (length-map (g.states (g.child n c)) (λ s. wins g p s) ∙ wide)),
    );
  }
