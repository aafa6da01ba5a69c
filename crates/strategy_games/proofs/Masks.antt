-- Vectors that a test makes of a list of layouts: dominance, meets, spreads and parts, layout by layout.
use Rattle.std.proofs.Common.{◌≡◌, ◌&&◌, Bool, true, false, cond, List, [], ◌∷◌, length, map, filter, replicate, Contains, refl, sym, ap, true≢false, arith}
use Rattle.win_vectors.specs.Vectors.{ones_of, meet_of, spread_of, restrict_of}
use Rattle.win_vectors.specs.Fronts.{Vector, IsAtLeast, Dominates}
use Rattle.strategy_games.proofs.Lists.{Contains-here, Contains-there, Contains-nil, each_cons}

at_least_from : (a b : Bool) → (b ≡ true → a ≡ true) → IsAtLeast a b
at_least_from true b h = tt
at_least_from false false h = tt
at_least_from false true h = absurd (true≢false (sym (h refl)))

at_least_gives : (a b : Bool) → IsAtLeast a b → b ≡ true → a ≡ true
at_least_gives true b h e = refl
at_least_gives false false h e = e
at_least_gives false true h e = absurd h

module _ {S : Type 0} where
  pub Dominates-map : (F G : S → Bool) (ss : List S) → ((s : S) → Contains ss s → G s ≡ true → F s ≡ true) → Dominates (map F ss) (map G ss)
  Dominates-map F G [] h = tt
  Dominates-map F G (s ∷ ss) h = (at_least_from (F s) (G s) (h s (Contains-here s ss)), Dominates-map F G ss (λ x m. h x (Contains-there s ss x m)))

  pub Dominates-of_map : (F G : S → Bool) (ss : List S) → Dominates (map F ss) (map G ss) → (s : S) → Contains ss s → G s ≡ true → F s ≡ true
  Dominates-of_map F G [] d s m e = absurd (Contains-nil s m)
  Dominates-of_map F G (x ∷ ss) d s m e = each_cons (λ z. G z ≡ true → F z ≡ true) x ss (at_least_gives (F x) (G x) d.0) (λ z k. Dominates-of_map F G ss d.1 z k) s m e

  -- 1 at each place dominates every vector of this length
  pub Dominates-all : (ss : List S) (v : Vector) → length ss ≡ length v → Dominates (map (λ s. true) ss) v
  Dominates-all [] [] e = tt
  Dominates-all [] (b ∷ v) e = absurd cc
  Dominates-all (s ∷ ss) [] e = absurd cc
  Dominates-all (s ∷ ss) (b ∷ v) e = (tt, Dominates-all ss v cc)

  pub meet-map : (F G : S → Bool) (ss : List S) → meet_of (map F ss) (map G ss) ≡ map (λ s. F s && G s) ss
  meet-map F G [] = refl
  meet-map F G (s ∷ ss) = ap (λ (l : Vector). (F s && G s) ∷ l) (meet-map F G ss)

  pub spread-map : (p F : S → Bool) (ss : List S) → spread_of (map F (filter p ss)) (map p ss) ≡ map (λ s. cond (p s) (F s) true) ss
  spread-map p F [] = refl
  spread-map p F (s ∷ ss) = go (p s) (spread-map p F ss)
    where
      go : (b : Bool) → spread_of (map F (filter p ss)) (map p ss) ≡ map (λ s. cond (p s) (F s) true) ss
          → spread_of (map F (cond b (s ∷ filter p ss) (filter p ss))) (b ∷ map p ss) ≡ cond b (F s) true ∷ map (λ s. cond (p s) (F s) true) ss
      go true h = ap (λ (l : Vector). F s ∷ l) h
      go false h = ap (λ (l : Vector). true ∷ l) h

  pub restrict-map : (p F : S → Bool) (ss : List S) → restrict_of (map F ss) (map p ss) ≡ map F (filter p ss)
  restrict-map p F [] = refl
  restrict-map p F (s ∷ ss) = go (p s) (restrict-map p F ss)
    where
      go : (b : Bool) → restrict_of (map F ss) (map p ss) ≡ map F (filter p ss) → restrict_of (F s ∷ map F ss) (b ∷ map p ss) ≡ map F (cond b (s ∷ filter p ss) (filter p ss))
      go true h = ap (λ (l : Vector). F s ∷ l) h
      go false h = h

  pub filter_all : (p : S → Bool) (ss : List S) → ((s : S) → Contains ss s → p s ≡ true) → filter p ss ≡ ss
  filter_all p [] h = refl
  filter_all p (s ∷ ss) h = go (p s) (h s (Contains-here s ss)) (filter_all p ss (λ x m. h x (Contains-there s ss x m)))
    where
      go : (b : Bool) → b ≡ true → filter p ss ≡ ss → cond b (s ∷ filter p ss) (filter p ss) ≡ s ∷ ss
      go true e h = ap (λ (l : List S). s ∷ l) h
      go false e h = absurd (true≢false (sym e))

  pub replicate-map : (b : Bool) (ss : List S) → replicate (length ss) b ≡ map (λ s. b) ss
  replicate-map b [] = refl
  replicate-map b (s ∷ ss) = ap (λ (l : Vector). b ∷ l) (replicate-map b ss)

  pub ones-none : (ss : List S) → ones_of (map (λ s. false) ss) ≡ 0
  ones-none [] = refl
  ones-none (s ∷ ss) = let others = ones-none ss in omega arith

  pub ones-all : (ss : List S) → ones_of (map (λ s. true) ss) ≡ length ss
  ones-all [] = refl
  ones-all (s ∷ ss) = let others = ones-all ss in omega arith

pub map-map : {A B D : Type 0} (f : B → D) (h : A → B) (xs : List A) → map f (map h xs) ≡ map (λ x. f (h x)) xs
map-map f h [] = refl
map-map f h (x ∷ xs) = ap (λ l. f (h x) ∷ l) (map-map f h xs)
