-- Vectors beside lists of layouts: parts by a mask, spreads, and what holds at each 1.
use Rattle.std.proofs.Common.{◌≡◌, ◌&&◌, ◌∙◌, suc, Bool, true, false, cond, List, [], ◌∷◌, length, map, filter, refl, sym, ap, true≢false, arith}
use Rattle.std.specs.List.{AllZip}
use Rattle.win_vectors.specs.Vectors.{ones_of, meet_of, restrict_of, spread_of}
use Rattle.win_vectors.specs.Fronts.{Vector, IsAtLeast, Dominates}

-- what holds of each layout at which the vector has a 1
abbrev pub AtOnes : {S : Type 0} → (S → Type 0) → Vector → List S → Type 0
AtOnes P v ss = AllZip (λ b s. b ≡ true → P s) v ss

one_below : (a b : Bool) → IsAtLeast a b → b ≡ true → a ≡ true
one_below true b d e = refl
one_below false true d e = absurd d
one_below false false d e = e

and_first : (a b : Bool) → IsAtLeast a (a && b)
and_first true b = tt
and_first false b = tt

and_second : (a b : Bool) → IsAtLeast b (a && b)
and_second true true = tt
and_second true false = tt
and_second false true = tt
and_second false false = tt

pub meet_first : (u v : Vector) → length u ≡ length v → Dominates u (meet_of u v)
meet_first [] v e = tt
meet_first (a ∷ u) [] e = absurd (omega (arith, e))
meet_first (a ∷ u) (b ∷ v) e = (and_first a b, meet_first u v (omega (arith, e)))

pub meet_second : (u v : Vector) → length u ≡ length v → Dominates v (meet_of u v)
meet_second [] [] e = tt
meet_second [] (b ∷ v) e = absurd (omega (arith, e))
meet_second (a ∷ u) [] e = absurd (omega (arith, e))
meet_second (a ∷ u) (b ∷ v) e = (and_second a b, meet_second u v (omega (arith, e)))

pub restrict_below : (u v ms : Vector) → Dominates u v → Dominates (restrict_of u ms) (restrict_of v ms)
restrict_below [] [] ms d = tt
restrict_below [] (b ∷ v) ms d = elim d [ ]
restrict_below (a ∷ u) [] ms d = elim d [ ]
restrict_below (a ∷ u) (b ∷ v) [] d = tt
restrict_below (a ∷ u) (b ∷ v) (true ∷ ms) d = (d.0, restrict_below u v ms d.1)
restrict_below (a ∷ u) (b ∷ v) (false ∷ ms) d = restrict_below u v ms d.1

pub spread_up : (w v ms : Vector) → length v ≡ length ms → Dominates w (restrict_of v ms) → Dominates (spread_of w ms) v
spread_up w [] [] e d = tt
spread_up w (b ∷ v) [] e d = absurd (omega (arith, e))
spread_up w [] (c ∷ ms) e d = absurd (omega (arith, e))
spread_up w (b ∷ v) (false ∷ ms) e d = (tt, spread_up w v ms (omega (arith, e)) d)
spread_up [] (b ∷ v) (true ∷ ms) e d = elim d [ ]
spread_up (x ∷ w) (b ∷ v) (true ∷ ms) e d = (d.0, spread_up w v ms (omega (arith, e)) d.1)

pub spread_down : (w v ms : Vector) → length w ≡ ones_of ms → Dominates (spread_of w ms) v → Dominates w (restrict_of v ms)
spread_down [] [] [] e d = tt
spread_down [] (b ∷ v) [] e d = elim d [ ]
spread_down (x ∷ w) v [] e d = absurd (omega (arith, e))
spread_down w [] (false ∷ ms) e d = elim d [ ]
spread_down w (b ∷ v) (false ∷ ms) e d = spread_down w v ms (omega (arith, e)) d.1
spread_down [] v (true ∷ ms) e d = absurd (omega (arith, e))
spread_down (x ∷ w) [] (true ∷ ms) e d = elim d [ ]
spread_down (x ∷ w) (b ∷ v) (true ∷ ms) e d = (d.0, spread_down w v ms (omega (arith, e)) d.1)

pub length_spread : (w ms : Vector) → length w ≡ ones_of ms → length (spread_of w ms) ≡ length ms
length_spread w [] e = refl
length_spread w (false ∷ ms) e = ap suc (length_spread w ms (omega (arith, e)))
length_spread [] (true ∷ ms) e = absurd (omega (arith, e))
length_spread (x ∷ w) (true ∷ ms) e = ap suc (length_spread w ms (omega (arith, e)))

module _ {S : Type 0} where
  pub length_kept : (p : S → Bool) (ss : List S) → length (filter p ss) ≡ ones_of (map p ss)
  length_kept p [] = refl
  length_kept p (s ∷ ss) = go (p s) (length_kept p ss)
    where
      go : (b : Bool) → length (filter p ss) ≡ ones_of (map p ss) → length (cond b (s ∷ filter p ss) (filter p ss)) ≡ ones_of (b ∷ map p ss)
      go true rest = omega (arith, rest)
      go false rest = omega (arith, rest)

  pub length_zip : (P : S → Type 0) (v : Vector) (ss : List S) → AtOnes P v ss → length v ≡ length ss
  length_zip P [] [] a = refl
  length_zip P [] (s ∷ ss) a = elim a [ ]
  length_zip P (b ∷ v) [] a = elim a [ ]
  length_zip P (b ∷ v) (s ∷ ss) a = ap suc (length_zip P v ss a.1)

  pub zip_any : (P : S → Type 0) (v : Vector) (ss : List S) → ((s : S) → P s) → length v ≡ length ss → AtOnes P v ss
  zip_any P [] [] h e = tt
  zip_any P [] (s ∷ ss) h e = absurd (omega (arith, e))
  zip_any P (b ∷ v) [] h e = absurd (omega (arith, e))
  zip_any P (b ∷ v) (s ∷ ss) h e = (λ is. h s, zip_any P v ss h (omega (arith, e)))

  pub zip_both : (P Q R : S → Type 0) (v : Vector) (ss : List S) → ((s : S) → P s → Q s → R s) → AtOnes P v ss → AtOnes Q v ss → AtOnes R v ss
  zip_both P Q R [] [] h a c = tt
  zip_both P Q R [] (s ∷ ss) h a c = elim a [ ]
  zip_both P Q R (b ∷ v) [] h a c = elim a [ ]
  zip_both P Q R (b ∷ v) (s ∷ ss) h a c = (λ e. h s (a.0 e) (c.0 e), zip_both P Q R v ss h a.1 c.1)

  pub zip_lower : (P : S → Type 0) (u v : Vector) (ss : List S) → Dominates u v → AtOnes P u ss → AtOnes P v ss
  zip_lower P [] [] ss d a = a
  zip_lower P [] (b ∷ v) ss d a = elim d [ ]
  zip_lower P (c ∷ u) [] ss d a = elim d [ ]
  zip_lower P (c ∷ u) (b ∷ v) [] d a = elim a [ ]
  zip_lower P (c ∷ u) (b ∷ v) (s ∷ ss) d a = (λ e. a.0 (one_below c b d.0 e), zip_lower P u v ss d.1 a.1)

  module _ {T : Type 0} (f : S → T) where
    pub zip_map : (P : T → Type 0) (v : Vector) (ss : List S) → AtOnes (λ s. P (f s)) v ss → AtOnes P v (map f ss)
    zip_map P [] [] a = tt
    zip_map P [] (s ∷ ss) a = elim a [ ]
    zip_map P (b ∷ v) [] a = elim a [ ]
    zip_map P (b ∷ v) (s ∷ ss) a = (a.0, zip_map P v ss a.1)

    pub zip_of_map : (P : T → Type 0) (v : Vector) (ss : List S) → AtOnes P v (map f ss) → AtOnes (λ s. P (f s)) v ss
    zip_of_map P [] [] a = tt
    zip_of_map P [] (s ∷ ss) a = elim a [ ]
    zip_of_map P (b ∷ v) [] a = elim a [ ]
    zip_of_map P (b ∷ v) (s ∷ ss) a = (a.0, zip_of_map P v ss a.1)

    -- at the layouts that are kept
    pub zip_restrict : (p : S → Bool) (P : T → Type 0) (v : Vector) (ss : List S) → AtOnes (λ s. p s ≡ true → P (f s)) v ss → AtOnes P (restrict_of v (map p ss)) (map f (filter p ss))
    zip_restrict p P [] [] a = tt
    zip_restrict p P [] (s ∷ ss) a = elim a [ ]
    zip_restrict p P (b ∷ v) [] a = elim a [ ]
    zip_restrict p P (b ∷ v) (s ∷ ss) a = go (p s) refl (zip_restrict p P v ss a.1)
      where
        go : (k : Bool) → p s ≡ k → AtOnes P (restrict_of v (map p ss)) (map f (filter p ss)) → AtOnes P (restrict_of (b ∷ v) (k ∷ map p ss)) (map f (cond k (s ∷ filter p ss) (filter p ss)))
        go true is rest = (λ e. a.0 e is, rest)
        go false is rest = rest

    pub zip_unrestrict : (p : S → Bool) (P : T → Type 0) (v : Vector) (ss : List S) → length v ≡ length ss → AtOnes P (restrict_of v (map p ss)) (map f (filter p ss)) → AtOnes (λ s. p s ≡ true → P (f s)) v ss
    zip_unrestrict p P [] [] e a = tt
    zip_unrestrict p P [] (s ∷ ss) e a = absurd (omega (arith, e))
    zip_unrestrict p P (b ∷ v) [] e a = absurd (omega (arith, e))
    zip_unrestrict p P (b ∷ v) (s ∷ ss) e a = go (p s) refl (λ part. zip_unrestrict p P v ss (omega (arith, e)) part) a
      where
        go : (k : Bool) → p s ≡ k → (AtOnes P (restrict_of v (map p ss)) (map f (filter p ss)) → AtOnes (λ s. p s ≡ true → P (f s)) v ss)
            → AtOnes P (restrict_of (b ∷ v) (k ∷ map p ss)) (map f (cond k (s ∷ filter p ss) (filter p ss))) → (b ≡ true → p s ≡ true → P (f s)) × AtOnes (λ s. p s ≡ true → P (f s)) v ss
        go true is rest part = (λ one kept. part.0 one, rest part.1)
        go false is rest part = (λ one kept. absurd (true≢false (sym kept ∙ is)), rest part)
