-- Two lists that are related place by place.
use Rattle.std.proofs.Common.{◌≡◌, Bool, true, List, [], ◌∷◌, map, filter, Contains, refl, ◌∙◌, inl, inr}
use Rattle.std.specs.List.{AllZip}
use Rattle.std.proofs.lemmas.Bool.{cases_Bool}
use Rattle.strategy_games.proofs.Lists.{Contains-nil, each_cons}

module _ {A B : Type 0} (R : A → B → Type 0) where
  -- what passes a test on which related items agree
  pub zip-filter : (p : A → Bool) (q : B → Bool) → ((x : A) (y : B) → R x y → q y ≡ p x) → (xs : List A) (ys : List B) → AllZip R xs ys
      → AllZip (λ x y. R x y × (p x ≡ true)) (filter p xs) (filter q ys)
  zip-filter p q same [] [] r = tt
  zip-filter p q same (x ∷ xs) [] r = elim r [ ]
  zip-filter p q same [] (y ∷ ys) r = elim r [ ]
  zip-filter p q same (x ∷ xs) (y ∷ ys) r =
      elim (cases_Bool (p x)) as (λ _. AllZip (λ x y. R x y × (p x ≡ true)) (filter p (x ∷ xs)) (filter q (y ∷ ys))) [
        | inl e ↦ rw (e, same x y r.0 ∙ e) ((r.0, e), zip-filter p q same xs ys r.1)
        | inr e ↦ rw (e, same x y r.0 ∙ e) (zip-filter p q same xs ys r.1)
      ]

  -- what two functions that keep the relation give
  pub zip-map : {C D : Type 0} (S : C → D → Type 0) (f : A → C) (g : B → D) → ((x : A) (y : B) → R x y → S (f x) (g y)) → (xs : List A) (ys : List B) → AllZip R xs ys
      → AllZip S (map f xs) (map g ys)
  zip-map S f g keeps [] [] r = tt
  zip-map S f g keeps (x ∷ xs) [] r = elim r [ ]
  zip-map S f g keeps [] (y ∷ ys) r = elim r [ ]
  zip-map S f g keeps (x ∷ xs) (y ∷ ys) r = (keeps x y r.0, zip-map S f g keeps xs ys r.1)

  -- two functions that agree at related items give one list
  pub zip-map_same : {C : Type 0} (f : A → C) (g : B → C) → ((x : A) (y : B) → R x y → g y ≡ f x) → (xs : List A) (ys : List B) → AllZip R xs ys → map g ys ≡ map f xs
  zip-map_same f g same [] [] r = refl
  zip-map_same f g same (x ∷ xs) [] r = elim r [ ]
  zip-map_same f g same [] (y ∷ ys) r = elim r [ ]
  zip-map_same f g same (x ∷ xs) (y ∷ ys) r = rw (same x y r.0, zip-map_same f g same xs ys r.1) refl

-- two functions that give one list agree at each member
pub agree_at : {X Y : Type 0} (f g : X → Y) (xs : List X) → map f xs ≡ map g xs → (x : X) → Contains xs x → f x ≡ g x
agree_at f g [] e x h = absurd (Contains-nil x h)
agree_at f g (y ∷ ys) e x h =
    let parts : (f y ≡ g y) × (map f ys ≡ map g ys) = (cc, cc) in
    each_cons (λ z. f z ≡ g z) y ys parts.0 (agree_at f g ys parts.1) x h
