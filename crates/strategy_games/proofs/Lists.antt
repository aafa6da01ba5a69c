-- Members of lists, and the first of a list of which something holds.
use Rattle.std.proofs.Common.{◌≡◌, ◌⊎◌, ◌<◌, ◌++◌, ◌∙◌, ℕ, zero, suc, Bool, true, false, cond, List, [], ◌∷◌, length, get_or, map, filter, Contains, All, refl, sym, ap, subst, inl, inr, ⊎_elim, arith, zero-lt-suc, suc-le-suc, le_of_suc-le-suc}
use Rattle.std.specs.List.{AllZip}
use Rattle.strategy_games.specs.Choosing.{IsFirstOf}

module _ {X : Type 0} where
  pub Contains-here : (x : X) (xs : List X) → Contains (x ∷ xs) x
  Contains-here x xs = (0, zero-lt-suc (length xs), refl)

  pub Contains-there : (y : X) (xs : List X) (x : X) → Contains xs x → Contains (y ∷ xs) x
  Contains-there y xs x h = (suc h.0, suc-le-suc h.1, h.2)

  pub Contains-nil : (x : X) → Contains [] x → ⊥
  Contains-nil x h = let k : h.0 < 0 = h.1 in omega arith

  pub Contains-cons : (y : X) (xs : List X) (x : X) → Contains (y ∷ xs) x → (y ≡ x) ⊎ Contains xs x
  Contains-cons y xs x h = go h.0 h.1 h.2
    where
      go : (k : ℕ) → k < length (y ∷ xs) → get_or (y ∷ xs) k x ≡ x → (y ≡ x) ⊎ Contains xs x
      go zero l e = inl e
      go (suc k) l e = inr (k, le_of_suc-le-suc l, e)

  pub Contains-single : (y x : X) → Contains (y ∷ []) x → y ≡ x
  Contains-single y x h = ⊎_elim (λ (e : y ≡ x). e) (λ (k : Contains [] x). absurd (Contains-nil x k)) (Contains-cons y [] x h)

  -- P of each element, from P of the first and of the others
  pub each_cons : (P : X → Type 0) (y : X) (xs : List X) → P y → ((x : X) → Contains xs x → P x) → (x : X) → Contains (y ∷ xs) x → P x
  each_cons P y xs first others x h = ⊎_elim (λ (e : y ≡ x). subst P e first) (λ (k : Contains xs x). others x k) (Contains-cons y xs x h)

  pub Contains-append_first : (xs ys : List X) (x : X) → Contains xs x → Contains (xs ++ ys) x
  Contains-append_first [] ys x h = absurd (Contains-nil x h)
  Contains-append_first (y ∷ xs) ys x h = ⊎_elim (λ (e : y ≡ x). subst (λ z. Contains (y ∷ (xs ++ ys)) z) e (Contains-here y (xs ++ ys))) (λ (k : Contains xs x). Contains-there y (xs ++ ys) x (Contains-append_first xs ys x k)) (Contains-cons y xs x h)

  pub Contains-append_second : (xs ys : List X) (x : X) → Contains ys x → Contains (xs ++ ys) x
  Contains-append_second [] ys x h = h
  Contains-append_second (y ∷ xs) ys x h = Contains-there y (xs ++ ys) x (Contains-append_second xs ys x h)

  pub Contains-append : (xs ys : List X) (x : X) → Contains (xs ++ ys) x → Contains xs x ⊎ Contains ys x
  Contains-append [] ys x h = inr h
  Contains-append (y ∷ xs) ys x h = ⊎_elim
      (λ (e : y ≡ x). inl (subst (λ z. Contains (y ∷ xs) z) e (Contains-here y xs)))
      (λ (k : Contains (xs ++ ys) x). ⊎_elim (λ (l : Contains xs x). inl (Contains-there y xs x l)) (λ (l : Contains ys x). inr l) (Contains-append xs ys x k))
      (Contains-cons y (xs ++ ys) x h)

  -- `All` of a list, from each of its members
  pub All-from : (P : X → Type 0) (xs : List X) → ((x : X) → Contains xs x → P x) → All P xs
  All-from P [] h k d l = let no_place : k < 0 = l in absurd (omega arith)
  All-from P (x ∷ xs) h zero d l = h x (Contains-here x xs)
  All-from P (x ∷ xs) h (suc k) d l = All-from P xs (λ y m. h y (Contains-there x xs y m)) k d (le_of_suc-le-suc l)

  pub All-at : (P : X → Type 0) (xs : List X) → All P xs → (x : X) → Contains xs x → P x
  All-at P xs h x m = subst P m.2 (h m.0 x m.1)

  pub Contains-filter : (p : X → Bool) (xs : List X) (x : X) → Contains xs x → p x ≡ true → Contains (filter p xs) x
  Contains-filter p [] x h e = absurd (Contains-nil x h)
  Contains-filter p (y ∷ ys) x h e = ⊎_elim
      (λ (same : y ≡ x). rw (subst (λ z. p z ≡ true) (sym same) e) (subst (λ z. Contains (y ∷ filter p ys) z) same (Contains-here y (filter p ys))))
      (λ (k : Contains ys x). go (p y) (Contains-filter p ys x k e)) (Contains-cons y ys x h)
    where
      go : (b : Bool) → Contains (filter p ys) x → Contains (cond b (y ∷ filter p ys) (filter p ys)) x
      go true k = Contains-there y (filter p ys) x k
      go false k = k

  pub Contains-of_filter : (p : X → Bool) (xs : List X) (x : X) → Contains (filter p xs) x → Contains xs x × (p x ≡ true)
  Contains-of_filter p [] x h = absurd (Contains-nil x h)
  Contains-of_filter p (y ∷ ys) x h = go (λ k. Contains-of_filter p ys x k) (p y) refl h
    where
      go : (Contains (filter p ys) x → Contains ys x × (p x ≡ true)) → (b : Bool) → p y ≡ b → Contains (cond b (y ∷ filter p ys) (filter p ys)) x → Contains (y ∷ ys) x × (p x ≡ true)
      go rest true is k = ⊎_elim (λ (e : y ≡ x). (subst (λ z. Contains (y ∷ ys) z) e (Contains-here y ys), subst (λ z. p z ≡ true) e is)) (λ (l : Contains (filter p ys) x). let r = rest l in (Contains-there y ys x r.0, r.1)) (Contains-cons y (filter p ys) x k)
      go rest false is k = let r = rest k in (Contains-there y ys x r.0, r.1)

  -- a list is [] or has a first member
  pub filled_or_nil : (xs : List X) → (xs ≡ []) ⊎ ((x : X) × Contains xs x)
  filled_or_nil [] = inl refl
  filled_or_nil (x ∷ xs) = inr (x, Contains-here x xs)

  -- Where P can be told of each member, some member is the first of which it holds, or it holds of none.
  pub first_or_none : (P : X → Type 0) (xs : List X) → ((x : X) → Contains xs x → P x ⊎ (P x → ⊥)) → ((x : X) × IsFirstOf P xs x) ⊎ ((x : X) → Contains xs x → P x → ⊥)
  first_or_none P [] tell = inr (λ x m p. Contains-nil x m)
  first_or_none P (y ∷ ys) tell = ⊎_elim (λ (p : P y). inl (y, ([], ys, refl, λ x m q. Contains-nil x m, p))) (λ (fails : P y → ⊥). later fails (first_or_none P ys (λ x m. tell x (Contains-there y ys x m)))) (tell y (Contains-here y ys))
    where
      later : (P y → ⊥) → ((x : X) × IsFirstOf P ys x) ⊎ ((x : X) → Contains ys x → P x → ⊥) → ((x : X) × IsFirstOf P (y ∷ ys) x) ⊎ ((x : X) → Contains (y ∷ ys) x → P x → ⊥)
      later fails (inl f) = inl (f.0, (y ∷ f.1.0, f.1.1, ap (λ (l : List X). y ∷ l) f.1.2, each_cons (λ z. P z → ⊥) y f.1.0 fails f.1.3, f.1.4))
      later fails (inr none) = inr (each_cons (λ z. P z → ⊥) y ys fails none)

  -- that it holds of none is false where some member has it
  pub first_from : (P : X → Type 0) (xs : List X) → ((x : X) → Contains xs x → P x ⊎ (P x → ⊥)) → (x : X) → Contains xs x → P x → (y : X) × IsFirstOf P xs y
  first_from P xs tell x m p = ⊎_elim (λ (f : (y : X) × IsFirstOf P xs y). f) (λ (none : (y : X) → Contains xs y → P y → ⊥). absurd (none x m p)) (first_or_none P xs tell)

  pub first_is_member : (P : X → Type 0) (xs : List X) (x : X) → IsFirstOf P xs x → Contains xs x
  first_is_member P xs x f = subst (λ l. Contains l x) (sym f.2) (Contains-append_second f.0 (x ∷ f.1) x (Contains-here x f.1))

  cons_parts : (x y : X) (xs ys : List X) → x ∷ xs ≡ y ∷ ys → (x ≡ y) × (xs ≡ ys)
  cons_parts x y xs ys e = (cc, cc)

  pub split_cases : (e f : List X) (x y : X) (l m : List X) → e ++ x ∷ l ≡ f ++ y ∷ m → (x ≡ y) ⊎ (Contains f x ⊎ Contains e y)
  split_cases [] [] x y l m h = inl (cons_parts x y l m h).0
  split_cases [] (b ∷ f) x y l m h = inr (inl (subst (λ z. Contains (b ∷ f) z) (sym (cons_parts x b l (f ++ y ∷ m) h).0) (Contains-here b f)))
  split_cases (a ∷ e) [] x y l m h = inr (inr (subst (λ z. Contains (a ∷ e) z) (cons_parts a y (e ++ x ∷ l) m h).0 (Contains-here a e)))
  split_cases (a ∷ e) (b ∷ f) x y l m h = ⊎_elim (λ (s : x ≡ y). inl s)
      (⊎_elim (λ (k : Contains f x). inr (inl (Contains-there b f x k))) (λ (k : Contains e y). inr (inr (Contains-there a e y k))))
      (split_cases e f x y l m (cons_parts a b (e ++ x ∷ l) (f ++ y ∷ m) h).1)

  -- a member, with what stands before it and after it
  pub split_at : (xs : List X) (x : X) → Contains xs x → (before after : List X) × (xs ≡ before ++ x ∷ after)
  split_at [] x m = absurd (Contains-nil x m)
  split_at (y ∷ ys) x m = ⊎_elim (λ (e : y ≡ x). ([], ys, ap (λ (z : X). z ∷ ys) e))
      (λ (k : Contains ys x). let r = split_at ys x k in (y ∷ r.0, r.1, ap (λ (l : List X). y ∷ l) r.2))
      (Contains-cons y ys x m)

  pub first_unique : (P : X → Type 0) (xs : List X) (x y : X) → IsFirstOf P xs x → IsFirstOf P xs y → x ≡ y
  first_unique P xs x y f h = ⊎_elim (λ (e : x ≡ y). e)
      (⊎_elim (λ (k : Contains h.0 x). absurd (h.3 x k f.4)) (λ (k : Contains f.0 y). absurd (f.3 y k h.4)))
      (split_cases f.0 h.0 x y f.1 h.1 (sym f.2 ∙ h.2))

module _ {X Y : Type 0} where
  pub Contains-map : (f : X → Y) (xs : List X) (x : X) → Contains xs x → Contains (map f xs) (f x)
  Contains-map f [] x h = absurd (Contains-nil x h)
  Contains-map f (y ∷ ys) x h = ⊎_elim (λ (e : y ≡ x). subst (λ z. Contains (f y ∷ map f ys) (f z)) e (Contains-here (f y) (map f ys))) (λ (k : Contains ys x). Contains-there (f y) (map f ys) (f x) (Contains-map f ys x k)) (Contains-cons y ys x h)

  pub Contains-of_map : (f : X → Y) (xs : List X) (y : Y) → Contains (map f xs) y → (x : X) × Contains xs x × (f x ≡ y)
  Contains-of_map f [] y h = absurd (Contains-nil y h)
  Contains-of_map f (x ∷ xs) y h = ⊎_elim (λ (e : f x ≡ y). (x, Contains-here x xs, e)) (λ (k : Contains (map f xs) y). let r = Contains-of_map f xs y k in (r.0, Contains-there x xs r.0 r.1, r.2)) (Contains-cons (f x) (map f xs) y h)

  -- two functions that agree at each member give the same list
  pub map-agree : (f h : X → Y) (xs : List X) → ((x : X) → Contains xs x → f x ≡ h x) → map f xs ≡ map h xs
  map-agree f h [] e = refl
  map-agree f h (x ∷ xs) e = let first = e x (Contains-here x xs) in let others = map-agree f h xs (λ y m. e y (Contains-there x xs y m)) in λ i. first i ∷ others i

  pub AllZip-at : (R : X → Y → Type 0) (xs : List X) (ys : List Y) → AllZip R xs ys → (x : X) → Contains xs x → (y : Y) × Contains ys y × R x y
  AllZip-at R [] ys a x h = absurd (Contains-nil x h)
  AllZip-at R (x' ∷ xs) [] a x h = elim a [ ]
  AllZip-at R (x' ∷ xs) (y ∷ ys) a x h = ⊎_elim (λ (e : x' ≡ x). (y, Contains-here y ys, subst (λ z. R z y) e a.0)) (λ (k : Contains xs x). let r = AllZip-at R xs ys a.1 x k in (r.0, Contains-there y ys r.0 r.1, r.2)) (Contains-cons x' xs x h)

  pub AllZip-of : (R : X → Y → Type 0) (xs : List X) (ys : List Y) → AllZip R xs ys → (y : Y) → Contains ys y → (x : X) × Contains xs x × R x y
  AllZip-of R [] [] a y h = absurd (Contains-nil y h)
  AllZip-of R [] (y' ∷ ys) a y h = elim a [ ]
  AllZip-of R (x ∷ xs) [] a y h = elim a [ ]
  AllZip-of R (x ∷ xs) (y' ∷ ys) a y h = ⊎_elim (λ (e : y' ≡ y). (x, Contains-here x xs, subst (λ z. R x z) e a.0)) (λ (k : Contains ys y). let r = AllZip-of R xs ys a.1 y k in (r.0, Contains-there x xs r.0 r.1, r.2)) (Contains-cons y' ys y h)

  -- one partner for each member makes a list of partners
  pub AllZip-from : (R : X → Y → Type 0) (xs : List X) → ((x : X) → Contains xs x → (y : Y) × R x y) → (ys : List Y) × AllZip R xs ys
  AllZip-from R [] h = ([], tt)
  AllZip-from R (x ∷ xs) h = let first = h x (Contains-here x xs) in let others = AllZip-from R xs (λ z m. h z (Contains-there x xs z m)) in (first.0 ∷ others.0, (first.1, others.1))
