-- The size of the tree.
use Rattle.std.proofs.Common.{◌≡◌, ◌⊎◌, ◌+◌, ◌∙◌, ◌≤◌, ℕ, zero, suc, true, false, List, [], ◌∷◌, Contains, sum_by, refl, sym, ap, ap₂, inl, inr, ⊎_elim, arith}
use Rattle.std.proofs.lemmas.Bool.{cases_Bool, cond-true, cond-false, cond_both}
use Rattle.std.proofs.lemmas.List.Sums.{sum_by-cons}
use Rattle.strategy_games.specs.Games.{Game, IsLawful}
use Rattle.strategy_games.specs.Plans.{stops, size_within, tree_size}
use Rattle.strategy_games.specs.Laws.{HasSizes}
use Rattle.strategy_games.proofs.Lists.{Contains-here, Contains-there, Contains-nil, Contains-cons, filled_or_nil}

module _ {X : Type 0} where
  sum_by-agree : (f h : X → ℕ) (xs : List X) → ((x : X) → Contains xs x → f x ≡ h x) → sum_by f xs ≡ sum_by h xs
  sum_by-agree f h [] e = refl
  sum_by-agree f h (x ∷ xs) e = sum_by-cons f x xs ∙ ap₂ (λ (a b : ℕ). a + b) (e x (Contains-here x xs)) (sum_by-agree f h xs (λ y m. e y (Contains-there x xs y m))) ∙ sym (sum_by-cons h x xs)

  sum_by-mono : (f h : X → ℕ) (xs : List X) → ((x : X) → f x ≤ h x) → sum_by f xs ≤ sum_by h xs
  sum_by-mono f h [] e = omega arith
  sum_by-mono f h (x ∷ xs) e = let others = sum_by-mono f h xs e in omega (arith, sum_by-cons f x xs, sum_by-cons h x xs, e x)

  sum_by-part : (f : X → ℕ) (xs : List X) (x : X) → Contains xs x → f x ≤ sum_by f xs
  sum_by-part f [] x m = absurd (Contains-nil x m)
  sum_by-part f (y ∷ ys) x m = ⊎_elim
      (λ (e : y ≡ x). let same : f y ≡ f x = ap f e in omega (arith, sum_by-cons f y ys))
      (λ (k : Contains ys x). let later = sum_by-part f ys x k in omega (arith, sum_by-cons f y ys))
      (Contains-cons y ys x m)

module _ {N S C : Type 0} (g : Game N S C) where
  size-stopped : (k : ℕ) (n : N) (m : ℕ) → stops g n m ≡ true → size_within g k n m ≡ 1
  size-stopped zero n m e = refl
  size-stopped (suc k) n zero e = refl
  size-stopped (suc k) n (suc m) e = cond-true (g.is_decided n) 1 _ e

  size-ours : (k : ℕ) (n : N) (m : ℕ) → g.is_decided n ≡ false → g.is_ours n ≡ true → size_within g (suc k) n (suc m) ≡ 1 + sum_by (λ c. size_within g k (g.child n c) m) (g.choices n)
  size-ours k n m live ours = cond-false (g.is_decided n) 1 _ live ∙ cond-true (g.is_ours n) (1 + sum_by (λ c. size_within g k (g.child n c) m) (g.choices n)) _ ours

  size-theirs : (k : ℕ) (n : N) (m : ℕ) → g.is_decided n ≡ false → g.is_ours n ≡ false → size_within g (suc k) n (suc m) ≡ 1 + sum_by (λ c. size_within g k (g.child n c) (suc m)) (g.choices n)
  size-theirs k n m live theirs = cond-false (g.is_decided n) 1 _ live ∙ cond-false (g.is_ours n) (1 + sum_by (λ c. size_within g k (g.child n c) m) (g.choices n)) (1 + sum_by (λ c. size_within g k (g.child n c) (suc m)) (g.choices n)) theirs

  size-pos : (k : ℕ) (n : N) (m : ℕ) → 1 ≤ size_within g k n m
  size-pos zero n m = omega arith
  size-pos (suc k) n zero = omega arith
  size-pos (suc k) n (suc m) = cond_both (g.is_decided n) 1 _ (λ x. 1 ≤ x) (λ e. omega arith) (λ e. cond_both (g.is_ours n) (1 + sum_by (λ c. size_within g k (g.child n c) m) (g.choices n)) (1 + sum_by (λ c. size_within g k (g.child n c) (suc m)) (g.choices n)) (λ x. 1 ≤ x) (λ o. omega arith) (λ o. omega arith))

  size-rises : (k : ℕ) (n : N) (m : ℕ) → size_within g k n m ≤ size_within g k n (suc m)
  size-rises zero n m = omega arith
  size-rises (suc k) n zero = size-pos (suc k) n 1
  size-rises (suc k) n (suc m) = go (cases_Bool (g.is_decided n)) (cases_Bool (g.is_ours n)) (λ c. size-rises k (g.child n c) m) (λ c. size-rises k (g.child n c) (suc m))
    where
      go : (g.is_decided n ≡ true) ⊎ (g.is_decided n ≡ false) → (g.is_ours n ≡ true) ⊎ (g.is_ours n ≡ false)
          → ((c : C) → size_within g k (g.child n c) m ≤ size_within g k (g.child n c) (suc m)) → ((c : C) → size_within g k (g.child n c) (suc m) ≤ size_within g k (g.child n c) (suc (suc m)))
          → size_within g (suc k) n (suc m) ≤ size_within g (suc k) n (suc (suc m))
      go (inl e) _ h j = omega (arith, size-stopped (suc k) n (suc m) e, size-stopped (suc k) n (suc (suc m)) e)
      go (inr live) (inl ours) h j = let sums = sum_by-mono (λ c. size_within g k (g.child n c) m) (λ c. size_within g k (g.child n c) (suc m)) (g.choices n) h in omega (arith, size-ours k n m live ours, size-ours k n (suc m) live ours)
      go (inr live) (inr theirs) h j = let sums = sum_by-mono (λ c. size_within g k (g.child n c) (suc m)) (λ c. size_within g k (g.child n c) (suc (suc m))) (g.choices n) j in omega (arith, size-theirs k n m live theirs, size-theirs k n (suc m) live theirs)

  module _ (Sound : N → Type 0) (law : IsLawful g Sound) where
    no_choice : (n : N) → Sound n → g.is_decided n ≡ false → g.cards_left n ≤ 0 → g.choices n ≡ []
    no_choice n sound live l = ⊎_elim (λ (e : g.choices n ≡ []). e) (λ (some : (c : C) × Contains (g.choices n) c). let less = law.falls n some.0 sound live some.1 in absurd (omega arith)) (filled_or_nil (g.choices n))

    no_children : (k : ℕ) (n : N) (m : ℕ) → Sound n → g.cards_left n ≤ 0 → size_within g k n m ≡ 1
    no_children zero n m sound l = refl
    no_children (suc k) n zero sound l = refl
    no_children (suc k) n (suc m) sound l = go (cases_Bool (g.is_decided n)) (cases_Bool (g.is_ours n))
      where
        go : (g.is_decided n ≡ true) ⊎ (g.is_decided n ≡ false) → (g.is_ours n ≡ true) ⊎ (g.is_ours n ≡ false) → size_within g (suc k) n (suc m) ≡ 1
        go (inl e) _ = size-stopped (suc k) n (suc m) e
        go (inr live) (inl ours) = size-ours k n m live ours ∙ ap (λ (cs : List C). 1 + sum_by (λ c. size_within g k (g.child n c) m) cs) (no_choice n sound live l)
        go (inr live) (inr theirs) = size-theirs k n m live theirs ∙ ap (λ (cs : List C). 1 + sum_by (λ c. size_within g k (g.child n c) (suc m)) cs) (no_choice n sound live l)

    -- any bound on the cards left gives the same size
    size-bound : (k j : ℕ) (n : N) (m : ℕ) → Sound n → g.cards_left n ≤ k → g.cards_left n ≤ j → size_within g k n m ≡ size_within g j n m
    size-bound zero j n m sound a b = sym (no_children j n m sound a)
    size-bound (suc k) zero n m sound a b = no_children (suc k) n m sound b
    size-bound (suc k) (suc j) n zero sound a b = refl
    size-bound (suc k) (suc j) n (suc m) sound a b = go (cases_Bool (g.is_decided n)) (cases_Bool (g.is_ours n))
        (λ live i c mem. let less = law.falls n c sound live mem in size-bound k j (g.child n c) i (law.holds n c sound mem) (omega arith) (omega arith))
      where
        go : (g.is_decided n ≡ true) ⊎ (g.is_decided n ≡ false) → (g.is_ours n ≡ true) ⊎ (g.is_ours n ≡ false)
            → (g.is_decided n ≡ false → (i : ℕ) (c : C) → Contains (g.choices n) c → size_within g k (g.child n c) i ≡ size_within g j (g.child n c) i) → size_within g (suc k) n (suc m) ≡ size_within g (suc j) n (suc m)
        go (inl e) _ h = size-stopped (suc k) n (suc m) e ∙ sym (size-stopped (suc j) n (suc m) e)
        go (inr live) (inl ours) h = size-ours k n m live ours ∙ ap (λ (x : ℕ). 1 + x) (sum_by-agree (λ c. size_within g k (g.child n c) m) (λ c. size_within g j (g.child n c) m) (g.choices n) (h live m)) ∙ sym (size-ours j n m live ours)
        go (inr live) (inr theirs) h = size-theirs k n m live theirs ∙ ap (λ (x : ℕ). 1 + x) (sum_by-agree (λ c. size_within g k (g.child n c) (suc m)) (λ c. size_within g j (g.child n c) (suc m)) (g.choices n) (h live (suc m))) ∙ sym (size-theirs j n m live theirs)

    tree_size-ours : (n : N) (m : ℕ) → Sound n → g.is_decided n ≡ false → g.is_ours n ≡ true → tree_size g n (suc m) ≡ 1 + sum_by (λ c. tree_size g (g.child n c) m) (g.choices n)
    tree_size-ours n m sound live ours = size-bound (g.cards_left n) (suc (g.cards_left n)) n (suc m) sound (omega arith) (omega arith) ∙ size-ours (g.cards_left n) n m live ours
        ∙ ap (λ (x : ℕ). 1 + x) (sum_by-agree (λ c. size_within g (g.cards_left n) (g.child n c) m) (λ c. tree_size g (g.child n c) m) (g.choices n)
        (λ c mem. let less = law.falls n c sound live mem in size-bound (g.cards_left n) (g.cards_left (g.child n c)) (g.child n c) m (law.holds n c sound mem) (omega arith) (omega arith)))

    tree_size-theirs : (n : N) (m : ℕ) → Sound n → g.is_decided n ≡ false → g.is_ours n ≡ false → tree_size g n (suc m) ≡ 1 + sum_by (λ c. tree_size g (g.child n c) (suc m)) (g.choices n)
    tree_size-theirs n m sound live theirs = size-bound (g.cards_left n) (suc (g.cards_left n)) n (suc m) sound (omega arith) (omega arith) ∙ size-theirs (g.cards_left n) n m live theirs
        ∙ ap (λ (x : ℕ). 1 + x) (sum_by-agree (λ c. size_within g (g.cards_left n) (g.child n c) (suc m)) (λ c. tree_size g (g.child n c) (suc m)) (g.choices n)
        (λ c mem. let less = law.falls n c sound live mem in size-bound (g.cards_left n) (g.cards_left (g.child n c)) (g.child n c) (suc m) (law.holds n c sound mem) (omega arith) (omega arith)))

    pub sizes : HasSizes g Sound
    sizes = record {
      at_stop = λ n m e. size-stopped (g.cards_left n) n m e;
      at_declarer = tree_size-ours;
      at_defender = tree_size-theirs;
      monotone = λ n m. size-rises (g.cards_left n) n m;
      declarers_child = λ n m c sound live ours mem. let part = sum_by-part (λ d. tree_size g (g.child n d) m) (g.choices n) c mem in let whole = tree_size-ours n m sound live ours in omega arith;
      defenders_child = λ n m c sound live theirs mem. let part = sum_by-part (λ d. tree_size g (g.child n d) (suc m)) (g.choices n) c mem in let whole = tree_size-theirs n m sound live theirs in omega arith;
    }
