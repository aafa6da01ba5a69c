-- Double dummy's results, layout by layout.
use Rattle.std.proofs.Common.{◌≡◌, ℕ, suc, ◌+◌, ◌-◌, ◌<◌, ◌≤◌, Bool, false, List, [], ◌∷◌, ◌++◌, map, take, set, replicate, length, get_or, refl, sym, ap, ap₂, subst, ◌∙◌, arith, append_assoc, append-nil, length-append}
use Rattle.std.specs.Prelude.{Some, slice_get}
use Rattle.std.proofs.lemmas.Option.{get_or_from_slice_get}
use Rattle.std.proofs.lemmas.List.{length-map, length-take, length-replicate, take_all, map_more}
use Rattle.trick_rules.specs.Positions.{PositionValue}
use Rattle.trick_rules.specs.Play.{makes}

-- the results of the first i layouts, and 0 for the others
abbrev pub results_upto : (List ℕ → Bool) → List (List ℕ) → ℕ → List Bool
results_upto p xs i = map p (take i xs) ++ replicate (length xs - i) false

pub results_upto-zero : (p : List ℕ → Bool) (xs : List (List ℕ)) → replicate (length xs) false ≡ results_upto p xs 0
results_upto-zero p xs = ap (λ n. replicate n false) none
  where
    none : length xs ≡ length xs - 0
    none = omega arith

length_first : (p : List ℕ → Bool) (xs : List (List ℕ)) (i : ℕ) → i ≤ length xs → length (map p (take i xs)) ≡ i
length_first p xs i low = length-map (take i xs) p ∙ omega (arith, length-take i xs)

pub length-results_upto : (p : List ℕ → Bool) (xs : List (List ℕ)) (i : ℕ) → i ≤ length xs → length (results_upto p xs i) ≡ length xs
length-results_upto p xs i low = omega (arith, length-append (map p (take i xs)) (replicate (length xs - i) false), length_first p xs i low, length-replicate (length xs - i) false)

set-between : (before after : List Bool) (old new : Bool) → set (before ++ old ∷ after) (length before) new ≡ before ++ new ∷ after
set-between [] after old new = refl
set-between (b ∷ before) after old new = ap (λ bits. b ∷ bits) (set-between before after old new)

pub results_upto-more : (p : List ℕ → Bool) (xs : List (List ℕ)) (i : ℕ) (x : List ℕ) → i < length xs → x ≡ get_or xs i x → set (results_upto p xs i) i (p x) ≡ results_upto p xs (i + 1)
results_upto-more p xs i x low is =
    let first = map p (take i xs) in
    let rest = replicate (length xs - (i + 1)) false in
    let left : length xs - i ≡ suc (length xs - (i + 1)) = omega arith in
    let here : map p (take (i + 1) xs) ≡ first ++ p x ∷ [] = map_more p xs i x low ∙ ap (λ y. first ++ p y ∷ []) (sym is) in
    subst (λ n. set (first ++ replicate n false) i (p x) ≡ results_upto p xs (i + 1)) (sym left)
    (subst (λ n. set (first ++ false ∷ rest) n (p x) ≡ results_upto p xs (i + 1)) (length_first p xs i (omega arith))
    (set-between first rest false (p x) ∙ sym (append_assoc first (p x ∷ []) rest) ∙ ap (λ bits. bits ++ rest) (sym here)))

-- one more result is set
pub one_more_result : (p : List ℕ → Bool) (xs : List (List ℕ)) (i : ℕ) (x : List ℕ) (bit : Bool) (made next : List Bool) → i < length xs → slice_get xs i ≡ Some x
    → made ≡ results_upto p xs i → bit ≡ p x → next ≡ set made i bit → next ≡ results_upto p xs (i + 1)
one_more_result p xs i x bit made next low at so_far right is =
    is ∙ ap₂ (λ (bits : List Bool) (b : Bool). set bits i b) so_far right ∙ results_upto-more p xs i x low (sym (get_or_from_slice_get xs i x x at))

pub results_upto-all : (t : PositionValue) (xs : List (List ℕ)) (i : ℕ) → length xs ≤ i → results_upto (λ left. makes (record { position = t; left = left })) xs i ≡ map (λ s. makes s) (map (λ left. record { position = t; left = left }) xs)
results_upto-all t xs i all =
    let none : length xs - i ≡ 0 = omega arith in
    subst (λ n. map (λ left. makes (record { position = t; left = left })) (take i xs) ++ replicate n false ≡ map (λ s. makes s) (map (λ left. record { position = t; left = left }) xs)) (sym none)
    (append-nil (map (λ left. makes (record { position = t; left = left })) (take i xs)) ∙ ap (map (λ left. makes (record { position = t; left = left }))) (take_all i xs all) ∙ go xs)
  where
    go : (xs : List (List ℕ)) → map (λ left. makes (record { position = t; left = left })) xs ≡ map (λ s. makes s) (map (λ left. record { position = t; left = left }) xs)
    go [] = refl
    go (x ∷ xs) = ap (λ bits. makes (record { position = t; left = x }) ∷ bits) (go xs)
