-- A list with what is added for one number more.
use Rattle.std.proofs.Common.{◌≡◌, ◌∙◌, ℕ, ◌+◌, List, [], ◌∷◌, ◌++◌, flat_map, ap, sym, arith}
use Rattle.std.specs.List.{range_with_len}
use Rattle.std.proofs.lemmas.List.{map-id, flat_map_more}
use Rattle.std.proofs.lemmas.List.FromFn.{map-range_with_len_more}

range_more : (n : ℕ) → range_with_len 0 (n + 1) ≡ range_with_len 0 n ++ n ∷ []
range_more n =
    sym (map-id (range_with_len 0 (n + 1))) ∙ map-range_with_len_more (λ (i : ℕ). i) 0 n n (omega arith)
    ∙ ap (λ (is : List ℕ). is ++ n ∷ []) (map-id (range_with_len 0 n))

pub listed_more : {A : Type 0} (f : ℕ → List A) (start now next : List A) (n : ℕ) → now ≡ start ++ flat_map f (range_with_len 0 n) → next ≡ now ++ f n
    → next ≡ start ++ flat_map f (range_with_len 0 (n + 1))
listed_more f start now next n so_far grew =
    grew ∙ ap (λ items. items ++ f n) so_far ∙ flat_map_more f start (range_with_len 0 n) n
    ∙ ap (λ is. start ++ flat_map f is) (sym (range_more n))
