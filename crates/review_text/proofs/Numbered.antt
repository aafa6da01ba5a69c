-- The games of a list with their numbers, with one game more.
use Rattle.std.proofs.Common.{◌≡◌, ◌∙◌, ◌+◌, ◌<◌, ℕ, List, [], ◌∷◌, ◌++◌, length, take, get_or, flat_map, ap, sym, arith}
use Rattle.std.specs.List.{enumerate_from}
use Rattle.std.proofs.lemmas.List.{flat_map_more, length-take-le, take_more}

enumerate_from-push : {X : Type 0} (n : ℕ) (xs : List X) (x : X) → enumerate_from n (xs ++ x ∷ []) ≡ enumerate_from n xs ++ (n + length xs, x) ∷ []
enumerate_from-push n [] x =
    let first : n ≡ n + 0 = omega arith in ap (λ k. (k, x) ∷ []) first
enumerate_from-push n (first ∷ xs) x =
    let place : n + 1 + length xs ≡ n + length (first ∷ xs) = omega arith in
    ap (λ numbered. (n, first) ∷ numbered) (enumerate_from-push (n + 1) xs x ∙ ap (λ k. enumerate_from (n + 1) xs ++ (k, x) ∷ []) place)

pub numbered_more : {X : Type 0} (xs : List X) (k : ℕ) (x : X) → k < length xs → x ≡ get_or xs k x
    → enumerate_from 1 (take (k + 1) xs) ≡ enumerate_from 1 (take k xs) ++ (k + 1, x) ∷ []
numbered_more xs k x inside is =
    let counted : length (take k xs) ≡ k = length-take-le k xs (omega arith) in
    let number : 1 + length (take k xs) ≡ k + 1 = omega arith in
    ap (enumerate_from 1) (take_more xs k x inside ∙ ap (λ y. take k xs ++ y ∷ []) (sym is)) ∙ enumerate_from-push 1 (take k xs) x
    ∙ ap (λ n. enumerate_from 1 (take k xs) ++ (n, x) ∷ []) number

-- a text that has grown by what is written of each of them
pub text_more : {X : Type 0} (written : ℕ × X → List ℕ) (start now next : List ℕ) (xs : List X) (k : ℕ) (x : X) → k < length xs → x ≡ get_or xs k x
    → now ≡ start ++ flat_map written (enumerate_from 1 (take k xs)) → next ≡ now ++ written (k + 1, x)
    → next ≡ start ++ flat_map written (enumerate_from 1 (take (k + 1) xs))
text_more written start now next xs k x inside is so_far grew =
    grew ∙ ap (λ t. t ++ written (k + 1, x)) so_far ∙ flat_map_more written start (enumerate_from 1 (take k xs)) (k + 1, x)
    ∙ ap (λ numbered. start ++ flat_map written numbered) (sym (numbered_more xs k x inside is))
