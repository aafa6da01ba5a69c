-- Texts that have grown by one piece more.
use Rattle.std.proofs.Common.{◌≡◌, ◌+◌, ◌<◌, ◌≤◌, ◌∙◌, ℕ, zero, suc, List, [], ◌∷◌, ◌++◌, length, take, flat_map, get_or, refl, sym, ap, arith, append_assoc}
use Rattle.std.proofs.lemmas.List.{append-nil, take_all}
use Rattle.std.proofs.lemmas.Grind.{take_at_read, flat_map-append}
use Rattle.log_texts.specs.LogText.{apart, listed, mark_before}

-- the first elements of a list, and one more
take-more : {X : Type 0} (xs : List X) (k : ℕ) (x : X) → k < length xs → x ≡ get_or xs k x → take (k + 1) xs ≡ take k xs ++ x ∷ []
take-more xs k x inside is = (take_at_read xs k x inside).1 ∙ ap (λ y. take k xs ++ y ∷ []) (sym is)

flat-more : {X : Type 0} (f : X → List ℕ) (xs : List X) (k : ℕ) (x : X) → k < length xs → x ≡ get_or xs k x
    → flat_map f (take (k + 1) xs) ≡ flat_map f (take k xs) ++ f x
flat-more {X} f xs k x inside is = ap (λ (ys : List X). flat_map f ys) (take-more xs k x inside is) ∙ flat_map-append f (take k xs) (x ∷ [])
    ∙ ap (λ t. flat_map f (take k xs) ++ t) (append-nil (f x))

-- one more piece with nothing between
pub piece_more : {X : Type 0} (f : X → List ℕ) (start now next : List ℕ) (xs : List X) (k : ℕ) (x : X) → k < length xs → x ≡ get_or xs k x
    → now ≡ start ++ flat_map f (take k xs) → next ≡ now ++ f x → next ≡ start ++ flat_map f (take (k + 1) xs)
piece_more f start now next xs k x inside is so_far grew =
    grew ∙ ap (λ t. t ++ f x) so_far ∙ append_assoc start (flat_map f (take k xs)) (f x)
    ∙ ap (λ t. start ++ t) (sym (flat-more f xs k x inside is))

-- one more piece with a mark before it
apart-more : {X : Type 0} (mark : ℕ) (piece : X → List ℕ) (xs : List X) (k : ℕ) (x : X) → k < length xs → x ≡ get_or xs k x
    → apart mark piece (take (k + 1) xs) ≡ apart mark piece (take k xs) ++ (mark_before mark k ++ piece x)
apart-more mark piece [] k x inside is = absurd (omega arith)
apart-more mark piece (y ∷ ys) zero x inside is = append-nil (piece y) ∙ ap piece (sym is)
apart-more {X} mark piece (y ∷ ys) (suc k) x inside is =
    let next : suc k + 1 ≡ suc (k + 1) = omega arith in
    ap (λ n. apart mark piece (take n (y ∷ ys))) next
    ∙ ap (λ t. piece y ++ t) (flat-more (λ z. mark ∷ piece z) ys k x (omega arith) is)
    ∙ sym (append_assoc (piece y) (flat_map (λ z. mark ∷ piece z) (take k ys)) (mark ∷ piece x))

pub marked_more : {X : Type 0} (mark : ℕ) (piece : X → List ℕ) (start now marked next : List ℕ) (xs : List X) (k : ℕ) (x : X) → k < length xs → x ≡ get_or xs k x
    → now ≡ start ++ apart mark piece (take k xs) → marked ≡ now ++ mark_before mark k → next ≡ marked ++ piece x
    → next ≡ start ++ apart mark piece (take (k + 1) xs)
marked_more mark piece start now marked next xs k x inside is so_far mark_is grew =
    grew ∙ ap (λ t. t ++ piece x) (mark_is ∙ ap (λ t. t ++ mark_before mark k) so_far)
    ∙ append_assoc (start ++ apart mark piece (take k xs)) (mark_before mark k) (piece x)
    ∙ append_assoc start (apart mark piece (take k xs)) (mark_before mark k ++ piece x)
    ∙ ap (λ t. start ++ t) (sym (apart-more mark piece xs k x inside is))

-- where there is a piece, all of them are the list
pub listed_all : {X : Type 0} (mark : ℕ) (piece : X → List ℕ) (start now : List ℕ) (xs : List X) (k : ℕ) → 1 ≤ length xs → length xs ≤ k
    → now ≡ start ++ apart mark piece (take k xs) → now ≡ start ++ listed mark piece xs
listed_all mark piece start now [] k some all is = absurd (omega arith)
listed_all {X} mark piece start now (x ∷ xs) k some all is = is ∙ ap (λ (ys : List X). start ++ apart mark piece ys) (take_all k (x ∷ xs) all)

pub listed_none : {X : Type 0} (mark : ℕ) (piece : X → List ℕ) (xs : List X) → length xs ≡ 0 → listed mark piece xs ≡ 45 ∷ []
listed_none mark piece [] none = refl
listed_none mark piece (x ∷ xs) none = absurd (omega arith)

pub nothing_yet : (start : List ℕ) → start ≡ start ++ []
nothing_yet start = sym (append-nil start)
