-- Pieces and numbers that have grown by one more.
use Rattle.std.proofs.Common.{◌≡◌, ℕ, zero, suc, ◌+◌, ◌-◌, ◌<◌, Bool, true, false, Some, List, [], ◌∷◌, ◌++◌, length, take, map, flat_map, slice_get, get_or, max, arith, refl, sym, ap, ap₂, ◌∙◌, append_assoc}
use Rattle.std.specs.Prelude.{◌||◌}
use Rattle.std.specs.List.{list_any, range_with_len}
use Rattle.std.proofs.lemmas.List.Folds.{list_any-append}
use Rattle.std.proofs.lemmas.List.{append-nil, take_more, map-append}
use Rattle.std.proofs.lemmas.Grind.{take_at_read, flat_map-append}
use Rattle.std.proofs.lemmas.Option.{slice_get_within, get_or_from_slice_get}
use Rattle.card_sets.specs.declared.card.Suit.{Suit}
use Rattle.card_sets.specs.Cards.{card_of}
use Rattle.html_text.specs.declared.page.Piece.{Piece}
use Rattle.page_text.specs.Signs.{rank_mark}
use Rattle.page_text.specs.Lines.{cell}
use Rattle.page_text.specs.Verdicts.{greatest}

-- the pieces of one thing more
piece_more : {X : Type 0} (f : X → List Piece) (start now next : List Piece) (before after : List X) (x : X) → after ≡ before ++ x ∷ []
    → now ≡ start ++ flat_map f before → next ≡ now ++ f x → next ≡ start ++ flat_map f after
piece_more f start now next before after x more so_far grew =
    grew ∙ ap (λ t. t ++ f x) so_far ∙ append_assoc start (flat_map f before) (f x)
    ∙ ap (λ t. start ++ t) (ap (λ t. flat_map f before ++ t) (sym (append-nil (f x))) ∙ sym (flat_map-append f before (x ∷ [])) ∙ ap (flat_map f) (sym more))

-- the cell of one bit more
pub cell_more : (start now next : List Piece) (vector : List Bool) (k : ℕ) (bit : Bool) → slice_get vector k ≡ Some bit
    → now ≡ start ++ flat_map cell (take k vector) → next ≡ now ++ cell bit → next ≡ start ++ flat_map cell (take (k + 1) vector)
cell_more start now next vector k bit here so_far grew =
    let inside = slice_get_within vector k bit here in
    let is = get_or_from_slice_get vector k bit bit here in
    piece_more cell start now next (take k vector) (take (k + 1) vector) bit (take_more vector k bit inside ∙ ap (λ b. take k vector ++ b ∷ []) is) so_far grew

pub range_more : (a n : ℕ) → range_with_len a (suc n) ≡ range_with_len a n ++ (a + n) ∷ []
range_more a zero = let none : a ≡ a + 0 = omega arith in ap (λ (x : ℕ). x ∷ []) none
range_more a (suc n) =
    let last : a + 1 + n ≡ a + suc n = omega arith in
    ap (λ (xs : List ℕ). a ∷ xs) (range_more (a + 1) n ∙ ap (λ (x : ℕ). range_with_len (a + 1) n ++ x ∷ []) last)

-- the pieces of one number more, counted from 1
pub number_more : (f : ℕ → List Piece) (start now next : List Piece) (k : ℕ) → now ≡ start ++ flat_map f (range_with_len 1 k) → next ≡ now ++ f (k + 1) → next ≡ start ++ flat_map f (range_with_len 1 (k + 1))
number_more f start now next k so_far grew =
    let one : k + 1 ≡ suc k = omega arith in
    let at : 1 + k ≡ k + 1 = omega arith in
    piece_more f start now next (range_with_len 1 k) (range_with_len 1 (k + 1)) (k + 1)
    (ap (range_with_len 1) one ∙ range_more 1 k ∙ ap (λ (x : ℕ). range_with_len 1 k ++ x ∷ []) at) so_far grew

-- the pieces of one place more, counted from 0
pub place_more : (f : ℕ → List Piece) (start now next : List Piece) (k : ℕ) → now ≡ start ++ flat_map f (range_with_len 0 k) → next ≡ now ++ f k
    → next ≡ start ++ flat_map f (range_with_len 0 (k + 1))
place_more f start now next k so_far grew =
    let one : k + 1 ≡ suc k = omega arith in
    let at : 0 + k ≡ k = omega arith in
    piece_more f start now next (range_with_len 0 k) (range_with_len 0 (k + 1)) k
    (ap (range_with_len 0) one ∙ range_more 0 k ∙ ap (λ (x : ℕ). range_with_len 0 k ++ x ∷ []) at) so_far grew

-- whether one of the places passes a test, with one place more
pub any_more : (p : ℕ → Bool) (found here : Bool) (k : ℕ) → found ≡ list_any p (range_with_len 0 k) → here ≡ p k → (found || here) ≡ list_any p (range_with_len 0 (k + 1))
any_more p found here k so_far is =
    let one : k + 1 ≡ suc k = omega arith in
    let at : 0 + k ≡ k = omega arith in
    let last : list_any p (k ∷ []) ≡ p k = or_none (p k) in
    ap₂ (λ (a b : Bool). a || b) so_far is ∙ ap (λ b. list_any p (range_with_len 0 k) || b) (sym last) ∙ sym (list_any-append p (range_with_len 0 k) (k ∷ []))
    ∙ sym (ap (list_any p) (ap (range_with_len 0) one ∙ range_more 0 k ∙ ap (λ (x : ℕ). range_with_len 0 k ++ x ∷ []) at))
  where
    or_none : (b : Bool) → (b || false) ≡ b
    or_none true = refl
    or_none false = refl

-- the mark of one rank more
pub rank_more : (may sure : List ℕ) (suit : Suit) (start now next : List Piece) (k rank card : ℕ) → rank ≡ 14 - k → card ≡ card_of suit rank
    → now ≡ start ++ flat_map (λ place. rank_mark may sure (card_of suit (14 - place))) (range_with_len 0 k) → next ≡ now ++ rank_mark may sure card
    → next ≡ start ++ flat_map (λ place. rank_mark may sure (card_of suit (14 - place))) (range_with_len 0 (k + 1))
rank_more may sure suit start now next k rank card rank-is card-is so_far grew =
    let here : card ≡ card_of suit (14 - k) = card-is ∙ ap (card_of suit) rank-is in
    place_more (λ place. rank_mark may sure (card_of suit (14 - place))) start now next k so_far (grew ∙ ap (λ c. now ++ rank_mark may sure c) here)

greatest-push : (numbers : List ℕ) (n : ℕ) → greatest (numbers ++ n ∷ []) ≡ max (greatest numbers) n
greatest-push [] n = omega arith
greatest-push (m ∷ numbers) n =
    let later = greatest-push numbers n in
    let whole : max m (max (greatest numbers) n) ≡ max (max m (greatest numbers)) n = omega arith in
    ap (max m) later ∙ whole

-- the greatest with one more
pub greatest_more : {X : Type 0} (f : X → ℕ) (xs : List X) (k : ℕ) (x : X) (best next : ℕ) → k < length xs → x ≡ get_or xs k x
    → best ≡ greatest (map f (take k xs)) → next ≡ max best (f x) → next ≡ greatest (map f (take (k + 1) xs))
greatest_more f xs k x best next inside is so_far greater =
    let more : take (k + 1) xs ≡ take k xs ++ x ∷ [] = (take_at_read xs k x inside).1 ∙ ap (λ y. take k xs ++ y ∷ []) (sym is) in
    greater ∙ ap (λ b. max b (f x)) so_far ∙ sym (ap (λ ys. greatest (map f ys)) more ∙ ap greatest (map-append f (take k xs) (x ∷ [])) ∙ greatest-push (map f (take k xs)) (f x))
