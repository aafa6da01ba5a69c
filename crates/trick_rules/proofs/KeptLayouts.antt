-- The layouts one after the other, as the loops over a node's layouts go through them.
use Rattle.std.proofs.Common.{◌≡◌, ℕ, suc, ◌+◌, ◌-◌, ◌<◌, ◌≤◌, Bool, true, false, ◌||◌, cond, List, [], ◌∷◌, ◌++◌, length, map, filter, get_or, set, take, replicate, refl, sym, ap, ◌∙◌, arith, append_assoc, length-append, take_all}
use Rattle.std.specs.List.{list_any}
use Rattle.std.proofs.Math.Nat.{sub-zero}
use Rattle.std.proofs.Math.Seq.{set-append_seam}
use Rattle.std.proofs.lemmas.List.{take_more, append-nil, length-map, length-take-le, length-replicate, map-append}
use Rattle.std.proofs.lemmas.List.Elements.{filter_more}
use Rattle.std.proofs.lemmas.List.Folds.{list_any_more}
use Rattle.card_sets.specs.SetWords.{has_card, cards_where}
use Rattle.card_sets.proofs.Sets.{has_card-cards_where, cards_where-agree}
use Rattle.trick_rules.specs.Positions.{PositionValue}
use Rattle.trick_rules.specs.Play.{take_out, legal_in}
use Rattle.trick_rules.specs.Nodes.{is_legal}
use Rattle.trick_rules.proofs.NodeLemmas.{state_of}

-- the choices of one layout more
pub choices_more : (t : PositionValue) (lefts : List (List ℕ)) (i : ℕ) (left : List ℕ) → i < length lefts → left ≡ get_or lefts i left
    → cards_where (λ c. has_card (cards_where (λ card. list_any (is_legal t card) (take i lefts))) c || has_card (legal_in (state_of t left)) c)
    ≡ cards_where (λ card. list_any (is_legal t card) (take (i + 1) lefts))
choices_more t lefts i left h here =
    cards_where-agree (λ c. has_card (cards_where (λ card. list_any (is_legal t card) (take i lefts))) c || has_card (legal_in (state_of t left)) c)
    (λ card. list_any (is_legal t card) (take (i + 1) lefts))
    (λ c low.
    ap (λ b. b || is_legal t c left) (has_card-cards_where (λ card. list_any (is_legal t card) (take i lefts)) c low)
    ∙ ap (λ hand. list_any (is_legal t c) (take i lefts) || is_legal t c hand) here
    ∙ sym (list_any_more (is_legal t c) lefts i left h))

-- ---- the layouts that a card keeps

-- the layouts among the first that are kept, each after the card
abbrev pub kept_upto : (List ℕ → Bool) → ℕ → List (List ℕ) → ℕ → List (List ℕ)
kept_upto p card xs i = map (take_out card) (filter p (take i xs))

-- the mask of the first layouts, and 0 at the others
abbrev pub mask_upto : (List ℕ → Bool) → List (List ℕ) → ℕ → List Bool
mask_upto p xs i = map p (take i xs) ++ replicate (length xs - i) false

module _ (p : List ℕ → Bool) (card : ℕ) (xs : List (List ℕ)) (i : ℕ) (x : List ℕ) (low : i < length xs) (here : x ≡ get_or xs i x) where
  filter_here : filter p (take (i + 1) xs) ≡ filter p (take i xs) ++ cond (p x) (x ∷ []) []
  filter_here = filter_more p xs i x low ∙ ap (λ y. filter p (take i xs) ++ cond (p y) (y ∷ []) []) (sym here)

  pub kept_set : p x ≡ true → kept_upto p card xs i ++ take_out card x ∷ [] ≡ kept_upto p card xs (i + 1)
  kept_set e = rw (filter_here, e) (sym (map-append (take_out card) (filter p (take i xs)) (x ∷ [])))

  pub kept_keep : p x ≡ false → kept_upto p card xs i ≡ kept_upto p card xs (i + 1)
  kept_keep e = rw (filter_here, e, append-nil) refl

  masked_here : (b : Bool) → p x ≡ b → map p (take (i + 1) xs) ≡ map p (take i xs) ++ b ∷ []
  masked_here b e = ap (map p) (take_more xs i x low) ∙ map-append p (take i xs) (get_or xs i x ∷ []) ∙ ap (λ c. map p (take i xs) ++ c ∷ []) (ap p (sym here) ∙ e)

  -- one zero of those that are left
  one_zero : replicate (length xs - i) false ≡ false ∷ replicate (length xs - (i + 1)) false
  one_zero =
      let e : length xs - i ≡ suc (length xs - (i + 1)) = omega arith in
      rw e refl

  mask_here : (b : Bool) → p x ≡ b → map p (take i xs) ++ b ∷ replicate (length xs - (i + 1)) false ≡ mask_upto p xs (i + 1)
  mask_here b e = rw (masked_here b e) (sym (append_assoc (map p (take i xs)) (b ∷ []) (replicate (length xs - (i + 1)) false)))

  length-masked : length (map p (take i xs)) ≡ i
  length-masked = length-map (take i xs) p ∙ length-take-le i xs (omega arith)

  set_here : set (map p (take i xs) ++ false ∷ replicate (length xs - (i + 1)) false) i true ≡ map p (take i xs) ++ true ∷ replicate (length xs - (i + 1)) false
  set_here =
      let seam = set-append_seam (map p (take i xs)) false (replicate (length xs - (i + 1)) false) true in
      rw length-masked at seam

  pub mask_set : p x ≡ true → set (mask_upto p xs i) i true ≡ mask_upto p xs (i + 1)
  mask_set e = rw one_zero (set_here ∙ mask_here true e)

  pub mask_keep : p x ≡ false → mask_upto p xs i ≡ mask_upto p xs (i + 1)
  mask_keep e = rw one_zero (mask_here false e)

  pub length-mask_upto : length (mask_upto p xs i) ≡ length xs
  length-mask_upto = length-append (map p (take i xs)) (replicate (length xs - i) false) ∙ rw (length-masked, length-replicate) (omega arith)

pub kept_all : (p : List ℕ → Bool) (card : ℕ) (xs : List (List ℕ)) (i : ℕ) → length xs ≤ i → kept_upto p card xs i ≡ map (take_out card) (filter p xs)
kept_all p card xs i h = ap (λ ys. map (take_out card) (filter p ys)) (take_all i xs h)

pub mask_none : (p : List ℕ → Bool) (xs : List (List ℕ)) → replicate (length xs) false ≡ mask_upto p xs 0
mask_none p xs = rw sub-zero refl

pub mask_all : (p : List ℕ → Bool) (xs : List (List ℕ)) (i : ℕ) → length xs ≤ i → mask_upto p xs i ≡ map p xs
mask_all p xs i h =
    let none : length xs - i ≡ 0 = omega arith in
    rw (none, take_all i xs h) (append-nil (map p xs))
