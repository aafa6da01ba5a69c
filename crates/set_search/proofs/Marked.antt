-- Layouts that are added to those of some cards.
use Rattle.std.proofs.Common.{Bool, Some, slice_get, ◌≡◌, ◌∙◌, ◌<◌, ◌⊎◌, ℕ, zero, suc, true, false, List, [], ◌∷◌, length, replicate, get_or, set, refl, sym, ap, subst, inl, inr, ⊎_elim, arith}
use Rattle.std.proofs.lemmas.Bool.{false≢true, cases_eq}
use Rattle.std.proofs.lemmas.List.{length-set}
use Rattle.card_sets.specs.SetWords.{has_card}
use Rattle.win_vectors.specs.Fronts.{Vector}
use Rattle.set_search.proofs.OurCards.{before, comes, first_or_later}

set_twice : (v : Vector) (i : ℕ) → set (set v i true) i true ≡ set v i true
set_twice [] i = refl
set_twice (b ∷ v) zero = refl
set_twice (b ∷ v) (suc i) = ap (λ (u : Vector). b ∷ u) (set_twice v i)

set_here : (vs : List Vector) (i : ℕ) (v : Vector) → i < length vs → get_or (set vs i v) i [] ≡ v
set_here [] i v low = absurd (omega (arith, low))
set_here (u ∷ vs) zero v low = refl
set_here (u ∷ vs) (suc i) v low = set_here vs i v (omega (arith, low))

set_elsewhere : (vs : List Vector) (i k : ℕ) (v : Vector) → (k ≡ i → ⊥) → get_or (set vs i v) k [] ≡ get_or vs k []
set_elsewhere [] i k v other = refl
set_elsewhere (u ∷ vs) zero zero v other = absurd (other refl)
set_elsewhere (u ∷ vs) zero (suc k) v other = refl
set_elsewhere (u ∷ vs) (suc i) zero v other = refl
set_elsewhere (u ∷ vs) (suc i) (suc k) v other = set_elsewhere vs i k v (λ e. other (ap suc e))

-- some cards have the layout more than before, the others have what they had; each of the cards that are marked has it, or is yet to come
pub record AreMarked (old now : List Vector) (cards rest : List ℕ) (place : ℕ) : Type 0 where
  pub width : length now ≡ length old
  pub part : (c : ℕ) → has_card rest c ≡ true → has_card cards c ≡ true
  pub each : (c : ℕ) → (get_or now c [] ≡ get_or old c []) ⊎ (get_or now c [] ≡ set (get_or old c []) place true)
  pub out : (c : ℕ) → has_card cards c ≡ false → get_or now c [] ≡ get_or old c []
  pub done : (c : ℕ) → has_card cards c ≡ true → (has_card rest c ≡ true) ⊎ (get_or now c [] ≡ set (get_or old c []) place true)

pub marked_none : (old : List Vector) (cards : List ℕ) (place : ℕ) → AreMarked old old cards cards place
marked_none old cards place = record {
  width = refl;
  part = λ c h. h;
  each = λ c. inl refl;
  out = λ c h. refl;
  done = λ c h. inl h;
}

module _ (old now : List Vector) (cards rest later : List ℕ) (place card : ℕ) (first : rest ≡ card ∷ later) (so : AreMarked old now cards rest place) where
  pub wide : place < length (get_or old card []) → place < length (get_or now card [])
  wide low = ⊎_elim
      (λ (e : get_or now card [] ≡ get_or old card []). subst (λ (v : Vector). place < length v) (sym e) low)
      (λ (e : get_or now card [] ≡ set (get_or old card []) place true). subst (λ (k : ℕ). place < k) (sym (ap (λ (v : Vector). length v) e ∙ length-set (get_or old card []) place true)) low)
      (so.each card)

  -- what is there after the card is marked
  now_there : set (get_or now card []) place true ≡ set (get_or old card []) place true
  now_there = ⊎_elim
      (λ (e : get_or now card [] ≡ get_or old card []). ap (λ (v : Vector). set v place true) e)
      (λ (e : get_or now card [] ≡ set (get_or old card []) place true). ap (λ (v : Vector). set v place true) e ∙ set_twice (get_or old card []) place)
      (so.each card)

  comes_first : has_card rest card ≡ true
  comes_first = comes rest later card first

  pub marked_more : (new : List Vector) → card < length now → new ≡ set now card (set (get_or now card []) place true) → AreMarked old new cards later place
  marked_more new low is =
      let here : get_or new card [] ≡ set (get_or old card []) place true = ap (λ (vs : List Vector). get_or vs card []) is ∙ set_here now card (set (get_or now card []) place true) low ∙ now_there in
      let there : (c : ℕ) → (c ≡ card → ⊥) → get_or new c [] ≡ get_or now c [] = λ c other. ap (λ (vs : List Vector). get_or vs c []) is ∙ set_elsewhere now card c (set (get_or now card []) place true) other in
      let moved : (c : ℕ) → c ≡ card → get_or new c [] ≡ set (get_or old c []) place true = λ c e. subst (λ (x : ℕ). get_or new x [] ≡ set (get_or old x []) place true) (sym e) here in
      record {
        width = ap (λ (vs : List Vector). length vs) is ∙ length-set now card (set (get_or now card []) place true) ∙ so.width;
        part = λ c h. so.part c (before rest later card first c h);
        each = λ c. elim (cases_eq c card) as (λ _. (get_or new c [] ≡ get_or old c []) ⊎ (get_or new c [] ≡ set (get_or old c []) place true)) [
          | inl e ↦ inr (moved c e)
          | inr other ↦ ⊎_elim (λ (a : get_or now c [] ≡ get_or old c []). inl (there c other ∙ a)) (λ (b : get_or now c [] ≡ set (get_or old c []) place true). inr (there c other ∙ b)) (so.each c)
        ];
        out = λ c h. elim (cases_eq c card) as (λ _. get_or new c [] ≡ get_or old c []) [
          | inl e ↦ absurd (false≢true (sym h ∙ so.part c (subst (λ (x : ℕ). has_card rest x ≡ true) (sym e) comes_first)))
          | inr other ↦ there c other ∙ so.out c h
        ];
        done = λ c h. elim (cases_eq c card) as (λ _. (has_card later c ≡ true) ⊎ (get_or new c [] ≡ set (get_or old c []) place true)) [
          | inl e ↦ inr (moved c e)
          | inr other ↦ ⊎_elim
              (λ (yet : has_card rest c ≡ true). ⊎_elim
              (λ (e : card ≡ c). absurd (other (sym e)))
              (λ (after : has_card later c ≡ true). inl after)
              (first_or_later card later c (sym (ap (λ (xs : List ℕ). has_card xs c) first) ∙ yet)))
              (λ (b : get_or now c [] ≡ set (get_or old c []) place true). inr (there c other ∙ b))
              (so.done c h)
        ];
      }

pub marked_all : (old now : List Vector) (cards rest : List ℕ) (place : ℕ) → rest ≡ [] → AreMarked old now cards rest place → (c : ℕ) → has_card cards c ≡ true → get_or now c [] ≡ set (get_or old c []) place true
marked_all old now cards rest place none so c h = ⊎_elim
    (λ (yet : has_card rest c ≡ true). absurd (false≢true (ap (λ (xs : List ℕ). has_card xs c) (sym none) ∙ yet)))
    (λ (b : get_or now c [] ≡ set (get_or old c []) place true). b)
    (so.done c h)

pub one_of_many : (n k : ℕ) (v : Vector) → k < n → get_or (replicate n v) k [] ≡ v
one_of_many zero k v low = absurd (omega arith)
one_of_many (suc n) zero v low = refl
one_of_many (suc n) (suc k) v low = one_of_many n k v (omega arith)

pub got_bit : (v : Vector) (k : ℕ) (b : Bool) → slice_get v k ≡ Some b → get_or v k false ≡ b
got_bit [] k b h = cc
got_bit (x ∷ v) zero b h = cc
got_bit (x ∷ v) (suc k) b h = got_bit v k b h
