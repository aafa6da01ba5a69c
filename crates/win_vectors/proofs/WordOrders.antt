-- Counts, dominance and order of vectors in four words.
use Rattle.std.proofs.Common.{◌≡◌, ℕ, suc, zero, ◌+◌, ◌-◌, ◌*◌, ◌/◌, ◌%◌, ◌^◌, ◌<◌, ◌≤◌, Bool, true, false, not, ◌&&◌, List, [], ◌∷◌, ◌++◌, map, length, refl, sym, ap, ◌∙◌, arith, inl, inr, bit_and, bit_or, ◌==◌, slice_get, Some, get_or, eqb, lit<}
use Rattle.std.proofs.lemmas.Bool.{true≢false, false≢true, eq-eqb, eqb-true, cases_lt}
use Rattle.std.proofs.lemmas.Nat.{and_le_l, le_or_l, le_or_r, pow_pos}
use Rattle.std.specs.Bool.{Decides}
use Rattle.std.specs.declared.cmp.Ordering.TheVariants.{Less, Greater}
use Rattle.std.specs.Cmp.Lexicographic.{pointwise, pointwise_decides}
use Rattle.std.specs.Int.Bits.{or_zero_r}
use Rattle.std.specs.Simd.Lanes.{zip2, fold_l}
use Rattle.std.specs.Int.Count.{ones}
use Rattle.std.proofs.lemmas.List.Elements.{AllZip-get_or}
use Rattle.std.proofs.lemmas.Bool.Decides.{same_from_decides}
use Rattle.bit_lists.specs.Bits.{has_bit, bools}
use Rattle.bit_lists.specs.Words.{bit_of, bits_of}
use Rattle.bit_lists.proofs.Bools.{has_bit-zero}
use Rattle.bit_lists.proofs.Words.{bit_of-word, below_64, length-bits_of, get_or-bits_of, slice_get-bits_of, bits_of-none, bits_of-append, bits_of-word, same_word, same_words}
use Rattle.win_vectors.specs.Vectors.{ones_of, dominates, vector_order}
use Rattle.win_vectors.specs.Fronts.{Vector, IsAtLeast, Dominates}
use Rattle.win_vectors.specs.Words.{AreVectorWords, IsFirstOtherBit, IsLowestDifference}
use Rattle.win_vectors.proofs.VectorLemmas.{Decides-dominates, Dominates-from_places, ones_of-append, DifferAt, order-less, order-greater, vector_order-append}
use Rattle.win_vectors.proofs.WordBits.{has_bit-lacking, ones_of-bools, ones-zero}
use Rattle.win_vectors.proofs.WordVectors.{widths-same, same_long}

-- ---- dominance

-- what the second has and the first has not, word by word
abbrev pub lacks : List ℕ → List ℕ → List ℕ
lacks us vs = zip2 bit_and vs (map (λ u. 18446744073709551615 - u) us)

get_or-lacks : (us vs : List ℕ) (k : ℕ) → length us ≡ length vs → get_or (lacks us vs) k 0 ≡ bit_and (get_or vs k 0) (18446744073709551615 - get_or us k 0)
get_or-lacks [] [] k e = refl
get_or-lacks [] (v ∷ vs) k e = absurd (omega arith)
get_or-lacks (u ∷ us) [] k e = absurd (omega arith)
get_or-lacks (u ∷ us) (v ∷ vs) zero e = refl
get_or-lacks (u ∷ us) (v ∷ vs) (suc k) e = get_or-lacks us vs k (omega arith)

bit_of-lacks : (us vs : List ℕ) (i : ℕ) → length us ≡ length vs → ((k : ℕ) → get_or us k 0 < 2 ^ 64) → bit_of (lacks us vs) i ≡ (bit_of vs i && not (bit_of us i))
unfolding bit_of
bit_of-lacks us vs i e fit =
    ap (λ n. has_bit n (i % 64)) (get_or-lacks us vs (i / 64) e) ∙ has_bit-lacking (get_or us (i / 64) 0) (get_or vs (i / 64) 0) (i % 64) (fit (i / 64)) (below_64 i)

-- words or-ed together are 0 where each is
all_or-zero : (xs : List ℕ) (a : ℕ) → fold_l bit_or a xs ≡ 0 → (a ≡ 0) × ((k : ℕ) → get_or xs k 0 ≡ 0)
all_or-zero [] a e = (e, λ k. refl)
all_or-zero (x ∷ xs) a e =
    let rest = all_or-zero xs (bit_or a x) e in
    let first : a ≡ 0 = omega (arith, le_or_l a x, rest.0) in
    let here : x ≡ 0 = omega (arith, le_or_r a x, rest.0) in
    (first, λ k. each k here rest.1)
  where
    each : (k : ℕ) → x ≡ 0 → ((k : ℕ) → get_or xs k 0 ≡ 0) → get_or (x ∷ xs) k 0 ≡ 0
    each zero here others = here
    each (suc k) here others = others k

all_or-zeros : (xs : List ℕ) → ((k : ℕ) → get_or xs k 0 ≡ 0) → fold_l bit_or 0 xs ≡ 0
all_or-zeros [] h = refl
all_or-zeros (x ∷ xs) h =
    let here : x ≡ 0 = h 0 in
    rw here (all_or-zeros xs (λ k. h (suc k)))

at_least_when : (x y : Bool) → (y && not x) ≡ false → IsAtLeast x y
at_least_when true y e = tt
at_least_when false true e = absurd (true≢false e)
at_least_when false false e = tt

when_at_least : (x y : Bool) → IsAtLeast x y → (y && not x) ≡ false
when_at_least true true h = refl
when_at_least true false h = refl
when_at_least false true h = absurd h
when_at_least false false h = refl

bit_of-no_word : (ws : List ℕ) (i : ℕ) → ((k : ℕ) → get_or ws k 0 ≡ 0) → bit_of ws i ≡ false
unfolding bit_of
bit_of-no_word ws i none = ap (λ n. has_bit n (i % 64)) (none (i / 64)) ∙ has_bit-zero (i % 64)

lacks-fits : (us vs : List ℕ) (k : ℕ) → length us ≡ length vs → get_or vs k 0 < 2 ^ 64 → get_or (lacks us vs) k 0 < 2 ^ 64
lacks-fits us vs k e fits = rw (get_or-lacks us vs k e) (omega (arith, and_le_l (get_or vs k 0) (18446744073709551615 - get_or us k 0)))

-- a vector dominates where the other has no one that it lacks
pub Decides-lacks : (w : ℕ) (us vs : List ℕ) → AreVectorWords w us → AreVectorWords w vs → Decides (fold_l bit_or 0 (lacks us vs) == 0) (Dominates (bits_of w us) (bits_of w vs))
Decides-lacks w us vs h k =
    let long = same_long w w us vs h k in
    let same_width : length (bits_of w us) ≡ length (bits_of w vs) = length-bits_of w us ∙ sym (length-bits_of w vs) in
    let none_lacking : Dominates (bits_of w us) (bits_of w vs) → (i : ℕ) → bit_of (lacks us vs) i ≡ false = λ d i.
    bit_of-lacks us vs i long h.fit ∙ elim (cases_lt i w) [
      | inl within ↦
          let in_first : i < length (bits_of w us) = rw (length-bits_of w us) within in
          let at_least = AllZip-get_or IsAtLeast (bits_of w us) (bits_of w vs) i true true d in_first in
          when_at_least (bit_of us i) (bit_of vs i) (rw (get_or-bits_of w us i true within, get_or-bits_of w vs i true within) at at_least)
      | inr past ↦ rw (k.past i past) refl
    ] in (
      λ e.
          let none = (all_or-zero (lacks us vs) 0 (eqb-true (fold_l bit_or 0 (lacks us vs)) 0 e)).1 in
          Dominates-from_places (bits_of w us) (bits_of w vs) same_width (λ i within.
          let i_below : i < w = omega (arith, length-bits_of w us) in
          rw (get_or-bits_of w us i true i_below, get_or-bits_of w vs i true i_below)
          (at_least_when (bit_of us i) (bit_of vs i) (sym (bit_of-lacks us vs i long h.fit) ∙ bit_of-no_word (lacks us vs) i none))),
      λ d. eq-eqb (fold_l bit_or 0 (lacks us vs)) 0 (all_or-zeros (lacks us vs) (λ word.
          same_word (get_or (lacks us vs) word 0) 0 (lacks-fits us vs word long (k.fit word)) (pow_pos 64) (λ i low.
          sym (bit_of-word (lacks us vs) word i low) ∙ none_lacking d (64 * word + i) ∙ sym (has_bit-zero i)))),
    )

pub dominates-words : (w : ℕ) (us vs : List ℕ) → AreVectorWords w us → AreVectorWords w vs → (fold_l bit_or 0 (lacks us vs) == 0) ≡ dominates (bits_of w us) (bits_of w vs)
dominates-words w us vs h k =
    same_from_decides (fold_l bit_or 0 (lacks us vs) == 0) (dominates (bits_of w us) (bits_of w vs)) (Decides-lacks w us vs h k) (Decides-dominates (bits_of w us) (bits_of w vs))

-- of a vector of at most 64 bits the other words are 0
pub later_word-zero : (w : ℕ) (ws : List ℕ) (word : ℕ) → AreVectorWords w ws → w ≤ 64 → 0 < word → get_or ws word 0 ≡ 0
later_word-zero w ws word h narrow later =
    same_word (get_or ws word 0) 0 (h.fit word) (pow_pos 64) (λ i low. sym (bit_of-word ws word i low) ∙ h.past (64 * word + i) (omega arith) ∙ sym (has_bit-zero i))

lacks-first : (us vs : List ℕ) → length us ≡ 4 → length vs ≡ 4 → ((k : ℕ) → 0 < k → get_or vs k 0 ≡ 0) → fold_l bit_or 0 (lacks us vs) ≡ bit_and (get_or vs 0 0) (18446744073709551615 - get_or us 0 0)
lacks-first (u ∷ us) (v ∷ vs) first second none =
    later_none (lacks us vs) (bit_and v (18446744073709551615 - u)) (λ k. get_or-lacks us vs k (omega arith) ∙ ap (λ n. bit_and n (18446744073709551615 - get_or us k 0)) (none (suc k) (omega arith)))
  where
    later_none : (xs : List ℕ) (a : ℕ) → ((k : ℕ) → get_or xs k 0 ≡ 0) → fold_l bit_or a xs ≡ a
    later_none [] a h = refl
    later_none (x ∷ xs) a h =
        let here : x ≡ 0 = h 0 in
        let kept : bit_or a x ≡ a = rw here (or_zero_r a) in
        later_none xs (bit_or a x) (λ k. h (suc k)) ∙ kept
lacks-first [] vs first second none = absurd (omega arith)
lacks-first (u ∷ us) [] first second none = absurd (omega arith)

-- so one word decides
pub lacks-narrow : (w : ℕ) (us vs : List ℕ) → AreVectorWords w us → AreVectorWords w vs → w ≤ 64 → fold_l bit_or 0 (lacks us vs) ≡ bit_and (get_or vs 0 0) (18446744073709551615 - get_or us 0 0)
lacks-narrow w us vs h k narrow = lacks-first us vs h.four k.four (λ word later. later_word-zero w vs word k narrow later)

-- ---- equality, order

-- the bits of the first word, and 0 past the width
bits_of-first : (w : ℕ) (ws : List ℕ) → AreVectorWords w ws → w ≤ 64 → bools 64 (get_or ws 0 0) ≡ bits_of w ws ++ bools (64 - w) 0
bits_of-first w ws h narrow =
    let whole : w + (64 - w) ≡ 64 = omega arith in
    sym (ap (λ bs. bs ++ bools 64 (get_or ws 0 0)) (bits_of-none ws)) ∙ sym (bits_of-word 0 64 ws (omega arith))
    ∙ ap (λ n. bits_of n ws) (sym whole) ∙ bits_of-append w (64 - w) ws 0 (λ i low. h.past (w + i) (omega arith) ∙ sym (has_bit-zero i))

pub vector_order-narrow : (w : ℕ) (us vs : List ℕ) → AreVectorWords w us → AreVectorWords w vs → w ≤ 64 → vector_order (bools 64 (get_or us 0 0)) (bools 64 (get_or vs 0 0)) ≡ vector_order (bits_of w us) (bits_of w vs)
vector_order-narrow w us vs h k narrow =
    rw (bits_of-first w us h narrow, bits_of-first w vs k narrow)
    (vector_order-append (bits_of w us) (bits_of w vs) (bools (64 - w) 0) (length-bits_of w us ∙ sym (length-bits_of w vs)))

pub Decides-same_words : (us vs : List ℕ) → Decides (pointwise eqb us vs) (us ≡ vs)
Decides-same_words us vs = pointwise_decides (λ (x y : ℕ). (eqb-true x y, eq-eqb x y)) us vs

pub equal-words : (w v : ℕ) (us vs : List ℕ) → AreVectorWords w us → AreVectorWords v vs → bits_of w us ≡ bits_of v vs → (w ≡ v) × (us ≡ vs)
equal-words w v us vs h k e =
    let same = widths-same w v us vs (bits_of w us) (bits_of v vs) refl refl (ap length e) in (
      same,
      same_words us vs (same_long w v us vs h k) h.fit k.fit (λ i. elim (cases_lt i w) [
        | inl within ↦
            let within_other : i < v = omega arith in
            sym (get_or-bits_of w us i true within) ∙ ap (λ bs. get_or bs i true) e ∙ get_or-bits_of v vs i true within_other
        | inr past ↦
            let past_other : v ≤ i = omega arith in
            h.past i past ∙ sym (k.past i past_other)
      ]),
    )

-- where one vector has 1 at the first place at which two differ
pub DifferAt-first : (w : ℕ) (us vs : List ℕ) (place : ℕ) → place < w → IsFirstOtherBit us vs place → bit_of us place ≡ true → DifferAt (bits_of w us) (bits_of w vs) place
DifferAt-first w us vs place within h one = record {
  in_first = rw (length-bits_of w us) within;
  in_second = rw (length-bits_of w vs) within;
  agree = λ i low.
      let i_within : i < w = omega arith in
      rw (get_or-bits_of w us i true i_within, get_or-bits_of w vs i true i_within) (h.same i low);
  one = get_or-bits_of w us place true within ∙ one;
  zero = get_or-bits_of w vs place true within ∙ flip (bit_of us place) (bit_of vs place) h.other one;
}
  where
    flip : (x y : Bool) → x ≡ not y → x ≡ true → y ≡ false
    flip x true e one = absurd (false≢true (sym e ∙ one))
    flip x false e one = refl

-- the other way round
pub IsFirstOtherBit-swap : (us vs : List ℕ) (place : ℕ) → IsFirstOtherBit us vs place → IsFirstOtherBit vs us place
IsFirstOtherBit-swap us vs place h = record { same = λ i low. sym (h.same i low); other = swap (bit_of us place) (bit_of vs place) h.other }
  where
    swap : (x y : Bool) → x ≡ not y → y ≡ not x
    swap true true e = absurd (true≢false e)
    swap true false e = refl
    swap false true e = refl
    swap false false e = absurd (false≢true e)

-- two vectors differ below their width
pub first_difference-within : (w : ℕ) (us vs : List ℕ) (place : ℕ) → AreVectorWords w us → AreVectorWords w vs → IsFirstOtherBit us vs place → place < w
first_difference-within w us vs place h k d =
    elim (cases_lt place w) [
      | inl within ↦ within
      | inr past ↦ absurd (clash (sym (h.past place past) ∙ d.other ∙ ap not (k.past place past)))
    ]
  where
    clash : false ≡ true → ⊥
    clash e = false≢true e

-- the bit that was read at a place
pub bit_of-got : (w : ℕ) (ws : List ℕ) (xs : Vector) (i : ℕ) (b : Bool) → bits_of w ws ≡ xs → i < w → slice_get xs i ≡ Some b → bit_of ws i ≡ b
bit_of-got w ws xs i b view within got =
    let both : Some (bit_of ws i) ≡ Some b = sym (slice_get-bits_of w ws i within) ∙ ap (λ bs. slice_get bs i) view ∙ got in
    cc both

pub order-first_one : (w : ℕ) (us vs : List ℕ) (place : ℕ) → AreVectorWords w us → AreVectorWords w vs → IsFirstOtherBit us vs place → ones_of (bits_of w us) ≡ ones_of (bits_of w vs) → bit_of us place ≡ true → Less ≡ vector_order (bits_of w us) (bits_of w vs)
order-first_one w us vs place h k d same one =
    order-less (bits_of w us) (bits_of w vs) place same (DifferAt-first w us vs place (first_difference-within w us vs place h k d) d one)

pub order-first_zero : (w : ℕ) (us vs : List ℕ) (place : ℕ) → AreVectorWords w us → AreVectorWords w vs → IsFirstOtherBit us vs place → ones_of (bits_of w us) ≡ ones_of (bits_of w vs) → bit_of us place ≡ false → Greater ≡ vector_order (bits_of w us) (bits_of w vs)
order-first_zero w us vs place h k d same none =
    let swapped = IsFirstOtherBit-swap us vs place d in
    order-greater (bits_of w us) (bits_of w vs) place same
    (DifferAt-first w vs us place (first_difference-within w us vs place h k d) swapped (swapped.other ∙ ap not none))

-- the first word in which two differ has the first place
pub IsFirstOtherBit-word : (us vs : List ℕ) (word place : ℕ) → ((k : ℕ) → k < word → get_or us k 0 ≡ get_or vs k 0) → IsLowestDifference (get_or us word 0) (get_or vs word 0) place → IsFirstOtherBit us vs (64 * word + place)
unfolding bit_of
IsFirstOtherBit-word us vs word place same h = record {
  same = λ i low. elim (cases_lt (i / 64) word) [
    | inl before ↦ ap (λ n. has_bit n (i % 64)) (same (i / 64) before)
    | inr here ↦
        let at : i / 64 ≡ word = omega (arith, h.within) in
        rw at (h.same (i % 64) (omega arith))
  ];
  other = bit_of-word us word place h.within ∙ h.other ∙ ap not (sym (bit_of-word vs word place h.within));
}

pub same_from_words : (us vs : List ℕ) (count : ℕ) → length us ≡ count → length vs ≡ count → ((k : ℕ) → k < count → get_or us k 0 ≡ get_or vs k 0) → us ≡ vs
same_from_words [] [] count first second same = refl
same_from_words [] (v ∷ vs) count first second same = absurd (omega arith)
same_from_words (u ∷ us) [] count first second same = absurd (omega arith)
same_from_words (u ∷ us) (v ∷ vs) zero first second same = absurd (omega arith)
same_from_words (u ∷ us) (v ∷ vs) (suc count) first second same =
    let here : u ≡ v = same 0 (omega arith) in
    let rest : us ≡ vs = same_from_words us vs count (omega arith) (omega arith) (λ k low. same (suc k) (omega arith)) in
    cc (here, rest)

-- ---- count

-- places past the width add no one
ones_of-past : (w more : ℕ) (ws : List ℕ) → ((i : ℕ) → i < more → bit_of ws (w + i) ≡ false) → ones_of (bits_of (w + more) ws) ≡ ones_of (bits_of w ws)
ones_of-past w more ws none =
    let no_more : ones_of (bools more 0) ≡ 0 = ones_of-bools more 0 (pow_pos more) ∙ ones-zero in
    ap ones_of (bits_of-append w more ws 0 (λ i low. none i low ∙ sym (has_bit-zero i)))
    ∙ ones_of-append (bits_of w ws) (bools more 0)
    ∙ omega arith

pub ones_of-words : (w : ℕ) (ws : List ℕ) → AreVectorWords w ws → ones_of (bits_of w ws) ≡ ones (get_or ws 0 0) + ones (get_or ws 1 0) + ones (get_or ws 2 0) + ones (get_or ws 3 0)
ones_of-words w ws h =
    sym (ones_of-past w (256 - w) ws (λ i low. h.past (w + i) (omega arith)))
    ∙ ap (λ n. ones_of (bits_of n ws)) (let e : w + (256 - w) ≡ 256 = omega (arith, h.high) in e)
    ∙ word_more 3 ∙ ap (λ n. n + ones (get_or ws 3 0)) (word_more 2 ∙ ap (λ n. n + ones (get_or ws 2 0)) (word_more 1 ∙ ap (λ n. n + ones (get_or ws 1 0)) (word_more 0 ∙ ap (λ bs. ones_of bs + ones (get_or ws 0 0)) (bits_of-none ws) ∙ omega arith)))
  where
    word_more : (word : ℕ) → ones_of (bits_of (64 * word + 64) ws) ≡ ones_of (bits_of (64 * word) ws) + ones (get_or ws word 0)
    word_more word =
        ap ones_of (bits_of-word word 64 ws (omega arith))
        ∙ ones_of-append (bits_of (64 * word) ws) (bools 64 (get_or ws word 0))
        ∙ ap (λ n. ones_of (bits_of (64 * word) ws) + n) (ones_of-bools 64 (get_or ws word 0) (h.fit word))

pub ones_of-narrow : (w : ℕ) (ws : List ℕ) → AreVectorWords w ws → w ≤ 64 → ones_of (bits_of w ws) ≡ ones (get_or ws 0 0)
ones_of-narrow w ws h narrow =
    ones_of-words w ws h
    ∙ rw (later_word-zero w ws 1 h narrow (lit< tt), later_word-zero w ws 2 h narrow (lit< tt), later_word-zero w ws 3 h narrow (lit< tt), ones-zero) (omega arith)
