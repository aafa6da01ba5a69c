-- What the words of two vectors of one width say of both.
use Rattle.std.proofs.Common.{◌≡◌, ℕ, ◌-◌, ◌<◌, ◌≤◌, true, false, List, length, sym, ap, ◌∙◌, bit_and, bit_or, ◌==◌, slice_get, Some, get_or}
use Rattle.std.specs.Bool.{Decides}
use Rattle.std.specs.declared.cmp.Ordering.TheVariants.{Less, Greater}
use Rattle.std.specs.Simd.Lanes.{zip2, fold_l}
use Rattle.bit_lists.specs.Words.{bits_of}
use Rattle.bit_lists.proofs.Words.{length-bits_of}
use Rattle.win_vectors.specs.Vectors.{ones_of, meet_of, either_of, dominates, vector_order}
use Rattle.win_vectors.specs.Fronts.{Vector, Dominates}
use Rattle.win_vectors.specs.Words.{AreVectorWords, IsFirstOtherBit}
use Rattle.win_vectors.proofs.WordVectors.{widths-same, AreVectorWords-both, AreVectorWords-either, bits_of-both, bits_of-either}
use Rattle.win_vectors.proofs.WordOrders.{lacks, dominates-words, Decides-lacks, lacks-narrow, first_difference-within, order-first_one, order-first_zero, bit_of-got}

module _ (w v : ℕ) (us vs : List ℕ) (xs ys : Vector) (first : bits_of w us ≡ xs) (second : bits_of v vs ≡ ys) (as_long : length xs ≡ length ys)
    (h : AreVectorWords w us) (k : AreVectorWords v vs) where
  same : w ≡ v
  same = widths-same w v us vs xs ys first second as_long

  beside : AreVectorWords w vs
  beside = rw same k

  -- ---- the bits where both have 1, or either

  pub both-words : AreVectorWords w (zip2 bit_and us vs)
  both-words = AreVectorWords-both w us vs h beside

  pub both-bits : bits_of w (zip2 bit_and us vs) ≡ meet_of xs ys
  both-bits = rw (← first, ← second, ← same) (bits_of-both w us vs (h.four ∙ sym k.four))

  pub either-words : AreVectorWords w (zip2 bit_or us vs)
  either-words = AreVectorWords-either w us vs h beside

  pub either-bits : bits_of w (zip2 bit_or us vs) ≡ either_of xs ys
  either-bits = rw (← first, ← second, ← same) (bits_of-either w us vs (h.four ∙ sym k.four))

  -- ---- dominance, by all words and by the first alone

  pub dominates-by_words : (fold_l bit_or 0 (lacks us vs) == 0) ≡ dominates xs ys
  dominates-by_words = rw (← first, ← second, ← same) (dominates-words w us vs h beside)

  pub Decides-by_words : Decides (fold_l bit_or 0 (lacks us vs) == 0) (Dominates xs ys)
  Decides-by_words = rw (← first, ← second, ← same) (Decides-lacks w us vs h beside)

  pub dominates-by_word : w ≤ 64 → (bit_and (get_or vs 0 0) (18446744073709551615 - get_or us 0 0) == 0) ≡ dominates xs ys
  dominates-by_word narrow = rw (← lacks-narrow w us vs h beside narrow) dominates-by_words

  pub Decides-by_word : w ≤ 64 → Decides (bit_and (get_or vs 0 0) (18446744073709551615 - get_or us 0 0) == 0) (Dominates xs ys)
  Decides-by_word narrow = rw (← lacks-narrow w us vs h beside narrow) Decides-by_words

  -- ---- the order, by the first bit at which they differ

  module _ (place : ℕ) (differ : IsFirstOtherBit us vs place) where
    below : place < w
    below = first_difference-within w us vs place h beside differ

    pub place-within : place < length xs
    place-within = rw (← first, length-bits_of w us) below

    module _ (count : ones_of xs ≡ ones_of ys) where
      counts : ones_of (bits_of w us) ≡ ones_of (bits_of w vs)
      counts = ap ones_of first ∙ count ∙ sym (ap (λ n. ones_of (bits_of n vs)) same ∙ ap ones_of second)

      pub order-by_one : slice_get xs place ≡ Some true → Less ≡ vector_order xs ys
      order-by_one one = rw (← first, ← second, ← same) (order-first_one w us vs place h beside differ counts (bit_of-got w us xs place true first below one))

      pub order-by_zero : slice_get xs place ≡ Some false → Greater ≡ vector_order xs ys
      order-by_zero none = rw (← first, ← second, ← same) (order-first_zero w us vs place h beside differ counts (bit_of-got w us xs place false first below none))
