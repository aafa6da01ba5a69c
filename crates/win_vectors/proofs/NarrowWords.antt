-- A vector of at most 64 layouts in one word.
use Rattle.std.proofs.Common.{◌≡◌, ℕ, suc, zero, ◌/◌, ◌%◌, ◌<◌, ◌≤◌, false, List, [], ◌∷◌, refl, sym, ap, ◌∙◌, arith, inl, inr, get_or}
use Rattle.std.proofs.lemmas.Bool.{cases_lt}
use Rattle.std.proofs.lemmas.Nat.{pow_pos}
use Rattle.bit_lists.specs.Bits.{has_bit}
use Rattle.bit_lists.specs.Words.{bit_of, bits_of}
use Rattle.bit_lists.proofs.Bools.{has_bit-zero}
use Rattle.bit_lists.proofs.Words.{bits_of-same}
use Rattle.win_vectors.specs.Words.{AreVectorWords}
use Rattle.win_vectors.proofs.WordVectors.{four_fit}

get_or-past_first : (a word : ℕ) → 1 ≤ word → get_or (a ∷ 0 ∷ 0 ∷ 0 ∷ []) word 0 ≡ 0
get_or-past_first a zero low = absurd (omega (arith, low))
get_or-past_first a (suc zero) low = refl
get_or-past_first a (suc (suc zero)) low = refl
get_or-past_first a (suc (suc (suc zero))) low = refl
get_or-past_first a (suc (suc (suc (suc word)))) low = refl

bit_of-first_word : (ws : List ℕ) (i : ℕ) → i < 64 → bit_of (get_or ws 0 0 ∷ 0 ∷ 0 ∷ 0 ∷ []) i ≡ bit_of ws i
unfolding bit_of
bit_of-first_word ws i low =
    let first : i / 64 ≡ 0 = omega arith in
    ap (λ k. has_bit (get_or (get_or ws 0 0 ∷ 0 ∷ 0 ∷ 0 ∷ []) k 0) (i % 64)) first ∙ sym (ap (λ k. has_bit (get_or ws k 0) (i % 64)) first)

bit_of-past_first : (a i : ℕ) → 64 ≤ i → bit_of (a ∷ 0 ∷ 0 ∷ 0 ∷ []) i ≡ false
unfolding bit_of
bit_of-past_first a i high = ap (λ n. has_bit n (i % 64)) (get_or-past_first a (i / 64) (omega arith)) ∙ has_bit-zero (i % 64)

-- the first word alone is the vector,
pub AreVectorWords-first : (w : ℕ) (ws : List ℕ) → AreVectorWords w ws → w ≤ 64 → AreVectorWords w (get_or ws 0 0 ∷ 0 ∷ 0 ∷ 0 ∷ [])
AreVectorWords-first w ws h narrow = record {
  low = h.low;
  high = h.high;
  four = refl;
  fit = four_fit (get_or ws 0 0) 0 0 0 (h.fit 0) (pow_pos 64) (pow_pos 64) (pow_pos 64);
  past = λ i past.
      elim (cases_lt i 64) [
        | inl low ↦ bit_of-first_word ws i low ∙ h.past i past
        | inr high ↦ bit_of-past_first (get_or ws 0 0) i high
      ];
}

-- with the same bits
pub bits_of-first : (w : ℕ) (ws : List ℕ) → w ≤ 64 → bits_of w (get_or ws 0 0 ∷ 0 ∷ 0 ∷ 0 ∷ []) ≡ bits_of w ws
bits_of-first w ws narrow = bits_of-same w (get_or ws 0 0 ∷ 0 ∷ 0 ∷ 0 ∷ []) ws (λ i below. bit_of-first_word ws i (omega (arith, below, narrow)))
