-- Vectors in four words, and the bits from a place on.
use Rattle.std.proofs.Common.{◌≡◌, ◌≢◌, ℕ, suc, zero, ◌+◌, ◌-◌, ◌*◌, ◌/◌, ◌%◌, ◌^◌, ◌<◌, ◌≤◌, Bool, true, false, ◌&&◌, ◌||◌, List, [], ◌∷◌, length, refl, sym, ap, ◌∙◌, arith, inl, inr, bit_and, bit_or, slice_set, get_or, replicate, subst, lit<}
use Rattle.std.proofs.Math.Bool.{or-false}
use Rattle.std.proofs.lemmas.Bool.{cases_eq, cases_lt}
use Rattle.std.proofs.lemmas.List.{length-set, length-replicate, get_or-replicate, get_or-set_same, get_or-set_other}
use Rattle.std.proofs.lemmas.Nat.{and_le_l, shr_le, or_lt, pow_pos}
use Rattle.std.specs.Simd.Lanes.{zip2}
use Rattle.bit_lists.specs.Bits.{has_bit}
use Rattle.bit_lists.specs.Words.{bit_of, bits_of}
use Rattle.bit_lists.proofs.Bools.{has_bit-and, has_bit-or, has_bit-zero}
use Rattle.bit_lists.proofs.Words.{bit_of-word, below_64, length-bits_of, get_or-bits_of, bits_of-from}
use Rattle.win_vectors.specs.Vectors.{meet_of, either_of}
use Rattle.win_vectors.specs.Fronts.{Vector}
use Rattle.win_vectors.specs.Words.{AreVectorWords, IsOnesBelow, IsWordFrom, PutsBits}
use Rattle.win_vectors.proofs.VectorLemmas.{length-meet_of, get_or-meet_of, length-either_of, get_or-either_of}
use Rattle.win_vectors.proofs.WordBits.{SetsPlace, has_bit-shr, has_bit-shl_low, has_bit-shl_high, has_bit_past}

-- two vectors of one width
pub widths-same : (w v : ℕ) (us vs : List ℕ) (xs ys : Vector) → bits_of w us ≡ xs → bits_of v vs ≡ ys → length xs ≡ length ys → w ≡ v
widths-same w v us vs xs ys first second e = sym (length-bits_of w us) ∙ ap length first ∙ e ∙ sym (ap length second) ∙ length-bits_of v vs

-- ---- all, none

abbrev zero_words : List ℕ
zero_words = 0 ∷ 0 ∷ 0 ∷ 0 ∷ []

pub get_or-zero_words : (word : ℕ) → get_or zero_words word 0 ≡ 0
get_or-zero_words zero = refl
get_or-zero_words (suc zero) = refl
get_or-zero_words (suc (suc zero)) = refl
get_or-zero_words (suc (suc (suc zero))) = refl
get_or-zero_words (suc (suc (suc (suc word)))) = refl

pub bit_of-zero_words : (i : ℕ) → bit_of zero_words i ≡ false
unfolding bit_of
bit_of-zero_words i = ap (λ n. has_bit n (i % 64)) (get_or-zero_words (i / 64)) ∙ has_bit-zero (i % 64)

pub AreVectorWords-none : (w : ℕ) → 1 ≤ w → w ≤ 256 → AreVectorWords w (0 ∷ 0 ∷ 0 ∷ 0 ∷ [])
AreVectorWords-none w low high = record {
  low = low;
  high = high;
  four = refl;
  fit = λ word. subst (λ (n : ℕ). n < 2 ^ 64) (sym (get_or-zero_words word)) (pow_pos 64);
  past = λ i past. bit_of-zero_words i;
}

pub bits_of-zeros : (w : ℕ) → bits_of w (0 ∷ 0 ∷ 0 ∷ 0 ∷ []) ≡ replicate w false
bits_of-zeros w = bits_of-from w zero_words (replicate w false) (length-replicate w false) (λ i d h. get_or-replicate w i false d h ∙ sym (bit_of-zero_words i))

-- the words of a vector of ones
pub record AreOnes (w a b c d : ℕ) : Type 0 where
  pub first : IsOnesBelow w 0 a
  pub second : IsOnesBelow w 64 b
  pub third : IsOnesBelow w 128 c
  pub fourth : IsOnesBelow w 192 d

ones-below : (w a b c d : ℕ) → w ≤ 256 → AreOnes w a b c d → (word place : ℕ) → place < 64 → 64 * word + place < w → has_bit (get_or (a ∷ b ∷ c ∷ d ∷ []) word 0) place ≡ true
ones-below w a b c d high h zero place within below = h.first.below place within (omega arith)
ones-below w a b c d high h (suc zero) place within below = h.second.below place within (omega arith)
ones-below w a b c d high h (suc (suc zero)) place within below = h.third.below place within (omega arith)
ones-below w a b c d high h (suc (suc (suc zero))) place within below = h.fourth.below place within (omega arith)
ones-below w a b c d high h (suc (suc (suc (suc word)))) place within below = absurd (omega arith)

ones-past : (w a b c d : ℕ) → AreOnes w a b c d → (word place : ℕ) → place < 64 → w ≤ 64 * word + place → has_bit (get_or (a ∷ b ∷ c ∷ d ∷ []) word 0) place ≡ false
ones-past w a b c d h zero place within past = h.first.past place within (omega arith)
ones-past w a b c d h (suc zero) place within past = h.second.past place within (omega arith)
ones-past w a b c d h (suc (suc zero)) place within past = h.third.past place within (omega arith)
ones-past w a b c d h (suc (suc (suc zero))) place within past = h.fourth.past place within (omega arith)
ones-past w a b c d h (suc (suc (suc (suc word)))) place within past = has_bit-zero place

pub four_fit : (a b c d : ℕ) → a < 2 ^ 64 → b < 2 ^ 64 → c < 2 ^ 64 → d < 2 ^ 64 → (word : ℕ) → get_or (a ∷ b ∷ c ∷ d ∷ []) word 0 < 2 ^ 64
four_fit a b c d fa fb fc fd zero = fa
four_fit a b c d fa fb fc fd (suc zero) = fb
four_fit a b c d fa fb fc fd (suc (suc zero)) = fc
four_fit a b c d fa fb fc fd (suc (suc (suc zero))) = fd
four_fit a b c d fa fb fc fd (suc (suc (suc (suc word)))) = pow_pos 64

pub AreVectorWords-ones : (w a b c d : ℕ) → 1 ≤ w → w ≤ 256 → a < 2 ^ 64 → b < 2 ^ 64 → c < 2 ^ 64 → d < 2 ^ 64 → AreOnes w a b c d → AreVectorWords w (a ∷ b ∷ c ∷ d ∷ [])
unfolding bit_of
AreVectorWords-ones w a b c d low high fa fb fc fd h = record {
  low = low;
  high = high;
  four = refl;
  fit = four_fit a b c d fa fb fc fd;
  past = λ i past. ones-past w a b c d h (i / 64) (i % 64) (below_64 i) (omega arith);
}

pub bits_of-ones : (w a b c d : ℕ) → w ≤ 256 → AreOnes w a b c d → bits_of w (a ∷ b ∷ c ∷ d ∷ []) ≡ replicate w true
unfolding bit_of
bits_of-ones w a b c d high h =
    bits_of-from w (a ∷ b ∷ c ∷ d ∷ []) (replicate w true) (length-replicate w true) (λ i e within.
    get_or-replicate w i true e within ∙ sym (ones-below w a b c d high h (i / 64) (i % 64) (below_64 i) (omega arith)))

-- ---- one word changed

pub bit_of-set_same : (ws : List ℕ) (word bits place : ℕ) → word < length ws → place < 64 → bit_of (slice_set ws word bits) (64 * word + place) ≡ has_bit bits place
bit_of-set_same ws word bits place within low =
    bit_of-word (slice_set ws word bits) word place low ∙ ap (λ n. has_bit n place) (get_or-set_same ws word bits 0 within)

pub bit_of-set_other : (ws : List ℕ) (word bits i : ℕ) → i / 64 ≢ word → bit_of (slice_set ws word bits) i ≡ bit_of ws i
unfolding bit_of
bit_of-set_other ws word bits i apart = ap (λ n. has_bit n (i % 64)) (get_or-set_other ws word (i / 64) bits 0 apart)

pub set_fits : (ws : List ℕ) (word bits : ℕ) → word < length ws → bits < 2 ^ 64 → ((k : ℕ) → get_or ws k 0 < 2 ^ 64) → (k : ℕ) → get_or (slice_set ws word bits) k 0 < 2 ^ 64
set_fits ws word bits within fits each k =
    elim (cases_eq k word) [
      | inl same ↦ rw (same, get_or-set_same ws word bits 0 within) fits
      | inr apart ↦ rw (get_or-set_other ws word k bits 0 apart) (each k)
    ]

-- a place other than that of the bit
bit_of-set_elsewhere : (ws : List ℕ) (word place : ℕ) (b : Bool) (new i : ℕ) → word < length ws → place < 64 → SetsPlace (get_or ws word 0) place b new → i ≢ 64 * word + place → bit_of (slice_set ws word new) i ≡ bit_of ws i
unfolding bit_of
bit_of-set_elsewhere ws word place b new i within low h apart =
    elim (cases_eq (i / 64) word) [
      | inl here ↦
          let other : i % 64 ≢ place = λ same. apart (omega arith) in
          rw here (ap (λ n. has_bit n (i % 64)) (get_or-set_same ws word new 0 within) ∙ h.others (i % 64) (omega arith) other)
      | inr elsewhere ↦ ap (λ n. has_bit n (i % 64)) (get_or-set_other ws word (i / 64) new 0 elsewhere)
    ]

pub bits_of-set : (w : ℕ) (ws : List ℕ) (word place : ℕ) (b : Bool) (new at : ℕ) → at ≡ 64 * word + place → at < w → word < length ws → place < 64 → SetsPlace (get_or ws word 0) place b new → bits_of w (slice_set ws word new) ≡ slice_set (bits_of w ws) at b
bits_of-set w ws word place b new at is_at below within low h =
    let in_list : at < length (bits_of w ws) = rw (length-bits_of w ws) below in
    let here : bit_of (slice_set ws word new) at ≡ b = rw is_at (bit_of-set_same ws word new place within low ∙ h.here) in
    bits_of-from w (slice_set ws word new) (slice_set (bits_of w ws) at b) (length-set (bits_of w ws) at b ∙ length-bits_of w ws) (λ i d in_width.
    elim (cases_eq i at) [
      | inl same ↦ rw same (get_or-set_same (bits_of w ws) at b d in_list ∙ sym here)
      | inr apart ↦
          let other : i ≢ 64 * word + place = λ same. apart (omega arith) in
          get_or-set_other (bits_of w ws) at i b d apart ∙ get_or-bits_of w ws i d in_width ∙ sym (bit_of-set_elsewhere ws word place b new i within low h other)
    ])

pub AreVectorWords-set : (w : ℕ) (ws : List ℕ) (word place : ℕ) (b : Bool) (new at : ℕ) → at ≡ 64 * word + place → at < w → place < 64 → AreVectorWords w ws → SetsPlace (get_or ws word 0) place b new → AreVectorWords w (slice_set ws word new)
AreVectorWords-set w ws word place b new at is_at below low h s =
    let within : word < length ws = omega (arith, h.high, h.four) in
    record {
      low = h.low;
      high = h.high;
      four = length-set ws word new ∙ h.four;
      fit = set_fits ws word new within s.fits h.fit;
      past = λ i past.
          let other : i ≢ 64 * word + place = λ same. absurd (omega arith) in
          bit_of-set_elsewhere ws word place b new i within low s other ∙ h.past i past;
    }

-- ---- 64 bits from a place on

pub IsWordFrom-at : (ws : List ℕ) (start word : ℕ) → start ≡ 64 * word → IsWordFrom ws start (get_or ws word 0)
IsWordFrom-at ws start word at = λ i low. sym (ap (λ n. bit_of ws (n + i)) at ∙ bit_of-word ws word i low)

pub IsWordFrom-across : (ws : List ℕ) (start word place : ℕ) → start ≡ 64 * word + place → 0 < place → place < 64 → get_or ws word 0 < 2 ^ 64 → IsWordFrom ws start (bit_or (get_or ws word 0 / 2 ^ place) (get_or ws (word + 1) 0 * 2 ^ (64 - place) % 18446744073709551616))
IsWordFrom-across ws start word place at some low fits = λ i within.
    let first = get_or ws word 0 in
    let second = get_or ws (word + 1) 0 in
    has_bit-or (first / 2 ^ place) (second * 2 ^ (64 - place) % 18446744073709551616) i
    ∙ elim (cases_lt i (64 - place)) [
      | inl below ↦
          let split : start + i ≡ 64 * word + (place + i) = omega arith in
          let in_word : place + i < 64 = omega arith in
          rw (has_bit-shr first place i, has_bit-shl_low second (64 - place) i within below)
          (or-false (has_bit first (place + i)) ∙ sym (ap (bit_of ws) split ∙ bit_of-word ws word (place + i) in_word))
      | inr above ↦
          let past : has_bit first (place + i) ≡ false = has_bit_past first 64 (place + i) fits (omega arith) in
          let split : start + i ≡ 64 * (word + 1) + (i - (64 - place)) = omega arith in
          let in_word : i - (64 - place) < 64 = omega arith in
          rw (has_bit-shr first place i, past, has_bit-shl_high second (64 - place) i within above)
          (sym (ap (bit_of ws) split ∙ bit_of-word ws (word + 1) (i - (64 - place)) in_word))
    ]

-- the bits of the words below a place, and those that stand from there on, in the word of the place and the next one
record IsPutAcross (start bits word place : ℕ) (old new : List ℕ) : Type 0 where
  pub before : (k : ℕ) → k ≢ word → k ≢ word + 1 → get_or new k 0 ≡ get_or old k 0
  pub low : (i : ℕ) → i < place → has_bit (get_or new word 0) i ≡ has_bit (get_or old word 0) i
  pub high : (i : ℕ) → i < 64 → place ≤ i → has_bit (get_or new word 0) i ≡ has_bit bits (i - place)
  pub next : (i : ℕ) → i < 64 → has_bit (get_or new (word + 1) 0) i ≡ has_bit bits (64 - place + i)

PutsBits-kept : (start bits word place : ℕ) (old new : List ℕ) → start ≡ 64 * word + place → place < 64 → IsPutAcross start bits word place old new → (i : ℕ) → i < start → bit_of new i ≡ bit_of old i
unfolding bit_of
PutsBits-kept start bits word place old new at low h i below =
    elim (cases_eq (i / 64) word) [
      | inl here ↦ rw here (h.low (i % 64) (omega arith))
      | inr elsewhere ↦ ap (λ n. has_bit n (i % 64)) (h.before (i / 64) elsewhere (λ same. absurd (omega arith)))
    ]

PutsBits-put : (start bits word place : ℕ) (old new : List ℕ) → start ≡ 64 * word + place → place < 64 → bits < 2 ^ 64 → ((i : ℕ) → start ≤ i → bit_of old i ≡ false) → IsPutAcross start bits word place old new → (i : ℕ) → bit_of new (start + i) ≡ has_bit bits i
unfolding bit_of
PutsBits-put start bits word place old new at low fits clear h i =
    elim (cases_lt i (64 - place)) [
      | inl first ↦
          let here : (start + i) / 64 ≡ word = omega arith in
          let there : (start + i) % 64 ≡ place + i = omega arith in
          let moved : place + i - place ≡ i = omega arith in
          rw (here, there) (h.high (place + i) (omega arith) (omega arith) ∙ ap (has_bit bits) moved)
      | inr later ↦
          elim (cases_lt i (128 - place)) [
            | inl second ↦
                let here : (start + i) / 64 ≡ word + 1 = omega arith in
                let moved : 64 - place + (start + i) % 64 ≡ i = omega arith in
                rw here (h.next ((start + i) % 64) (omega arith) ∙ ap (has_bit bits) moved)
            | inr third ↦
                let past : has_bit bits i ≡ false = has_bit_past bits 64 i fits (omega arith) in
                ap (λ n. has_bit n ((start + i) % 64)) (h.before ((start + i) / 64) (λ same. absurd (omega arith)) (λ same. absurd (omega arith)))
                ∙ clear (start + i) (omega arith) ∙ sym past
          ]
    ]

-- bits that stand in the word of the place, the others of which are kept
abbrev pub put_low : List ℕ → ℕ → ℕ → ℕ → ℕ
put_low ws word place bits = bit_or (get_or ws word 0) (bits * 2 ^ place % 18446744073709551616)

put_low-below : (ws : List ℕ) (word place bits i : ℕ) → i < 64 → i < place → has_bit (put_low ws word place bits) i ≡ has_bit (get_or ws word 0) i
put_low-below ws word place bits i within below =
    has_bit-or (get_or ws word 0) (bits * 2 ^ place % 18446744073709551616) i ∙ rw (has_bit-shl_low bits place i within below) (or-false (has_bit (get_or ws word 0) i))

put_low-from : (ws : List ℕ) (word place bits i : ℕ) → i < 64 → place ≤ i → has_bit (get_or ws word 0) i ≡ false → has_bit (put_low ws word place bits) i ≡ has_bit bits (i - place)
put_low-from ws word place bits i within from clear =
    has_bit-or (get_or ws word 0) (bits * 2 ^ place % 18446744073709551616) i ∙ rw (clear, has_bit-shl_high bits place i within from) refl

put_low-fits : (ws : List ℕ) (word place bits : ℕ) → get_or ws word 0 < 2 ^ 64 → put_low ws word place bits < 2 ^ 64
put_low-fits ws word place bits fits = or_lt 64 (get_or ws word 0) (bits * 2 ^ place % 18446744073709551616) fits (omega arith)

pub PutsBits-at : (ws : List ℕ) (start word bits : ℕ) → start ≡ 64 * word → word < length ws → bits < 2 ^ 64 → ((i : ℕ) → start ≤ i → bit_of ws i ≡ false) → PutsBits start bits ws (slice_set ws word (put_low ws word 0 bits))
PutsBits-at ws start word bits at within fits clear =
    let new = slice_set ws word (put_low ws word 0 bits) in
    let here : get_or new word 0 ≡ put_low ws word 0 bits = get_or-set_same ws word (put_low ws word 0 bits) 0 within in
    let place : start ≡ 64 * word + 0 = omega arith in
    let across : IsPutAcross start bits word 0 ws new = record {
      before = λ k here next. get_or-set_other ws word k (put_low ws word 0 bits) 0 here;
      low = λ i below. absurd (omega arith);
      high = λ i low from. rw here (put_low-from ws word 0 bits i low from (sym (bit_of-word ws word i low) ∙ clear (64 * word + i) (omega arith)));
      next = λ i low.
          ap (λ n. has_bit n i) (get_or-set_other ws word (word + 1) (put_low ws word 0 bits) 0 (λ same. absurd (omega arith)))
          ∙ sym (bit_of-word ws (word + 1) i low) ∙ clear (64 * (word + 1) + i) (omega arith) ∙ sym (has_bit_past bits 64 (64 - 0 + i) fits (omega arith));
    } in
    record {
      four = λ long. length-set ws word (put_low ws word 0 bits) ∙ long;
      fit = λ each. set_fits ws word (put_low ws word 0 bits) within (put_low-fits ws word 0 bits (each word)) each;
      kept = PutsBits-kept start bits word 0 ws new place (lit< tt) across;
      put = PutsBits-put start bits word 0 ws new place (lit< tt) fits clear across;
    }

pub PutsBits-across : (ws : List ℕ) (start word place bits : ℕ) → start ≡ 64 * word + place → place < 64 → word + 1 < length ws → bits < 2 ^ 64 → ((i : ℕ) → start ≤ i → bit_of ws i ≡ false) → PutsBits start bits ws (slice_set (slice_set ws word (put_low ws word place bits)) (word + 1) (bits / 2 ^ (64 - place)))
PutsBits-across ws start word place bits at low within fits clear =
    let first = put_low ws word place bits in
    let second = bits / 2 ^ (64 - place) in
    let half = slice_set ws word first in
    let new = slice_set half (word + 1) second in
    let in_words : word < length ws = omega arith in
    let in_half : word + 1 < length half = rw (length-set ws word first) within in
    let here : get_or new word 0 ≡ first =
    get_or-set_other half (word + 1) word second 0 (λ same. absurd (omega arith)) ∙ get_or-set_same ws word first 0 in_words in
    let next_word : get_or new (word + 1) 0 ≡ second = get_or-set_same half (word + 1) second 0 in_half in
    let second_fits : second < 2 ^ 64 = omega (arith, shr_le bits (64 - place)) in
    let across : IsPutAcross start bits word place ws new = record {
      before = λ k here next. get_or-set_other half (word + 1) k second 0 next ∙ get_or-set_other ws word k first 0 here;
      low = λ i below. rw here (put_low-below ws word place bits i (omega arith) below);
      high = λ i low from. rw here (put_low-from ws word place bits i low from (sym (bit_of-word ws word i low) ∙ clear (64 * word + i) (omega arith)));
      next = λ i low. rw next_word (has_bit-shr bits (64 - place) i);
    } in
    record {
      four = λ long. length-set half (word + 1) second ∙ length-set ws word first ∙ long;
      fit = λ each. set_fits half (word + 1) second in_half second_fits (set_fits ws word first in_words (put_low-fits ws word place bits (each word)) each);
      kept = PutsBits-kept start bits word place ws new at low across;
      put = PutsBits-put start bits word place ws new at low fits clear across;
    }

-- ---- an operation on each word

get_or-each : (f : ℕ → ℕ → ℕ) → f 0 0 ≡ 0 → (us vs : List ℕ) → length us ≡ length vs → (k : ℕ) → get_or (zip2 f us vs) k 0 ≡ f (get_or us k 0) (get_or vs k 0)
get_or-each f none [] [] e k = sym none
get_or-each f none [] (v ∷ vs) e k = absurd (omega arith)
get_or-each f none (u ∷ us) [] e k = absurd (omega arith)
get_or-each f none (u ∷ us) (v ∷ vs) e zero = refl
get_or-each f none (u ∷ us) (v ∷ vs) e (suc k) = get_or-each f none us vs (omega arith) k

length-each : (f : ℕ → ℕ → ℕ) (us vs : List ℕ) → length us ≡ length vs → length (zip2 f us vs) ≡ length us
length-each f [] vs e = refl
length-each f (u ∷ us) [] e = omega arith
length-each f (u ∷ us) (v ∷ vs) e = omega (arith, length-each f us vs (omega arith))

pub same_long : (w v : ℕ) (us vs : List ℕ) → AreVectorWords w us → AreVectorWords v vs → length us ≡ length vs
same_long w v us vs h k = h.four ∙ sym k.four

-- an operation on each word is a test of each two bits
bit_of-each : (op : ℕ → ℕ → ℕ) (test : Bool → Bool → Bool) → op 0 0 ≡ 0 → ((u v i : ℕ) → has_bit (op u v) i ≡ test (has_bit u i) (has_bit v i))
    → (us vs : List ℕ) (i : ℕ) → length us ≡ length vs → bit_of (zip2 op us vs) i ≡ test (bit_of us i) (bit_of vs i)
unfolding bit_of
bit_of-each op test none each us vs i e =
    ap (λ n. has_bit n (i % 64)) (get_or-each op none us vs e (i / 64)) ∙ each (get_or us (i / 64) 0) (get_or vs (i / 64) 0) (i % 64)

module _ (op : ℕ → ℕ → ℕ) (test : Bool → Bool → Bool) (none : op 0 0 ≡ 0) (each : (u v i : ℕ) → has_bit (op u v) i ≡ test (has_bit u i) (has_bit v i)) where
  AreVectorWords-each : test false false ≡ false → ((u v : ℕ) → u < 2 ^ 64 → v < 2 ^ 64 → op u v < 2 ^ 64) → (w : ℕ) (us vs : List ℕ) → AreVectorWords w us → AreVectorWords w vs → AreVectorWords w (zip2 op us vs)
  AreVectorWords-each dark fits w us vs h k =
      let long = same_long w w us vs h k in
      record {
        low = h.low;
        high = h.high;
        four = length-each op us vs long ∙ h.four;
        fit = λ word. rw (get_or-each op none us vs long word) (fits (get_or us word 0) (get_or vs word 0) (h.fit word) (k.fit word));
        past = λ i past. bit_of-each op test none each us vs i long ∙ rw (h.past i past, k.past i past) dark;
      }

  -- the vector of these bits
  bits_of-each : (combined : Vector → Vector → Vector) → ((xs ys : Vector) → length xs ≡ length ys → length (combined xs ys) ≡ length xs)
      → ((xs ys : Vector) (i : ℕ) (d : Bool) → i < length xs → i < length ys → get_or (combined xs ys) i d ≡ test (get_or xs i d) (get_or ys i d))
      → (w : ℕ) (us vs : List ℕ) → length us ≡ length vs → bits_of w (zip2 op us vs) ≡ combined (bits_of w us) (bits_of w vs)
  bits_of-each combined as_long at w us vs e =
      let long : length (combined (bits_of w us) (bits_of w vs)) ≡ w = as_long (bits_of w us) (bits_of w vs) (length-bits_of w us ∙ sym (length-bits_of w vs)) ∙ length-bits_of w us in
      bits_of-from w (zip2 op us vs) (combined (bits_of w us) (bits_of w vs)) long (λ i d within.
      let in_first : i < length (bits_of w us) = rw (length-bits_of w us) within in
      let in_second : i < length (bits_of w vs) = rw (length-bits_of w vs) within in
      at (bits_of w us) (bits_of w vs) i d in_first in_second ∙ rw (get_or-bits_of w us i d within, get_or-bits_of w vs i d within, bit_of-each op test none each us vs i e) refl)

pub AreVectorWords-both : (w : ℕ) (us vs : List ℕ) → AreVectorWords w us → AreVectorWords w vs → AreVectorWords w (zip2 bit_and us vs)
AreVectorWords-both = AreVectorWords-each bit_and (λ a b. a && b) refl has_bit-and refl (λ u v h k. omega (arith, and_le_l u v, h))

pub AreVectorWords-either : (w : ℕ) (us vs : List ℕ) → AreVectorWords w us → AreVectorWords w vs → AreVectorWords w (zip2 bit_or us vs)
AreVectorWords-either = AreVectorWords-each bit_or (λ a b. a || b) refl has_bit-or refl (or_lt 64)

pub bits_of-both : (w : ℕ) (us vs : List ℕ) → length us ≡ length vs → bits_of w (zip2 bit_and us vs) ≡ meet_of (bits_of w us) (bits_of w vs)
bits_of-both = bits_of-each bit_and (λ a b. a && b) refl has_bit-and meet_of length-meet_of get_or-meet_of

pub bits_of-either : (w : ℕ) (us vs : List ℕ) → length us ≡ length vs → bits_of w (zip2 bit_or us vs) ≡ either_of (bits_of w us) (bits_of w vs)
bits_of-either = bits_of-each bit_or (λ a b. a || b) refl has_bit-or either_of length-either_of get_or-either_of
