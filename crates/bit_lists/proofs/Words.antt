-- The bits of words by their places.
use Rattle.std.proofs.Common.{◌≡◌, ℕ, suc, zero, ◌+◌, ◌*◌, ◌^◌, ◌/◌, ◌%◌, ◌<◌, ◌≤◌, Bool, true, false, List, [], ◌∷◌, ◌++◌, map, length, refl, sym, ap, ◌∙◌, arith, slice_get, get_or, Some, inl, inr, append_assoc, append-nil}
use Rattle.std.proofs.lemmas.Bool.{cases_lt}
use Rattle.std.proofs.lemmas.List.{same_lists, get_or_past}
use Rattle.std.proofs.lemmas.Option.{slice_get-get_or}
use Rattle.std.proofs.lemmas.List.FromFn.{length-map-range_with_len, get_or-map-range_with_len, map-range_with_len_more}
use Rattle.std.specs.List.{range_with_len}
use Rattle.bit_lists.specs.Bits.{has_bit, below, bools, number_of}
use Rattle.bit_lists.proofs.Bools.{bools-more, bools-zero, bools-same, map-range-same, number_of-bools, same_from_bools}
use Rattle.bit_lists.specs.Words.{bit_of, bits_of, word_from, words_of}

-- ---- one bit

pub bit_of-word : (ws : List ℕ) (word place : ℕ) → place < 64 → bit_of ws (64 * word + place) ≡ has_bit (get_or ws word 0) place
unfolding bit_of
bit_of-word ws word place within =
    let in_word : (64 * word + place) / 64 ≡ word = omega arith in
    let at : (64 * word + place) % 64 ≡ place = omega arith in
    rw (in_word, at) refl

pub below_64 : (i : ℕ) → i % 64 < 64
below_64 i = omega arith

-- ---- the bits at the first places

pub length-bits_of : (w : ℕ) (ws : List ℕ) → length (bits_of w ws) ≡ w
unfolding bits_of below
length-bits_of w ws = length-map-range_with_len (bit_of ws) 0 w

pub get_or-bits_of : (w : ℕ) (ws : List ℕ) (i : ℕ) (d : Bool) → i < w → get_or (bits_of w ws) i d ≡ bit_of ws i
unfolding bits_of below
get_or-bits_of w ws i d h = get_or-map-range_with_len (bit_of ws) 0 w i i d h (omega arith)

pub slice_get-bits_of : (w : ℕ) (ws : List ℕ) (i : ℕ) → i < w → slice_get (bits_of w ws) i ≡ Some (bit_of ws i)
slice_get-bits_of w ws i h =
    let within : i < length (bits_of w ws) = rw (length-bits_of w ws) h in
    slice_get-get_or (bits_of w ws) i true within ∙ ap Some (get_or-bits_of w ws i true h)

-- a list that agrees with the bits is the list of bits
pub bits_of-from : (w : ℕ) (ws : List ℕ) (bs : List Bool) → length bs ≡ w → ((i : ℕ) (d : Bool) → i < w → get_or bs i d ≡ bit_of ws i) → bits_of w ws ≡ bs
bits_of-from w ws bs e h =
    same_lists (bits_of w ws) bs (length-bits_of w ws ∙ sym e) (λ i d within.
    let i_below : i < w = omega (arith, length-bits_of w ws) in
    get_or-bits_of w ws i d i_below ∙ sym (h i d i_below))

-- words with the same bits
pub bits_of-same : (w : ℕ) (us vs : List ℕ) → ((i : ℕ) → i < w → bit_of us i ≡ bit_of vs i) → bits_of w us ≡ bits_of w vs
unfolding bits_of below
bits_of-same w us vs h = map-range-same (bit_of us) (bit_of vs) 0 w (λ i low high. h i (omega arith))

pub bits_of-none : (ws : List ℕ) → bits_of 0 ws ≡ []
unfolding bits_of below
bits_of-none ws = refl

-- one bit more
bits_of-more : (w : ℕ) (ws : List ℕ) → bits_of (w + 1) ws ≡ bits_of w ws ++ bit_of ws w ∷ []
unfolding bits_of below
bits_of-more w ws = map-range_with_len_more (bit_of ws) 0 w w (omega arith)

-- the bits of a number more
pub bits_of-append : (w n : ℕ) (ws : List ℕ) (bits : ℕ) → ((i : ℕ) → i < n → bit_of ws (w + i) ≡ has_bit bits i) → bits_of (w + n) ws ≡ bits_of w ws ++ bools n bits
bits_of-append w zero ws bits same =
    let none : w + 0 ≡ w = omega arith in
    rw (none, bools-zero bits) (sym (append-nil (bits_of w ws)))
bits_of-append w (suc n) ws bits same =
    let more : w + suc n ≡ (w + n) + 1 = omega arith in
    let one : suc n ≡ n + 1 = omega arith in
    let rest = bits_of-append w n ws bits (λ i within. same i (omega arith)) in
    rw (more, one, bits_of-more (w + n) ws, bools-more n bits, rest, same n (omega arith)) (append_assoc (bits_of w ws) (bools n bits) (has_bit bits n ∷ []))

-- the bits of a word more
pub bits_of-word : (word n : ℕ) (ws : List ℕ) → n ≤ 64 → bits_of (64 * word + n) ws ≡ bits_of (64 * word) ws ++ bools n (get_or ws word 0)
bits_of-word word n ws high = bits_of-append (64 * word) n ws (get_or ws word 0) (λ i within. bit_of-word ws word i (omega arith))

-- ---- words by their bits

-- a word by its bits
pub same_word : (a b : ℕ) → a < 2 ^ 64 → b < 2 ^ 64 → ((i : ℕ) → i < 64 → has_bit a i ≡ has_bit b i) → a ≡ b
same_word a b a_fits b_fits same = same_from_bools 64 a b a_fits b_fits (bools-same 64 a b same)

-- within a list the default is of no account
default_zero : (xs : List ℕ) (k d : ℕ) → k < length xs → get_or xs k d ≡ get_or xs k 0
default_zero [] k d h = absurd (omega arith)
default_zero (x ∷ xs) zero d h = refl
default_zero (x ∷ xs) (suc k) d h = default_zero xs k d (omega arith)

-- two lists of words with the same bits
pub same_words : (us vs : List ℕ) → length us ≡ length vs → ((k : ℕ) → get_or us k 0 < 2 ^ 64) → ((k : ℕ) → get_or vs k 0 < 2 ^ 64) → ((i : ℕ) → bit_of us i ≡ bit_of vs i) → us ≡ vs
same_words us vs long us_fit vs_fit same =
    same_lists us vs long (λ k d within.
    let in_other : k < length vs = omega arith in
    let word : get_or us k 0 ≡ get_or vs k 0 =
    same_word (get_or us k 0) (get_or vs k 0) (us_fit k) (vs_fit k) (λ i low. sym (bit_of-word us k i low) ∙ same (64 * k + i) ∙ bit_of-word vs k i low) in
    default_zero us k d within ∙ word ∙ sym (default_zero vs k d in_other))

-- ---- the words of a list of bits

-- this many words, with no bit past the width
pub record AreWordsOf (count width : ℕ) (words : List ℕ) : Type 0 where
  pub long : length words ≡ count
  pub fit : (word : ℕ) → get_or words word 0 < 2 ^ 64
  pub past : (place : ℕ) → width ≤ place → bit_of words place ≡ false

get_or-bits_of_past : (count w : ℕ) (ws : List ℕ) (i : ℕ) → AreWordsOf count w ws → get_or (bits_of w ws) i false ≡ bit_of ws i
get_or-bits_of_past count w ws i h =
    elim (cases_lt i w) [
      | inl within ↦ get_or-bits_of w ws i false within
      | inr past ↦ get_or_past (bits_of w ws) i false (rw (length-bits_of w ws) past) ∙ sym (h.past i past)
    ]

word_from-bits_of : (count w : ℕ) (ws : List ℕ) (word : ℕ) → AreWordsOf count w ws → word_from (bits_of w ws) (64 * word) ≡ get_or ws word 0
unfolding word_from bools below
word_from-bits_of count w ws word h =
    ap number_of (map-range-same (λ place. get_or (bits_of w ws) (64 * word + place) false) (has_bit (get_or ws word 0)) 0 64 (λ i low high. get_or-bits_of_past count w ws (64 * word + i) h ∙ bit_of-word ws word i (omega arith)))
    ∙ number_of-bools 64 (get_or ws word 0) (h.fit word)

pub words_of-bits_of : (count w : ℕ) (ws : List ℕ) → AreWordsOf count w ws → words_of count (bits_of w ws) ≡ ws
unfolding words_of below
words_of-bits_of count w ws h =
    let long : length (map (λ word. word_from (bits_of w ws) (64 * word)) (range_with_len 0 count)) ≡ count =
    length-map-range_with_len (λ word. word_from (bits_of w ws) (64 * word)) 0 count in
    same_lists (map (λ word. word_from (bits_of w ws) (64 * word)) (range_with_len 0 count)) ws (long ∙ sym h.long) (λ k d within.
    let k_below : k < count = omega arith in
    let in_words : k < length ws = omega (arith, h.long) in
    get_or-map-range_with_len (λ word. word_from (bits_of w ws) (64 * word)) 0 count k k d k_below (omega arith)
    ∙ word_from-bits_of count w ws k h ∙ sym (default_zero ws k d in_words))
