-- Restricting and spreading, word by word.
use Rattle.std.proofs.Common.{◌≡◌, ℕ, ◌+◌, ◌-◌, ◌*◌, ◌^◌, ◌<◌, ◌≤◌, false, List, [], ◌∷◌, ◌++◌, length, refl, sym, ap, ◌∙◌, arith, if◌then◌else◌, nat_lt, slice_set, get_or, inl, inr}
use Rattle.std.proofs.lemmas.Bool.{cases_lt}
use Rattle.std.proofs.lemmas.Bool.Decides.{nat_tests}
use Rattle.std.proofs.lemmas.List.{length-set}
use Rattle.std.specs.Int.Count.{ones}
use Rattle.bit_lists.specs.Bits.{has_bit, bools}
use Rattle.bit_lists.specs.Words.{bit_of, bits_of}
use Rattle.bit_lists.proofs.Bools.{length-bools}
use Rattle.bit_lists.proofs.Words.{bit_of-word, length-bits_of, bits_of-same, bits_of-none, bits_of-append, bits_of-word}
use Rattle.win_vectors.specs.Vectors.{ones_of, restrict_of, spread_of}
use Rattle.win_vectors.specs.Words.{AreVectorWords, IsRestrictedWord, IsSpreadWord, IsWordFrom, PutsBits}
use Rattle.win_vectors.proofs.VectorLemmas.{ones_of-append, ones_of-le, restrict_of-append, spread_of-append}
use Rattle.win_vectors.proofs.WordBits.{ones_of-bools, ones_of-lowest, has_bit_past}
use Rattle.win_vectors.proofs.WordVectors.{bit_of-set_same, bit_of-set_other, set_fits, bit_of-zero_words, get_or-zero_words}

-- the places of the first words that are below the width
abbrev pub done_at : ℕ → ℕ → ℕ
done_at width word = if nat_lt (64 * word) width then 64 * word else width

-- those of the next word
abbrev pub next_places : ℕ → ℕ → ℕ
next_places width word = if nat_lt (64 * word + 64) width then 64 else width - 64 * word

done_at-next : (width word : ℕ) → 64 * word < width → done_at width (word + 1) ≡ 64 * word + next_places width word
done_at-next width word more = grind (arith, nat_tests)

done_at-before : (width word : ℕ) → 64 * word < width → done_at width word ≡ 64 * word
done_at-before width word more = grind (arith, nat_tests)

pub done_at-end : (width word : ℕ) → width ≤ 64 * word → done_at width word ≡ width
done_at-end width word end = grind (arith, nat_tests)

done_at-start : (width : ℕ) → done_at width 0 ≡ 0
done_at-start width = grind (arith, nat_tests)

pub next_places-most : (width word : ℕ) → 64 * word < width → next_places width word ≤ 64
next_places-most width word more = grind (arith, nat_tests)

next_places-past : (width word i : ℕ) → 64 * word < width → next_places width word ≤ i → i < 64 → width ≤ 64 * word + i
next_places-past width word i more past within = grind (arith, nat_tests)

-- the ones of the next word of a vector
next_ones : (width word : ℕ) (mask : List ℕ) → AreVectorWords width mask → 64 * word < width → ones_of (bools (next_places width word) (get_or mask word 0)) ≡ ones (get_or mask word 0)
next_ones width word mask h more =
    ones_of-lowest (next_places width word) (get_or mask word 0) (next_places-most width word more) (h.fit word) (λ i past low.
    sym (bit_of-word mask word i low) ∙ h.past (64 * word + i) (next_places-past width word i more past low))

-- the ones at the places that are done, and those of the next word
ones_of-next : (width word : ℕ) (mask : List ℕ) → AreVectorWords width mask → 64 * word < width → ones_of (bits_of (64 * word + next_places width word) mask) ≡ ones_of (bits_of (64 * word) mask) + ones (get_or mask word 0)
ones_of-next width word mask h more =
    ap ones_of (bits_of-word word (next_places width word) mask (next_places-most width word more))
    ∙ ones_of-append (bits_of (64 * word) mask) (bools (next_places width word) (get_or mask word 0))
    ∙ ap (λ n. ones_of (bits_of (64 * word) mask) + n) (next_ones width word mask h more)

pub ones_of_a_word : (bits : ℕ) → bits < 2 ^ 64 → ones bits ≤ 64
ones_of_a_word bits fits = omega (arith, ones_of-bools 64 bits fits, ones_of-le (bools 64 bits), length-bools 64 bits)

zero_words-fit : (word : ℕ) → get_or (0 ∷ 0 ∷ 0 ∷ 0 ∷ []) word 0 < 2 ^ 64
zero_words-fit word = omega (arith, get_or-zero_words word)

-- four words in which all is 0 from a place on
pub record AreClearFrom (place : ℕ) (words : List ℕ) : Type 0 where
  pub clear : (i : ℕ) → place ≤ i → bit_of words i ≡ false
  pub four : length words ≡ 4
  pub fit : (word : ℕ) → get_or words word 0 < 2 ^ 64

-- where the mask has this many ones at the places that are done, a word still fits after them
pub room_for_a_word : (width word ones : ℕ) (mask : List ℕ) → ones ≡ ones_of (bits_of (done_at width word) mask) → 64 * word < width → width ≤ 256 → ones ≤ 192
room_for_a_word width word ones mask counted more high =
    let same : ones ≡ ones_of (bits_of (64 * word) mask) = counted ∙ ap (λ n. ones_of (bits_of n mask)) (done_at-before width word more) in
    omega (arith, ones_of-le (bits_of (64 * word) mask), length-bits_of (64 * word) mask)

-- ---- restrict

-- of the places that are done, the bits at the ones of the mask stand in the words
pub record RestrictsWords (self mask : List ℕ) (done width : ℕ) (words : List ℕ) : Type 0 where
  pub counted : width ≡ ones_of (bits_of done mask)
  pub so_far : bits_of width words ≡ restrict_of (bits_of done self) (bits_of done mask)
  pub rest : AreClearFrom width words

RestrictsWords-more : (width word place bits : ℕ) (self mask words new : List ℕ) → AreVectorWords width mask → 64 * word < width → IsRestrictedWord (get_or self word 0) (get_or mask word 0) (next_places width word) bits → PutsBits place bits words new → RestrictsWords self mask (64 * word) place words → RestrictsWords self mask (64 * word + next_places width word) (place + ones (get_or mask word 0)) new
RestrictsWords-more width word place bits self mask words new h more r put so_far =
    let n = next_places width word in
    let most : n ≤ 64 = next_places-most width word more in
    let count : ones_of (bools n (get_or mask word 0)) ≡ ones (get_or mask word 0) = next_ones width word mask h more in
    let fits : bits < 2 ^ ones (get_or mask word 0) = rw (← count) r.fits in
    let value : bools (ones (get_or mask word 0)) bits ≡ restrict_of (bools n (get_or self word 0)) (bools n (get_or mask word 0)) = rw (← count) r.value in
    record {
      counted = ap (λ k. k + ones (get_or mask word 0)) so_far.counted ∙ sym (ones_of-next width word mask h more);
      so_far =
          bits_of-append place (ones (get_or mask word 0)) new bits (λ i low. put.put i)
          ∙ ap (λ bs. bs ++ bools (ones (get_or mask word 0)) bits) (bits_of-same place new words (λ i low. put.kept i low) ∙ so_far.so_far)
          ∙ ap (λ bs. restrict_of (bits_of (64 * word) self) (bits_of (64 * word) mask) ++ bs) value
          ∙ sym (rw (bits_of-word word n self most, bits_of-word word n mask most)
          (restrict_of-append (bits_of (64 * word) self) (bools n (get_or self word 0)) (bits_of (64 * word) mask) (bools n (get_or mask word 0)) (length-bits_of (64 * word) self ∙ sym (length-bits_of (64 * word) mask))));
      rest = record {
        clear = λ i past.
            let split : i ≡ place + (i - place) = omega arith in
            ap (bit_of new) split ∙ put.put (i - place) ∙ has_bit_past bits (ones (get_or mask word 0)) (i - place) fits (omega arith);
        four = put.four so_far.rest.four;
        fit = put.fit so_far.rest.fit;
      };
    }

pub RestrictsWords-next : (width word place bits : ℕ) (self mask words new : List ℕ) → AreVectorWords width mask → 64 * word < width → IsRestrictedWord (get_or self word 0) (get_or mask word 0) (next_places width word) bits → PutsBits place bits words new → RestrictsWords self mask (done_at width word) place words → RestrictsWords self mask (done_at width (word + 1)) (place + ones (get_or mask word 0)) new
RestrictsWords-next width word place bits self mask words new h more r put so_far =
    rw (done_at-next width word more) (RestrictsWords-more width word place bits self mask words new h more r put (rw (done_at-before width word more) at so_far))

pub RestrictsWords-end : (width word place : ℕ) (self mask words : List ℕ) → AreVectorWords width mask → width ≤ 64 * word → 1 ≤ ones_of (bits_of width mask) → RestrictsWords self mask (done_at width word) place words → AreVectorWords place words
RestrictsWords-end width word place self mask words h end some so_far =
    let counted : place ≡ ones_of (bits_of width mask) = so_far.counted ∙ ap (λ n. ones_of (bits_of n mask)) (done_at-end width word end) in
    record {
      low = omega arith;
      high = omega (arith, ones_of-le (bits_of width mask), length-bits_of width mask, h.high);
      four = so_far.rest.four;
      fit = so_far.rest.fit;
      past = so_far.rest.clear;
    }

-- ---- spread

-- the bits before `from` stand at the ones of the mask, of the places that are done, and 1 at its zeros
pub record SpreadsWords (self mask : List ℕ) (done from : ℕ) (words : List ℕ) : Type 0 where
  pub counted : from ≡ ones_of (bits_of done mask)
  pub so_far : bits_of done words ≡ spread_of (bits_of from self) (bits_of done mask)
  pub rest : AreClearFrom done words

SpreadsWords-more : (width word from next bits : ℕ) (self mask words : List ℕ) → AreVectorWords width mask → 64 * word < width → word < 4 → bits < 2 ^ 64 → IsWordFrom self from next → IsSpreadWord next (get_or mask word 0) (next_places width word) bits → SpreadsWords self mask (64 * word) from words → SpreadsWords self mask (64 * word + next_places width word) (from + ones (get_or mask word 0)) (slice_set words word bits)
SpreadsWords-more width word from next bits self mask words h more in_words word_fits window spread so_far =
    let n = next_places width word in
    let new = slice_set words word bits in
    let most : n ≤ 64 = next_places-most width word more in
    let within : word < length words = omega (arith, so_far.rest.four) in
    let count : ones_of (bools n (get_or mask word 0)) ≡ ones (get_or mask word 0) = next_ones width word mask h more in
    let few : ones (get_or mask word 0) ≤ 64 = omega (arith, ones_of-le (bools n (get_or mask word 0)), length-bools n (get_or mask word 0)) in
    let value : bools n bits ≡ spread_of (bools (ones (get_or mask word 0)) next) (bools n (get_or mask word 0)) = rw (← count) spread.value in
    let here : (i : ℕ) → i < 64 → bit_of new (64 * word + i) ≡ has_bit bits i = λ i low. bit_of-set_same words word bits i within low in
    record {
      counted = ap (λ k. k + ones (get_or mask word 0)) so_far.counted ∙ sym (ones_of-next width word mask h more);
      so_far =
          bits_of-append (64 * word) n new bits (λ i low. here i (omega arith))
          ∙ ap (λ bs. bs ++ bools n bits) (bits_of-same (64 * word) new words (λ i low. bit_of-set_other words word bits i (λ same. absurd (omega arith))) ∙ so_far.so_far)
          ∙ ap (λ bs. spread_of (bits_of from self) (bits_of (64 * word) mask) ++ bs) value
          ∙ sym (rw (bits_of-append from (ones (get_or mask word 0)) self next (λ i low. sym (window i (omega arith))), bits_of-word word n mask most)
          (spread_of-append (bits_of from self) (bools (ones (get_or mask word 0)) next) (bits_of (64 * word) mask) (bools n (get_or mask word 0)) (length-bits_of from self ∙ so_far.counted)));
      rest = record {
        clear = λ i past. elim (cases_lt i (64 * word + 64)) [
          | inl inside ↦
              let split : i ≡ 64 * word + (i - 64 * word) = omega arith in
              ap (bit_of new) split ∙ here (i - 64 * word) (omega arith) ∙ has_bit_past bits n (i - 64 * word) spread.fits (omega arith)
          | inr beyond ↦ bit_of-set_other words word bits i (λ same. absurd (omega arith)) ∙ so_far.rest.clear i (omega arith)
        ];
        four = length-set words word bits ∙ so_far.rest.four;
        fit = set_fits words word bits within word_fits so_far.rest.fit;
      };
    }

pub SpreadsWords-next : (width word from next bits : ℕ) (self mask words : List ℕ) → AreVectorWords width mask → 64 * word < width → word < 4 → bits < 2 ^ 64 → IsWordFrom self from next → IsSpreadWord next (get_or mask word 0) (next_places width word) bits → SpreadsWords self mask (done_at width word) from words → SpreadsWords self mask (done_at width (word + 1)) (from + ones (get_or mask word 0)) (slice_set words word bits)
SpreadsWords-next width word from next bits self mask words h more in_words word_fits window spread so_far =
    rw (done_at-next width word more) (SpreadsWords-more width word from next bits self mask words h more in_words word_fits window spread (rw (done_at-before width word more) at so_far))

pub SpreadsWords-end : (width word from : ℕ) (self mask words : List ℕ) → AreVectorWords width mask → width ≤ 64 * word → SpreadsWords self mask (done_at width word) from words → AreVectorWords width words
SpreadsWords-end width word from self mask words h end so_far = record {
  low = h.low;
  high = h.high;
  four = so_far.rest.four;
  fit = so_far.rest.fit;
  past = λ i past. so_far.rest.clear i (rw (done_at-end width word end) past);
}

-- ---- before the first word

pub nothing_done : (width : ℕ) (self mask : List ℕ)
    → RestrictsWords self mask (done_at width 0) 0 (0 ∷ 0 ∷ 0 ∷ 0 ∷ []) × SpreadsWords self mask (done_at width 0) 0 (0 ∷ 0 ∷ 0 ∷ 0 ∷ [])
nothing_done width self mask =
    let none = bits_of-none (0 ∷ 0 ∷ 0 ∷ 0 ∷ []) in
    let counted : 0 ≡ ones_of (bits_of 0 mask) = rw (bits_of-none mask) refl in
    let rest : AreClearFrom 0 (0 ∷ 0 ∷ 0 ∷ 0 ∷ []) = record { clear = λ i from. bit_of-zero_words i; four = refl; fit = zero_words-fit } in
    rw (done_at-start width) (
      record { counted = counted; so_far = rw (bits_of-none self, none) refl; rest = rest },
      record { counted = counted; so_far = rw (bits_of-none mask, none) refl; rest = rest },
    )
