-- The machine words of a vector.
use Rattle.std.specs.Prelude.{◌≡◌, ℕ, ◌+◌, ◌≤◌, ◌<◌, ◌^◌, true, false, not, List, length, get_or}
use Rattle.bit_lists.specs.Bits.{bools, has_bit}
use Rattle.bit_lists.specs.Words.{bit_of}
use Rattle.win_vectors.specs.Vectors.{ones_of, restrict_of, spread_of, most_layouts}

-- 1 to 256 bits, and no one past the last
pub record AreVectorWords (width : ℕ) (words : List ℕ) : Type 0 where
  pub low : 1 ≤ width
  pub high : width ≤ most_layouts
  pub four : length words ≡ 4
  pub fit : (word : ℕ) → get_or words word 0 < 2 ^ 64
  pub past : (place : ℕ) → width ≤ place → bit_of words place ≡ false

-- two words have the same bits below a place, and others at it
pub record IsLowestDifference (ours theirs place : ℕ) : Type 0 where
  pub within : place < 64
  pub same : (i : ℕ) → i < place → has_bit ours i ≡ has_bit theirs i
  pub other : has_bit ours place ≡ not (has_bit theirs place)

-- two lists of words have the same bits below a place, and others at it
pub record IsFirstOtherBit (ours theirs : List ℕ) (place : ℕ) : Type 0 where
  pub same : (i : ℕ) → i < place → bit_of ours i ≡ bit_of theirs i
  pub other : bit_of ours place ≡ not (bit_of theirs place)

-- the word of the places from `start` on has a 1 at each that is below the width
pub record IsOnesBelow (width start bits : ℕ) : Type 0 where
  pub below : (place : ℕ) → place < 64 → start + place < width → has_bit bits place ≡ true
  pub past : (place : ℕ) → place < 64 → width ≤ start + place → has_bit bits place ≡ false

-- the word has the 64 bits from a place on
abbrev pub IsWordFrom : List ℕ → ℕ → ℕ → Type 0
IsWordFrom words start bits = (i : ℕ) → i < 64 → has_bit bits i ≡ bit_of words (start + i)

-- the bits below a place are kept, and those of a word stand from there on
pub record PutsBits (start bits : ℕ) (old new : List ℕ) : Type 0 where
  pub four : length old ≡ 4 → length new ≡ 4
  pub fit : ((word : ℕ) → get_or old word 0 < 2 ^ 64) → (word : ℕ) → get_or new word 0 < 2 ^ 64
  pub kept : (i : ℕ) → i < start → bit_of new i ≡ bit_of old i
  pub put : (i : ℕ) → bit_of new (start + i) ≡ has_bit bits i

-- the bits of a word at the ones of the lowest places of a mask, in order
pub record IsRestrictedWord (bits mask places restricted : ℕ) : Type 0 where
  pub fits : restricted < 2 ^ ones_of (bools places mask)
  pub value : bools (ones_of (bools places mask)) restricted ≡ restrict_of (bools places bits) (bools places mask)

-- the bits of a word put at the ones of the lowest places of a mask, in order, and 1 at its zeros
pub record IsSpreadWord (bits mask places spread : ℕ) : Type 0 where
  pub fits : spread < 2 ^ places
  pub value : bools places spread ≡ spread_of (bools (ones_of (bools places mask)) bits) (bools places mask)
