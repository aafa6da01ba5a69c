-- What a list of machine words means: 64 places to a word, the lowest bit of the first word first.
use Rattle.std.specs.Prelude.{ℕ, ◌+◌, ◌*◌, ◌/◌, ◌%◌, Bool, false, List, map, get_or}
use Rattle.bit_lists.specs.Bits.{has_bit, below, number_of}

-- the bit at a place
unfoldable pub bit_of : List ℕ → ℕ → Bool
bit_of words place = has_bit (get_or words (place / 64) 0) (place % 64)

-- the bits at the first places
unfoldable pub bits_of : ℕ → List ℕ → List Bool
unfolding below
bits_of width words = map (bit_of words) (below width)

-- the word of the 64 bits from a place of a list on, with 0 past its end
unfoldable pub word_from : List Bool → ℕ → ℕ
unfolding below
word_from bits start = number_of (map (λ place. get_or bits (start + place) false) (below 64))

-- this many words that have these bits
unfoldable pub words_of : ℕ → List Bool → List ℕ
unfolding below
words_of count bits = map (λ word. word_from bits (64 * word)) (below count)
