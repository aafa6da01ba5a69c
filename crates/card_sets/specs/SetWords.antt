-- A set of cards is the list of its cards in card order.
use Rattle.std.specs.Prelude.{◌≡◌, ℕ, Bool, true, false, nat_lt, ◌≤◌, Option, List, filter, find}
use Rattle.bit_lists.specs.Bits.{below, among}

-- whether a card is in a set
abbrev pub has_card : List ℕ → ℕ → Bool
has_card cards card = among cards card

-- the cards that pass a test, in card order
unfoldable pub cards_where : (ℕ → Bool) → List ℕ
cards_where test = filter test (below 52)

-- a list that has each of its cards once, in card order
abbrev pub IsCardSet : List ℕ → Type 0
IsCardSet cards = cards ≡ cards_where (has_card cards)

-- each card of the first set is in the second
abbrev pub IsSubset : List ℕ → List ℕ → Type 0
IsSubset part whole = (card : ℕ) → has_card part card ≡ true → has_card whole card ≡ true

-- no card is in both sets
abbrev pub Apart : List ℕ → List ℕ → Type 0
Apart these those = (card : ℕ) → has_card these card ≡ true → has_card those card ≡ false

-- the first card of a set in card order
abbrev pub first_card : List ℕ → Option ℕ
first_card cards = find (λ _. true) cards

-- the first card of a set that comes after a card in card order
abbrev pub next_card : List ℕ → ℕ → Option ℕ
next_card cards card = find (nat_lt card) cards

-- a card of a set that none of the set comes after
pub record IsLast (card : ℕ) (cards : List ℕ) : Type 0 where
  pub held : has_card cards card ≡ true
  pub last : (other : ℕ) → has_card cards other ≡ true → other ≤ card
