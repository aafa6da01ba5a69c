-- A generator of numbers, and lists that it shuffles.
use Rattle.std.specs.Prelude.{ℕ, zero, suc, ◌+◌, ◌-◌, ◌*◌, ◌%◌, List, [], ◌∷◌, length}
use Rattle.std.specs.List.{swap}

-- what the generator's number becomes before each draw
abbrev pub next_state : ℕ → ℕ
next_state state = (75 * state + 74) % 65537

-- a list in its present order, and the generator's number
pub record Shuffle : Type 0 where
  pub items : List ℕ
  pub state : ℕ

-- the item at a place is exchanged with one drawn from the places up to its own
abbrev pub exchanged : ℕ → Shuffle → Shuffle
exchanged place shuffle =
    let state = next_state shuffle.state in
    record { items = swap shuffle.items place (state % (place + 1)); state = state }

-- the exchanges at this place and at each one before it, down to place 1
unfoldable pub exchanged_from : ℕ → Shuffle → Shuffle
exchanged_from zero shuffle = shuffle
exchanged_from (suc place) shuffle = exchanged_from place (exchanged (suc place) shuffle)

-- the whole list shuffled: exchanges from its last place down to place 1
unfoldable pub shuffled : Shuffle → Shuffle
shuffled shuffle = exchanged_from (length shuffle.items - 1) shuffle

-- a list shuffled that many times over, each time going on from the one before, and its order after each time
unfoldable pub orders : ℕ → Shuffle → List (List ℕ)
orders zero shuffle = []
orders (suc times) shuffle = let next = shuffled shuffle in next.items ∷ orders times next
