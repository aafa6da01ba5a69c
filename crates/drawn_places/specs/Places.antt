-- Places of a list, counted from 0.
use Rattle.std.specs.Prelude.{◌≡◌, ◌<◌, ◌==◌, ℕ, Bool, List, length, All, AllPairs}
use Rattle.std.specs.List.{list_any}

-- this many different places of a list of this length, in order
pub record ArePlaces (size amount : ℕ) (places : List ℕ) : Type 0 where
  pub count : length places ≡ amount
  pub inside : All (λ place. place < size) places
  pub ascending : AllPairs (λ place later. place < later) places

-- whether a place is one of these
abbrev pub is_among : List ℕ → ℕ → Bool
is_among places place = list_any (λ other. other == place) places
