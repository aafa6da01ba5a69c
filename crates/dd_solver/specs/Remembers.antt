-- What callers see of a solver's memory.
use Rattle.std.specs.Prelude.{ℕ}

-- the most answers that it may have room for, and for how many it has now
pub record Remembers : Type 0 where
  pub limit : ℕ
  pub entries : ℕ
