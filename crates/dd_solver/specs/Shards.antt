-- The rule of a memo that threads share: a shard whose turn no thread has is at home.
use Rattle.std.specs.Prelude.{◌≡◌, ℕ, ◌<◌, [], ◌∷◌, slice_index, length}
use mathlib.Core.Option.{some}
use lib.ListN.{get_elem?}
use Rattle.atomic_table.specs.Table.{State, Me}

module _ {S V : Type 0} where
  -- the shard i is at home
  abbrev pub IsHome : ℕ → State S V → Type 0
  IsHome i s = (shard : S) × (get_elem? s.homes i ≡ some (some shard))

  -- each shard has a turn, and is at home if nobody has it
  pub record AreHome (s : State S V) : Type 0 where
    pub turns : length s.words ≡ length s.homes
    pub home : (i : ℕ) → i < length s.homes → slice_index s.words i ≡ 0 → IsHome i s

  -- a seat holds the shard i, and no other
  abbrev pub HoldsOnly : ℕ → Me S V → Type 0
  HoldsOnly i m = (shard : S) × (m.1 ≡ (i, shard) ∷ [])
