-- A sink in memory as its callers see it.
use Rattle.std.specs.Prelude.{ℕ, ◌-◌, Bool, ◌&&◌, ◌||◌, ◌==◌, if◌then◌else◌, nat_lt, min, List, [], ◌++◌, length, take}
use Rattle.am_outside.specs.Faults.{one_more}

-- what a sink in memory holds
pub record MemorySinkValue : Type 0 where
  -- what was written
  pub bytes : List ℕ
  -- how many bytes fit in all
  pub room : ℕ
  -- how many bytes a write takes at most
  pub step : ℕ
  -- the number of the write that fails, from 1; 0 if none does
  pub fail_at : ℕ
  -- writes asked for so far
  pub calls : ℕ
  -- faults counted so far
  pub faults : ℕ

-- a sink to which nothing was written
abbrev pub new_sink : ℕ → ℕ → ℕ → MemorySinkValue
new_sink room step fail_at = record { bytes = []; room = room; step = step; fail_at = fail_at; calls = 0; faults = 0 }

-- whether the next write is the one that fails
abbrev pub next_write_fails : MemorySinkValue → Bool
next_write_fails sink = one_more sink.calls == sink.fail_at

-- the part of a piece that the next write takes: none if it fails, and otherwise what fits, up to a step
abbrev pub part_taken : MemorySinkValue → List ℕ → List ℕ
part_taken sink piece = if next_write_fails sink then [] else take (min sink.step (sink.room - length sink.bytes)) piece

-- whether the next write counts a fault: it fails, or takes nothing of a piece that has bytes
abbrev pub counts_fault : MemorySinkValue → List ℕ → Bool
counts_fault sink piece = next_write_fails sink || (nat_lt 0 (length piece) && (length (part_taken sink piece) == 0))

-- the sink after a write of this piece
abbrev pub after_write : MemorySinkValue → List ℕ → MemorySinkValue
after_write sink piece = record sink {
  bytes = sink.bytes ++ part_taken sink piece;
  calls = one_more sink.calls;
  faults = if counts_fault sink piece then one_more sink.faults else sink.faults;
}
