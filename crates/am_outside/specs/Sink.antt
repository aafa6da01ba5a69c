-- What is written to a sink.
use Rattle.std.specs.Prelude.{◌≡◌, ℕ, ◌<◌, Bool, true, ◌&&◌, ◌==◌, nat_lt, List, length, take, Option, Result, Ok, Err}
use Rattle.std.specs.Io.KnownBytes.{append_known}
use Rattle.am_outside.specs.declared.sink.SinkFailed.{SinkFailed}

-- a proper prefix of the piece came after what was told before
abbrev pub AppendsPart : Option (List ℕ) → List ℕ → Option (List ℕ) → Type 0
AppendsPart before piece now = (n : ℕ) × (n < length piece) × (now ≡ append_known before (take n piece))

-- a write failed, or it took nothing of a piece that has bytes
abbrev pub is_fault : Result ℕ SinkFailed → List ℕ → Bool
is_fault (Ok taken) piece = (taken == 0) && nat_lt 0 (length piece)
is_fault (Err refusal) piece = true
