-- What was written of the line that says why a run was refused.
use Rattle.std.specs.Prelude.{◌≡◌, ◌⊎◌, ℕ, List, Option, Result, Ok, Err}
use Rattle.std.specs.Io.KnownBytes.{append_known}
use Rattle.am_outside.specs.Faults.{Rose}
use Rattle.am_outside.specs.Sink.{AppendsPart}
use Rattle.am_outside.specs.declared.sink.SinkFailed.{SinkFailed}

-- the whole text was added to what was written before; or, if a write failed, a proper prefix of it
abbrev pub IsWritten : Option (List ℕ) → List ℕ → Option (List ℕ) → Result (Unit {0}) SinkFailed → Type 0
IsWritten before text now (Ok done) = now ≡ append_known before text
IsWritten before text now (Err failed) = AppendsPart before text now

-- the whole line came after what was told before, or a fault came in between and a proper prefix of it was written
abbrev pub IsSaid : List ℕ → Option (List ℕ) → Option (List ℕ) → ℕ → ℕ → Type 0
IsSaid line before now faults_before faults_now = (now ≡ append_known before line) ⊎ (Rose faults_before faults_now × AppendsPart before line now)
