-- How long a log may be.
use Rattle.std.specs.Prelude.{ℕ}

-- the most lines of a log, so that the number after the last fits 32 bits
abbrev pub most_lines : ℕ
most_lines = 4294967294
