-- The card that leads so far.
use Rattle.std.specs.Prelude.{ℕ, Option, Some, None, nat_lt, if◌then◌else◌}

-- a card with its best weight takes the lead where it wins more than each card before it
abbrev pub leader : Option (ℕ × ℕ) → ℕ → ℕ → ℕ × ℕ
leader None card weight = (card, weight)
leader (Some best) card weight = if nat_lt best.1 weight then (card, weight) else best
