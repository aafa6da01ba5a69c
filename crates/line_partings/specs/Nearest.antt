-- The nearer of two places where plans part.
use Rattle.std.specs.Prelude.{ℕ, Option, None, Some, ◌∷◌, length, nat_le, if◌then◌else◌}
use Rattle.line_partings.specs.Partings.{PartingValue}

-- a card before the history
abbrev pub with_card : ℕ → PartingValue → PartingValue
with_card card parting = record { history = card ∷ parting.history; card = parting.card; other = parting.other }

-- the one with the shorter history, or the first of two that are equally short
abbrev pub nearer : Option PartingValue → Option PartingValue → Option PartingValue
nearer None there = there
nearer (Some here) None = Some here
nearer (Some here) (Some there) = if nat_le (length here.history) (length there.history) then Some here else Some there
