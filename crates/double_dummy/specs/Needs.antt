-- Other needs.
use Rattle.std.specs.Prelude.{ℕ, ◌≤◌, Bool, true, false}
use Rattle.trick_rules.specs.Positions.{State}

-- the same cards, trick, leader and trumps, where declarer's side needs this many tricks
abbrev pub with_need : State → ℕ → State
with_need s need = record { position = record s.position { need = need }; left = s.left }

-- a need that the answer to another one settles: a lower one where that is made, a higher one where it fails
abbrev pub IsSettled : Bool → ℕ → ℕ → Type 0
IsSettled true need other = other ≤ need
IsSettled false need other = (need ≤ other) × (other ≤ 13)
