use Rattle.std.proofs.Common.{◌≡◌, All, map, take}
use Rattle.trick_rules.specs.Positions.{FitsLeft}
use Rattle.bit_questions.specs.Numbers.{cards_at}
use Rattle.bit_questions.proofs.layouts.lefts_at.Given as goal

abbrev pub invariant-loop-place : goal.invariant-loop-place
invariant-loop-place l = record { lefts : l.all.items ≡ map cards_at (take l.place l.lefts); fit : All (FitsLeft l.position) l.all.items }
