use Rattle.std.proofs.Common.{◌≡◌, ℕ, ◌<◌, length, get_or}
use Rattle.layout_maker.proofs.MadePacks.{short_card}
use Rattle.layout_maker.proofs.made.short_pack.Given as goal

abbrev pub invariant-loop-place : goal.invariant-loop-place
invariant-loop-place l = record { twenty : length l.card-items ≡ 20; each : (k : ℕ) → k < l.place → get_or l.card-items k 0 ≡ short_card k }
