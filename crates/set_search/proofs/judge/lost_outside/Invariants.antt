use Rattle.std.proofs.Common.{◌≡◌, ◌<◌, ℕ, true, false, get_or}
use Rattle.set_search.specs.Judged.{makes_there}
use Rattle.set_search.proofs.judge.lost_outside.Given as goal

abbrev pub invariant-loop-place : goal.invariant-loop-place
invariant-loop-place l = (k : ℕ) → k < l.place → get_or l.set k false ≡ true → get_or l.core k false ≡ false → makes_there l.layouts l.position k ≡ true
